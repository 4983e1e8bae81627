use Rattle.std.proofs.Common.{◌≡◌, true, sym, ◌∙◌, arith}
use Rattle.std.proofs.lemmas.Result.{err_from_is_err_and}
use Rattle.std.proofs.lemmas.Slice.Eq.{bytes_eq-Decides}
use Rattle.pdb_value.proofs.FirstSlots.{first_at}
use Rattle.pdb_value.proofs.Held.{agrees, first_sound}
use Rattle.pdb_value.proofs.values.count.Goals as goal

pub returns-in_err-first-clause-sound : goal.returns-in_err-first-clause-sound
returns-in_err-first-clause-sound g c cells t h seen keeps spells holds =
    let p = err_from_is_err_and c.from_residual.result c.from_residual.ensures.1 in
    rw (p.1, p.2) (first_sound cells c.args.column c.args.at.tier c.args.at.slot t h _ (omega arith) keeps spells holds (c.in_err-first.ensures.faults cells seen))

pub returns-then-eq-clause-held : goal.returns-then-eq-clause-held
returns-then-eq-clause-held g c cells t h seen spells holds =
    let same = agrees cells c.args.column c.args.at.tier c.args.at.slot c.in_ok-first.first.end t h c.in_ok-first.first.cell.items c.in_ok-first.first.fields.key c.in_ok-first.first.fields.count
    c.in_ok-first.first.fields.len c.in_ok-first.first.fields.next spells holds (c.in_ok-first.ensures.cell cells seen) c.in_ok-first.ensures.first in
    (sym same.key_is ∙ (bytes_eq-Decides _ _).0 (sym c.eq.ensures ∙ c.if-eq.true), sym same.count_is)

pub returns-clause-answer : goal.returns-clause-answer
returns-clause-answer g c cells seen = (
  c.in_ok-first.first.fields.key,
  c.in_ok-first.first.fields.count,
  first_at cells c.args.column c.args.at.tier c.args.at.slot c.in_ok-first.first.end c.in_ok-first.first.cell.items c.in_ok-first.first.fields.key c.in_ok-first.first.fields.count
      c.in_ok-first.first.fields.len c.in_ok-first.first.fields.next (c.in_ok-first.ensures.cell cells seen) c.in_ok-first.ensures.first,
  λ e. let yes : c.eq.result ≡ true = c.eq.ensures ∙ (bytes_eq-Decides _ _).1 e in let no = c.if-eq.false in cc,
)

pub returns-clause-held : goal.returns-clause-held
returns-clause-held g c cells t h seen spells holds e =
    let same = agrees cells c.args.column c.args.at.tier c.args.at.slot c.in_ok-first.first.end t h c.in_ok-first.first.cell.items c.in_ok-first.first.fields.key c.in_ok-first.first.fields.count
    c.in_ok-first.first.fields.len c.in_ok-first.first.fields.next spells holds (c.in_ok-first.ensures.cell cells seen) c.in_ok-first.ensures.first in
    let yes : c.eq.result ≡ true = c.eq.ensures ∙ (bytes_eq-Decides _ _).1 (same.key_is ∙ e) in let no = c.if-eq.false in cc
