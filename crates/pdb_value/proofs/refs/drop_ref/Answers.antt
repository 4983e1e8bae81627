use Rattle.std.proofs.Common.{if◌then◌else◌, sym, ap, ◌∙◌, arith}
use Rattle.std.proofs.lemmas.Result.{err_from_is_err_and}
use Rattle.sdb_base.specs.Content.{count_down}
use Rattle.pdb_model.specs.Tables.{recounted, removed}
use Rattle.pdb_value.specs.Faults.{HasTable}
use Rattle.pdb_value.proofs.Held.{agrees, first_sound}
use Rattle.pdb_value.proofs.Sound.{same_or}
use Rattle.pdb_value.proofs.refs.drop_ref.Goals as goal

pub returns-in_err-first-clause-sound : goal.returns-in_err-first-clause-sound
returns-in_err-first-clause-sound g c cells t h drafts keeps spells holds =
    let p = err_from_is_err_and c.from_residual.result c.from_residual.ensures.1 in
    rw (p.1, p.2) (first_sound cells c.args.column c.args.at.tier c.args.at.slot t h _ (omega arith) keeps spells holds (c.in_err-first.ensures.faults cells drafts))

pub returns-in_err-free_value-clause-faults : goal.returns-in_err-free_value-clause-faults
returns-in_err-free_value-clause-faults g c cells drafts within =
    let has = c.in_ok-first.ensures.end cells drafts in
    let p = err_from_is_err_and c.from_residual-in_err-free_value.result c.from_residual-in_err-free_value.ensures.1 in
    rw (p.1, p.2) (c.in_err-free_value.ensures.faults cells (c.read_first.ensures.stays cells drafts) has (within c.in_ok-first.first.end has))

pub returns-in_err-free_value-clause-sound : goal.returns-in_err-free_value-clause-sound
returns-in_err-free_value-clause-sound g c cells t h drafts keeps spells holds =
    let same = agrees cells c.args.column c.args.at.tier c.args.at.slot c.in_ok-first.first.end t h c.in_ok-first.first.cell.items c.in_ok-first.first.fields.key c.in_ok-first.first.fields.count c.in_ok-first.first.fields.len c.in_ok-first.first.fields.next spells holds (c.in_ok-first.ensures.cell cells drafts) c.in_ok-first.ensures.first in
    let p = err_from_is_err_and c.from_residual-in_err-free_value.result c.from_residual-in_err-free_value.ensures.1 in
    rw (p.1, p.2) (c.in_err-free_value.ensures.sound cells t h (c.read_first.ensures.stays cells drafts) (c.in_ok-first.ensures.end cells drafts) spells holds same.len_is same.next_is)

pub returns-then-fields-eq1-clause-only : goal.returns-then-fields-eq1-clause-only
returns-then-fields-eq1-clause-only g c cells drafts within =
    let has = c.in_ok-first.ensures.end cells drafts in
    c.in_ok-free_value.ensures.only cells (c.read_first.ensures.stays cells drafts) has (within c.in_ok-first.first.end has)

pub returns-then-fields-eq1-clause-dropped : goal.returns-then-fields-eq1-clause-dropped
returns-then-fields-eq1-clause-dropped g c cells t h drafts spells holds =
    let same = agrees cells c.args.column c.args.at.tier c.args.at.slot c.in_ok-first.first.end t h c.in_ok-first.first.cell.items c.in_ok-first.first.fields.key c.in_ok-first.first.fields.count c.in_ok-first.first.fields.len c.in_ok-first.first.fields.next spells holds (c.in_ok-first.ensures.cell cells drafts) c.in_ok-first.ensures.first in (
      ap count_down (sym c.if-fields-eq1.true ∙ same.count_is),
      c.in_ok-free_value.ensures.removed cells t h (c.read_first.ensures.stays cells drafts) (c.in_ok-first.ensures.end cells drafts) spells holds same.len_is same.next_is,
    )

pub returns-clause-dropped : goal.returns-clause-dropped
returns-clause-dropped g c cells t h drafts spells holds =
    let same = agrees cells c.args.column c.args.at.tier c.args.at.slot c.in_ok-first.first.end t h c.in_ok-first.first.cell.items c.in_ok-first.first.fields.key c.in_ok-first.first.fields.count c.in_ok-first.first.fields.len c.in_ok-first.first.fields.next spells holds (c.in_ok-first.ensures.cell cells drafts) c.in_ok-first.ensures.first in
    let step = c.in_ok-put_count.ensures.recounted cells (c.read_first.ensures.stays cells drafts) (c.in_ok-first.ensures.cell cells drafts) in
    let some = c.one_down-count.ensures.some c.if-fields-eq1.false in (
      c.one_down-count.ensures.count ∙ ap count_down same.count_is,
      (
        step.0,
        step.1,
        same_or c.one_down-count.result 0
            (λ b. HasTable step.0 c.args.column c.args.at.tier (if b then removed t c.args.at.slot else recounted t c.args.at.slot c.one_down-count.result))
            (λ e. absurd (omega arith)) (λ _. step.2.table t h spells holds),
      ),
    )
