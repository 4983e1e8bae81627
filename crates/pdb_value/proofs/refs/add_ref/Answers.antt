use Rattle.std.proofs.Common.{ap, ◌∙◌, arith}
use Rattle.std.proofs.lemmas.Result.{err_from_is_err_and}
use Rattle.sdb_base.specs.Content.{count_up}
use Rattle.pdb_value.proofs.Held.{agrees, first_sound}
use Rattle.pdb_value.proofs.refs.add_ref.Goals as goal

pub returns-in_err-first-clause-sound : goal.returns-in_err-first-clause-sound
returns-in_err-first-clause-sound g c cells t h seen keeps spells holds =
    let p = err_from_is_err_and c.from_residual.result c.from_residual.ensures.1 in
    rw (p.1, p.2) (first_sound cells c.args.column c.args.at.tier c.args.at.slot t h _ (omega arith) keeps spells holds (c.in_err-first.ensures.faults cells seen))

pub returns-clause-only : goal.returns-clause-only
returns-clause-only g c cells drafts =
    let step = c.in_ok-put_count.ensures.recounted cells (c.read_first.ensures.stays cells drafts) (c.in_ok-first.ensures.cell cells drafts) in
    (step.0, step.1, step.2.only, step.2.head)

pub returns-clause-added : goal.returns-clause-added
returns-clause-added g c cells t h drafts spells holds =
    let step = c.in_ok-put_count.ensures.recounted cells (c.read_first.ensures.stays cells drafts) (c.in_ok-first.ensures.cell cells drafts) in
    let same = agrees cells c.args.column c.args.at.tier c.args.at.slot c.in_ok-first.first.end t h c.in_ok-first.first.cell.items c.in_ok-first.first.fields.key c.in_ok-first.first.fields.count
    c.in_ok-first.first.fields.len c.in_ok-first.first.fields.next spells holds (c.in_ok-first.ensures.cell cells drafts) c.in_ok-first.ensures.first in
    (c.one_up-count.ensures.count ∙ ap count_up same.count_is, (step.0, step.1, step.2.table t h spells holds))
