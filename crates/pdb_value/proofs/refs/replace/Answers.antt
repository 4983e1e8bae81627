use Rattle.std.proofs.Common.{◌≡◌, ◌∙◌, arith}
use Rattle.pdb_cells.specs.Content.{put_cell}
use Rattle.pdb_model.specs.Files.{table_file}
use Rattle.pdb_value.proofs.Held.{agrees}
use Rattle.pdb_value.proofs.Recounted.{replaced_spelled}
use Rattle.pdb_value.proofs.Spelled.{only_slot, same_head}
use Rattle.pdb_value.proofs.refs.replace.Goals as goal

pub returns-clause-only : goal.returns-clause-only
returns-clause-only g c cells drafts = (
  put_cell (table_file c.args.column c.args.at.tier) c.args.at.slot c.deref.result.now cells,
  c.in_ok-put_slot.ensures.cells cells (c.read_first.ensures.stays cells drafts),
  only_slot c.args.column c.args.at.tier c.args.at.slot c.deref.result.now cells,
  same_head c.args.column c.args.at.tier c.args.at.slot c.deref.result.now cells,
)

pub returns-clause-replaced : goal.returns-clause-replaced
returns-clause-replaced g c cells t h drafts spells holds done =
    let same = agrees cells c.args.column c.args.at.tier c.args.at.slot c.in_ok-fields.field-0.end t h c.in_ok-fields.field-0.cell.items c.in_ok-fields.field-0.fields.key c.in_ok-fields.field-0.fields.count c.in_ok-fields.field-0.fields.len c.in_ok-fields.field-0.fields.next spells holds
    (c.in_ok-fields.ensures.cell cells drafts) c.in_ok-fields.ensures.first in
    let is : c.args.at.tier ≡ c.tier_for.result = omega arith in (
      put_cell (table_file c.args.column c.args.at.tier) c.args.at.slot c.deref.result.now cells,
      c.in_ok-put_slot.ensures.cells cells (c.read_first.ensures.stays cells drafts),
      replaced_spelled cells c.args.column c.args.at.tier c.args.at.slot t h c.in_ok-fields.field-0.fields.key c.in_ok-fields.field-0.fields.count c.args.bytes.now c.deref.result.now (omega arith) (is ∙ c.tier_for.ensures.tier)
          spells holds same.key_is same.count_is (c.deref.ensures.value ∙ c.in_ok-cell.ensures.cell),
    )
