use Rattle.std.proofs.Common.{◌∙◌, arith}
use Rattle.pdb_cells.specs.Content.{put_cell}
use Rattle.pdb_cells.specs.Sizes.{head_file}
use Rattle.pdb_model.specs.Files.{table_file}
use Rattle.pdb_model.specs.Breaks.{HasEnd}
use Rattle.pdb_value.proofs.Broken.{has_end}
use Rattle.pdb_value.proofs.Spelled.{freed_step}
use Rattle.pdb_value.proofs.slots.free_slot.Goals as goal

pub returns-clause-freed : goal.returns-clause-freed
returns-clause-freed g c cells drafts within =
    let is = c.in_ok-head.ensures.cell cells drafts in
    let mid = c.in_ok-put_slot.ensures.cells cells (c.read_head.ensures.stays cells drafts) in
    let end : HasEnd cells c.args.column c.args.tier c.ends_of-free.result.end = has_end cells c.args.column c.args.tier c.in_ok-head.head c.ends_of-free.result.free c.ends_of-free.result.end (omega arith) is c.in_ok-head.ensures.head (omega arith) (omega arith) c.ends_of-free.ensures in (
      put_cell head_file c.args.column c.set_ends.new.head (put_cell (table_file c.args.column c.args.tier) c.args.slot c.deref.result.now cells),
      c.in_ok-put_head.ensures.cells _ mid,
      freed_step cells c.args.column c.args.tier c.args.slot c.in_ok-head.head _ c.deref.result.now c.ends_of-free.result.free c.ends_of-free.result.end (omega arith) c.in_ok-head.ensures.head.1.len is c.in_ok-head.ensures.head
          (omega arith) (omega arith) c.ends_of-free.ensures (within c.ends_of-free.result.end end) (c.deref.ensures.value ∙ c.in_ok-cell.ensures.cell) c.set_ends.ensures,
    )
