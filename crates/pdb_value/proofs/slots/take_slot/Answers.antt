use Rattle.std.proofs.Common.{refl, arith}
use Rattle.std.proofs.lemmas.Result.{err_from_is_err_and}
use Rattle.pdb_cells.specs.Content.{put_cell}
use Rattle.pdb_cells.specs.Sizes.{head_file}
use Rattle.pdb_value.proofs.Spelled.{took_end, took_first}
use Rattle.pdb_value.proofs.Broken.{free_list_broken}
use Rattle.pdb_value.proofs.Taken.{first_free, no_room, unbroken_head}
use Rattle.pdb_value.proofs.slots.take_slot.Goals as goal

pub returns-then-ends-eq0-clause-taken : goal.returns-then-ends-eq0-clause-taken
returns-then-ends-eq0-clause-taken g c cells drafts =
    let is = c.in_ok-head.ensures.cell cells drafts in (
      put_cell head_file c.args.column c.set_ends.new.head cells,
      c.in_ok-put_head.ensures.cells cells (c.read_head.ensures.stays cells drafts),
      took_end cells c.args.column c.args.tier c.in_ok-head.head _ c.ends_of-ends.result.free c.ends_of-ends.result.end (omega arith) c.in_ok-head.ensures.head.1.len is c.in_ok-head.ensures.head
          (omega arith) c.ends_of-ends.ensures (omega arith) (omega arith) c.set_ends.ensures,
    )

pub returns-clause-taken : goal.returns-clause-taken
returns-clause-taken g c cells drafts =
    let is = c.in_ok-head.ensures.cell cells drafts in
    let mid = c.read_head.ensures.stays cells drafts in (
      put_cell head_file c.args.column c.set_ends-2.new.head cells,
      c.in_ok-put_head-2.ensures.cells cells (c.next_free.ensures.stays cells mid),
      took_first cells c.args.column c.args.tier c.in_ok-head.head _ c.ends_of-ends.result.free c.ends_of-ends.result.end c.in_ok-free.free (omega arith) c.in_ok-head.ensures.head.1.len is c.in_ok-head.ensures.head
          (omega arith) (omega arith) c.ends_of-ends.ensures (omega arith) c.in_ok-free.ensures.within (c.in_ok-free.ensures.next cells mid) c.set_ends-2.ensures,
    )

pub returns-in_err-free-clause-faults : goal.returns-in_err-free-clause-faults
returns-in_err-free-clause-faults g c cells drafts =
    let is = c.in_ok-head.ensures.cell cells drafts in
    let p = err_from_is_err_and c.from_residual-in_err-free.result c.from_residual-in_err-free.ensures.1 in
    rw (p.1, p.2) (free_list_broken cells c.args.column c.args.tier c.in_ok-head.head c.ends_of-ends.result.free c.ends_of-ends.result.end _ _ (omega arith) is c.in_ok-head.ensures.head (omega arith) (omega arith)
    c.ends_of-ends.ensures (c.in_err-free.ensures.faults cells (c.read_head.ensures.stays cells drafts)))

pub returns-in_err-head-clause-sound : goal.returns-in_err-head-clause-sound
returns-in_err-head-clause-sound g c cells t drafts keeps spells =
    let p = err_from_is_err_and c.from_residual.result c.from_residual.ensures.1 in
    rw (p.1, p.2) (unbroken_head cells c.args.column _ _ keeps (c.in_err-head.ensures.faults cells drafts))

pub returns-then-ends-clause-sound : goal.returns-then-ends-clause-sound
returns-then-ends-clause-sound g c cells t drafts keeps spells =
    (refl, no_room cells c.args.column c.args.tier c.in_ok-head.head c.ends_of-ends.result.free c.ends_of-ends.result.end t (c.in_ok-head.ensures.cell cells drafts) spells (omega arith) (omega arith) c.ends_of-ends.ensures (omega arith) (omega arith))

pub returns-in_err-free-clause-sound : goal.returns-in_err-free-clause-sound
returns-in_err-free-clause-sound g c cells t drafts keeps spells =
    let p = err_from_is_err_and c.from_residual-in_err-free.result c.from_residual-in_err-free.ensures.1 in
    rw (p.1, p.2) (first_free cells c.args.column c.args.tier c.in_ok-head.head c.ends_of-ends.result.free c.ends_of-ends.result.end t _ _ (c.in_ok-head.ensures.cell cells drafts) spells (omega arith) (omega arith) c.ends_of-ends.ensures (omega arith)
    (c.in_err-free.ensures.faults cells (c.read_head.ensures.stays cells drafts)))
