use Rattle.std.proofs.Common.{arith, ◌∙◌, rules}
use Rattle.pdb_model.specs.Tiers.{slot_size}
use Rattle.pdb_value.proofs.Layouts.{free_fields, free_made, free_read, zeros_only}
use Rattle.pdb_value.proofs.reading.read_free.Goals as goal
use Rattle.pdb_value.proofs.reading.read_free.Goals.{then-first-ne4-via-then-first-ne4, then-first-ne4-via-else-first-ne4+then-first-ne0, then-first-ne4-via-else-first-ne4+else-first-ne0+then-not-is_zeros}

pub returns-in_default : goal.returns-in_default
returns-in_default c next free = c.in_default.ensures.spelled 4 0 next _ (free.spelled ∙ free_fields (slot_size c.args.tier) next)

pub returns-then-first-ne4 : goal.returns-then-first-ne4
returns-then-first-ne4 c next free =
    let same = free_read c.args.tier c.args.cell.now c.in-Some.first.rest.now c.in-Some.first.kind c.in-Some.first.len c.in-Some.first.next next c.in-Some.ensures.spelled c.in-Some.ensures.len.0 c.in-Some.ensures.len.1 free in
    elim c.then-first-ne4.branch [
      | then-first-ne4-via-then-first-ne4 w ↦ omega (arith, same.kind_is)
      | then-first-ne4-via-else-first-ne4+then-first-ne0 w ↦ omega (arith, same.len_is)
      | then-first-ne4-via-else-first-ne4+else-first-ne0+then-not-is_zeros w ↦ let z = zeros_only _ _ same.rest_is in search rules
    ]

pub returns : goal.returns
returns c =
    free_made c.args.tier c.args.cell.now c.in-Some.first.rest.now c.in-Some.first.kind c.in-Some.first.len c.in-Some.first.next c.in-Some.ensures.spelled (omega arith) (omega arith)
    c.in-Some.ensures.len.1 (search rules) c.in-Some.ensures.len.2 c.requires.sized
