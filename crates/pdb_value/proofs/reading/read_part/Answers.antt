use Rattle.std.proofs.Common.{◌-◌, ◌+◌, length, replicate, arith, sym, ◌∙◌, rules}
use Rattle.pdb_value.proofs.Layouts.{part_fields, part_made, part_read, same_back, zeros_only}
use Rattle.pdb_value.proofs.reading.read_part.Goals as goal
use Rattle.pdb_value.proofs.reading.read_part.Goals.{then-first-ne3-via-then-first-ne3, then-first-ne3-via-else-first-ne3+then-first-gt4088}

pub returns-in_default : goal.returns-in_default
returns-in_default c next value part = c.in_default.ensures.spelled 3 (length value) next _ (part.spelled ∙ part_fields 4096 value next)

pub returns-then-first-ne3 : goal.returns-then-first-ne3
returns-then-first-ne3 c next value part =
    let same = part_read c.args.cell.now c.in-Some.first.rest.now value c.in-Some.first.kind c.in-Some.first.len c.in-Some.first.next next c.in-Some.ensures.spelled c.in-Some.ensures.len.0 c.in-Some.ensures.len.1 part in
    elim c.then-first-ne3.branch [
      | then-first-ne3-via-then-first-ne3 w ↦ omega (arith, same.kind_is)
      | then-first-ne3-via-else-first-ne3+then-first-gt4088 w ↦ omega (arith, same.len_is, part.fits)
    ]

pub returns-then-not-is_zeros : goal.returns-then-not-is_zeros
returns-then-not-is_zeros c next value part =
    let same = part_read c.args.cell.now c.in-Some.first.rest.now value c.in-Some.first.kind c.in-Some.first.len c.in-Some.first.next next c.in-Some.ensures.spelled c.in-Some.ensures.len.0 c.in-Some.ensures.len.1 part in
    let last = same_back c.split_at.result.0.now value c.split_at.result.1.now (replicate (4096 - (8 + length value)) 0) (omega (arith, same.len_is)) (sym c.split_at.ensures.by_index.0 ∙ same.rest_is) in
    let z = zeros_only _ _ last in search rules

pub returns : goal.returns
returns c =
    part_made c.args.cell.now c.in-Some.first.rest.now c.split_at.result.0.now c.split_at.result.1.now c.in-Some.first.kind c.in-Some.first.len c.in-Some.first.next c.in-Some.ensures.spelled (omega arith) (omega arith) (omega arith)
    c.in-Some.ensures.len.1 (sym c.split_at.ensures.by_index.0) (search rules) c.in-Some.ensures.len.2 c.requires
