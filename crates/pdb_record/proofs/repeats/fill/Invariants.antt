use Rattle.std.proofs.Common.{◌+◌, ◌≤◌, List, length}
use Rattle.arrayvec.specs.ArrayVec.{array_vec_len}
use Rattle.pdb_cells.specs.declared.Put.{Put}
use Rattle.pdb_record.specs.Scans.{Leaves}
use Rattle.pdb_record.specs.inner.Blocks.{Ascends, Taken}
use Rattle.pdb_record.proofs.repeats.fill.Given as goal

abbrev pub invariant-loop-puts : goal.invariant-loop-puts
invariant-loop-puts l = ((ps : List Put) → Leaves l.initial.puts ps → Taken ps l.block.items l.puts)
    × Ascends l.block.items
    × (length l.puts.left.now + array_vec_len l.block ≤ length l.initial.puts.left.now)

abbrev pub decreases-loop-puts : goal.decreases-loop-puts
decreases-loop-puts l = length l.puts.left.now
