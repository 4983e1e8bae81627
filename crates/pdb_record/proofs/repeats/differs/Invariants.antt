use Rattle.std.proofs.Common.{List, length}
use Rattle.pdb_cells.specs.declared.Put.{Put}
use Rattle.pdb_record.specs.Scans.{Leaves}
use Rattle.pdb_record.proofs.Loops.{Decided}
use Rattle.pdb_record.proofs.repeats.differs.Given as goal

abbrev pub invariant-loop-left : goal.invariant-loop-left
invariant-loop-left l = (ps : List Put) → Leaves l.puts ps → Decided ps l.left

abbrev pub decreases-loop-left : goal.decreases-loop-left
decreases-loop-left l = length l.left.left.now
