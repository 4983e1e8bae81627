use Rattle.std.proofs.Common.{List, length}
use Rattle.pdb_cells.specs.declared.Put.{Put}
use Rattle.pdb_record.specs.Scans.{Leaves}
use Rattle.pdb_record.proofs.Loops.{Rising}
use Rattle.pdb_record.proofs.repeats.rises.Given as goal

abbrev pub invariant-loop-put : goal.invariant-loop-put
invariant-loop-put l = (ps : List Put) → Leaves l.puts ps → Rising ps l.last l.left

abbrev pub decreases-loop-put : goal.decreases-loop-put
decreases-loop-put l = length l.left.left.now
