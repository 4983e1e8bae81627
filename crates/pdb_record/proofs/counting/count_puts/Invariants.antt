use Rattle.std.proofs.Common.{length}
use Rattle.pdb_record.proofs.Splits.{Counted}
use Rattle.pdb_record.proofs.counting.count_puts.Given as goal

abbrev pub invariant-loop-put : goal.invariant-loop-put
invariant-loop-put l = Counted l.body l.puts.left.now l.count

abbrev pub decreases-loop-put : goal.decreases-loop-put
decreases-loop-put l = length l.puts.left.now
