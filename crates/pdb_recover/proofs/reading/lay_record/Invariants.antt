use Rattle.std.proofs.Common.{length}
use Rattle.pdb_recover.proofs.PutLaying.{IsLaidTo}
use Rattle.pdb_recover.proofs.reading.lay_record.Given as goal

abbrev pub invariant-loop-put : goal.invariant-loop-put
invariant-loop-put l = IsLaidTo l.found.body.now l.fn.puts l.left l.puts

abbrev pub decreases-loop-put : goal.decreases-loop-put
decreases-loop-put l = length l.left.left.now
