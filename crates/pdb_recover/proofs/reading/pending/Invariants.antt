use Rattle.std.proofs.Common.{◌-◌, ◌^◌}
use Rattle.pdb_recover.proofs.PendingReads.{Takes}
use Rattle.pdb_recover.proofs.reading.pending.Given as goal

abbrev pub invariant-loop-puts : goal.invariant-loop-puts
invariant-loop-puts g l = Takes g.D.Disk.tells g.D.Disk.clock g.D.Disk.past g.D.Disk.read_count g.D.Disk.fault_count l.fn.disk l.disk l.gate l.logs l.number l.commits l.puts

abbrev pub decreases-loop-puts : goal.decreases-loop-puts
decreases-loop-puts g l = 2 ^ 64 - 1 - l.number
