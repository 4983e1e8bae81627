use Rattle.std.proofs.Common.{◌-◌, ◌^◌}
use Rattle.pdb_recover.proofs.ScanSeeks.{Seeks}
use Rattle.pdb_recover.proofs.cursor.Cursor.seek.Given as goal

abbrev pub invariant-loop-self : goal.invariant-loop-self
invariant-loop-self g l = Seeks g.D.Disk.tells g.D.Disk.clock g.D.Disk.past g.D.Disk.read_count g.D.Disk.fault_count l.fn.disk l.disk l.fn.self l.self l.number

abbrev pub decreases-loop-self : goal.decreases-loop-self
decreases-loop-self g l = 2 ^ 62 - l.self.at
