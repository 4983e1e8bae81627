use Rattle.std.proofs.Common.{◌≡◌, ◌+◌, ◌-◌, ◌≤◌, ◌++◌, length}
use Rattle.std.specs.Prelude.{IsTrue}
use Rattle.pdb_model.specs.Recovery.{bytes_from}
use Rattle.pdb_recover.specs.Scanning.{OnlyReads}
use Rattle.pdb_recover.proofs.PutBodies.{GoesOnTo}
use Rattle.pdb_recover.proofs.record_at.add_body.Given as goal

abbrev pub invariant-loop-done : goal.invariant-loop-done
invariant-loop-done g l =
    (l.done ≤ l.len)
    × (length l.bytes.items ≡ length l.fn.bytes.items + l.done)
    × OnlyReads g.D.Disk.tells g.D.Disk.clock g.D.Disk.past g.D.Disk.read_count l.fn.disk l.disk
    × (g.D.Disk.fault_count l.disk ≡ g.D.Disk.fault_count l.fn.disk)
    × (IsTrue (g.D.Disk.tells l.fn.disk)
    → (l.bytes.items ≡ l.fn.bytes.items ++ bytes_from (g.D.Disk.past l.fn.disk (g.D.Disk.clock l.fn.disk) l.file).read l.at l.done)
    × GoesOnTo (g.D.Disk.past l.fn.disk (g.D.Disk.clock l.fn.disk) l.file).read l.at l.len l.done)

abbrev pub decreases-loop-done : goal.decreases-loop-done
decreases-loop-done g l = l.len - l.done
