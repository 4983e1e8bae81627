use Rattle.pdb_recover.specs.Recovering.{IsStoreFile}
use Rattle.pdb_recover.proofs.SyncLoops.{Syncs}
use Rattle.pdb_recover.proofs.settle.sync_files.Given as goal

abbrev pub invariant-loop-file : goal.invariant-loop-file
invariant-loop-file g l = Syncs g.D.Disk.tells g.D.Disk.clock g.D.Disk.past g.D.Disk.fault_count IsStoreFile l.file l.fn.disk l.disk
