use Rattle.pdb_redo.proofs.SyncLoop.{Syncs}
use Rattle.pdb_redo.proofs.redo_log.sync_written.Given as goal

abbrev pub invariant-loop-file : goal.invariant-loop-file
invariant-loop-file g l = Syncs g.D.Disk.tells g.D.Disk.clock g.D.Disk.past g.D.Disk.fault_count l.file l.fn.written l.written l.fn.log l.log
