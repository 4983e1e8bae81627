use Rattle.std.proofs.Common.{◌≡◌}
use Rattle.std.specs.Prelude.{Any}
use Rattle.pdb_recover.proofs.SyncLoops.{Syncs}
use Rattle.pdb_recover.proofs.lay.sync_written.Given as goal

abbrev pub invariant-loop-file : goal.invariant-loop-file
invariant-loop-file g l = Syncs g.D.Disk.tells g.D.Disk.clock g.D.Disk.past g.D.Disk.fault_count (λ j. Any (λ p. p.name.file ≡ j) l.puts) l.file l.fn.disk l.disk
