use Rattle.std.proofs.Common.{ap, subst, sym}
use Rattle.std.specs.Prelude.{◌+◌, false, set}
use Rattle.pdb_disk.specs.Files.{Files}
use Rattle.pdb_redo.proofs.SyncLoop.{Syncs, passes_on, settles_all, settles_read, sync_passes, syncs_begin, syncs_next, syncs_skip}
use Rattle.pdb_redo.proofs.redo_log.sync_written.Goals as goal
use Rattle.pdb_redo.proofs.redo_log.sync_written.Goals.{then-written-file+in_ok-sync, else-written-file}

pub loop-file-init : goal.loop-file-init
loop-file-init g c = syncs_begin g.D.Disk.tells g.D.Disk.clock g.D.Disk.past g.D.Disk.fault_count c.args.written.now c.args.log.now c.told-written

pub returns-in_err-sync-clause-passes : goal.returns-in_err-sync-clause-passes
returns-in_err-sync-clause-passes g c =
    passes_on g.D.Disk.tells g.D.Disk.clock g.D.Disk.past c.args.log.now c.loop-file.log c.sync.new.self c.loop-file.invariant.passes
    (sync_passes g.D.Disk.tells g.D.Disk.clock g.D.Disk.past c.loop-file.log c.sync.new.self c.sync.ensures.rest c.sync.ensures.stands c.sync.ensures.any_moment c.sync.ensures.told c.sync.ensures.time
    (λ told j. ap (λ (fs : Files). (fs j).read) (c.in_err-sync.ensures.failed told)))

pub loop-file-preserved : goal.loop-file-preserved
loop-file-preserved g c = elim c.if-written-file.branch [
  | then-written-file+in_ok-sync w ↦
      subst (λ marks. Syncs g.D.Disk.tells g.D.Disk.clock g.D.Disk.past g.D.Disk.fault_count (c.loop-file.file + 1) c.args.written.now marks c.args.log.now c.if-written-file.log) (sym w.written-is)
      (subst (Syncs g.D.Disk.tells g.D.Disk.clock g.D.Disk.past g.D.Disk.fault_count (c.loop-file.file + 1) c.args.written.now (set c.loop-file.written c.loop-file.file false) c.args.log.now) (sym w.log-is)
      (syncs_next g.D.Disk.tells g.D.Disk.clock g.D.Disk.past g.D.Disk.fault_count c.loop-file.file c.args.written.now c.loop-file.written c.args.log.now c.loop-file.log w.sync.new.self
      (sync_passes g.D.Disk.tells g.D.Disk.clock g.D.Disk.past c.loop-file.log w.sync.new.self w.sync.ensures.rest w.sync.ensures.stands w.sync.ensures.any_moment w.sync.ensures.told w.sync.ensures.time
      (λ told. settles_read g.D.Disk.tells g.D.Disk.clock g.D.Disk.past c.loop-file.file _ _ (w.in_ok-sync.ensures.synced told)))
      w.in_ok-sync.ensures.synced w.in_ok-sync.ensures.counted c.loop-file.invariant))
  | else-written-file w ↦
      subst (λ marks. Syncs g.D.Disk.tells g.D.Disk.clock g.D.Disk.past g.D.Disk.fault_count (c.loop-file.file + 1) c.args.written.now marks c.args.log.now c.if-written-file.log) (sym w.written-is)
      (subst (Syncs g.D.Disk.tells g.D.Disk.clock g.D.Disk.past g.D.Disk.fault_count (c.loop-file.file + 1) c.args.written.now c.loop-file.written c.args.log.now) (sym w.log-is)
      (syncs_skip g.D.Disk.tells g.D.Disk.clock g.D.Disk.past g.D.Disk.fault_count c.loop-file.file c.args.written.now c.loop-file.written c.args.log.now c.loop-file.log c.loop-file-test.true w.if-written-file.false c.loop-file.invariant))
]

pub returns-clause-passes : goal.returns-clause-passes
returns-clause-passes g c = c.loop-file.invariant.passes

pub returns-clause-settled : goal.returns-clause-settled
returns-clause-settled g c told =
    settles_all g.D.Disk.tells g.D.Disk.clock g.D.Disk.past c.loop-file.file c.args.written.now c.loop-file.written c.args.log.now c.loop-file.log c.loop-file-test.false (c.loop-file.invariant.settled told)
