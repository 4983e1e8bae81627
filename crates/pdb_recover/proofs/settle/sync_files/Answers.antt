use Rattle.std.proofs.Common.{◌≡◌, arith, subst, sym}
use Rattle.pdb_disk.proofs.Calls.{weaker}
use Rattle.pdb_model.specs.Recovery.{Safe}
use Rattle.pdb_recover.specs.Recovering.{IsStoreFile}
use Rattle.pdb_recover.proofs.Syncing.{all_settled, same_reads, still_safe}
use Rattle.pdb_recover.proofs.SyncLoops.{Syncs, failed_reads, syncs_failed, syncs_none, syncs_one, syncs_skipped}
use Rattle.pdb_recover.proofs.settle.sync_files.Goals as goal
use Rattle.pdb_recover.proofs.settle.sync_files.Goals.{then-is_store_file+in_ok-sync, else-is_store_file}

pub loop-file-init : goal.loop-file-init
loop-file-init g c = syncs_none _ _ _ _ _ c.args.disk.now

pub returns-in_err-sync-clause-any_moment : goal.returns-in_err-sync-clause-any_moment
returns-in_err-sync-clause-any_moment g c rows f told clear safe =
    weaker _ _ _ _ _ (Safe rows f) (syncs_failed _ _ _ _ _ _ _ _ _ c.sync.ensures.time c.in_err-sync.ensures.failed c.loop-file.invariant told)
    (λ fs h. still_safe _ _ _ _ h.1 rows f (g.met.D.Disk.read_is_image c.args.disk.now (g.D.Disk.clock c.args.disk.now) told (omega arith)) clear safe)

pub returns-in_err-sync-clause-read : goal.returns-in_err-sync-clause-read
returns-in_err-sync-clause-read g c told =
    same_reads _ _ _ _ (failed_reads g.D.Disk.tells g.D.Disk.clock g.D.Disk.past g.D.Disk.fault_count IsStoreFile c.loop-file.file c.args.disk.now c.loop-file.disk c.sync.new.self c.in_err-sync.ensures.failed c.loop-file.invariant told)

pub returns-in_err-sync-clause-told : goal.returns-in_err-sync-clause-told
returns-in_err-sync-clause-told g c told = c.sync.ensures.told (c.loop-file.invariant.told told)

pub loop-file-preserved : goal.loop-file-preserved
loop-file-preserved g c = elim c.if-is_store_file.branch [
  | then-is_store_file+in_ok-sync w ↦
      subst (Syncs _ _ _ _ _ _ _) (sym w.disk-is)
      (syncs_one _ _ _ _ _ _ _ _ w.sync.new.self w.sync.ensures.time w.in_ok-sync.ensures.synced w.sync.ensures.told w.in_ok-sync.ensures.counted c.loop-file.invariant)
  | else-is_store_file w ↦
      subst (Syncs _ _ _ _ _ _ _) (sym w.disk-is)
      (syncs_skipped _ _ _ _ _ _ _ _ (λ is. let t = w.if-is_store_file.ensures.1 is in cc) c.loop-file.invariant)
]

pub returns-clause-any_moment : goal.returns-clause-any_moment
returns-clause-any_moment g c rows f told clear safe =
    weaker _ _ _ _ _ (Safe rows f) (c.loop-file.invariant.moments told)
    (λ fs h. still_safe _ _ _ _ h.1 rows f (g.met.D.Disk.read_is_image c.args.disk.now (g.D.Disk.clock c.args.disk.now) told (omega arith)) clear safe)

pub returns-clause-settled : goal.returns-clause-settled
returns-clause-settled g c told =
    let end : c.loop-file.file ≡ 66 = omega (arith, c.loop-file.auto.file-end, c.loop-file-test.false) in
    all_settled _ _ _ end (c.loop-file.invariant.synced told)

pub returns-clause-read : goal.returns-clause-read
returns-clause-read g c told = same_reads _ _ _ _ (c.loop-file.invariant.synced told)

pub returns-clause-told : goal.returns-clause-told
returns-clause-told g c = c.loop-file.invariant.told

pub returns-clause-counted : goal.returns-clause-counted
returns-clause-counted g c = c.loop-file.invariant.counted
