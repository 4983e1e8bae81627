use Rattle.std.proofs.Common.{◌≡◌, arith, subst, sym}
use Rattle.std.specs.Prelude.{Any}
use Rattle.pdb_disk.proofs.Calls.{weaker}
use Rattle.pdb_recover.specs.Recovering.{IsLaying}
use Rattle.pdb_recover.proofs.Laying.{synced_laying}
use Rattle.pdb_recover.proofs.Syncing.{rest_settled, same_reads}
use Rattle.pdb_recover.proofs.SyncLoops.{Syncs, failed_reads, syncs_failed, syncs_none, syncs_one, syncs_skipped}
use Rattle.pdb_recover.proofs.lay.sync_written.Goals as goal
use Rattle.pdb_recover.proofs.lay.sync_written.Goals.{then-has_put+in_ok-sync, else-has_put}

pub loop-file-init : goal.loop-file-init
loop-file-init g c = syncs_none _ _ _ _ _ c.args.disk.now

pub returns-in_err-sync-clause-any_moment : goal.returns-in_err-sync-clause-any_moment
returns-in_err-sync-clause-any_moment g c row gate taken told is =
    weaker _ _ _ _ _ (λ fs. IsLaying fs row gate taken) (syncs_failed _ _ _ _ _ _ _ _ _ c.sync.ensures.time c.in_err-sync.ensures.failed c.loop-file.invariant told)
    (λ fs h. synced_laying _ _ _ _ row gate taken (g.met.D.Disk.read_is_image c.args.disk.now (g.D.Disk.clock c.args.disk.now) told (omega arith)) h.1 is)

pub returns-in_err-sync-clause-read : goal.returns-in_err-sync-clause-read
returns-in_err-sync-clause-read g c told =
    same_reads _ _ _ _ (failed_reads g.D.Disk.tells g.D.Disk.clock g.D.Disk.past g.D.Disk.fault_count (λ j. Any (λ p. p.name.file ≡ j) c.args.puts.now) c.loop-file.file c.args.disk.now c.loop-file.disk c.sync.new.self
    c.in_err-sync.ensures.failed c.loop-file.invariant told)

pub returns-in_err-sync-clause-told : goal.returns-in_err-sync-clause-told
returns-in_err-sync-clause-told g c told = c.sync.ensures.told (c.loop-file.invariant.told told)

pub loop-file-preserved : goal.loop-file-preserved
loop-file-preserved g c = elim c.if-has_put.branch [
  | then-has_put+in_ok-sync w ↦
      subst (Syncs _ _ _ _ _ _ _) (sym w.disk-is)
      (syncs_one _ _ _ _ _ _ _ _ w.sync.new.self w.sync.ensures.time w.in_ok-sync.ensures.synced w.sync.ensures.told w.in_ok-sync.ensures.counted c.loop-file.invariant)
  | else-has_put w ↦
      subst (Syncs _ _ _ _ _ _ _) (sym w.disk-is)
      (syncs_skipped _ _ _ _ _ _ _ _ w.if-has_put.ensures c.loop-file.invariant)
]

pub returns-clause-any_moment : goal.returns-clause-any_moment
returns-clause-any_moment g c row gate taken told is =
    weaker _ _ _ _ _ (λ fs. IsLaying fs row gate taken) (c.loop-file.invariant.moments told)
    (λ fs h. synced_laying _ _ _ _ row gate taken (g.met.D.Disk.read_is_image c.args.disk.now (g.D.Disk.clock c.args.disk.now) told (omega arith)) h.1 is)

pub returns-clause-settled : goal.returns-clause-settled
returns-clause-settled g c before told are written =
    let end : c.loop-file.file ≡ 66 = omega (arith, c.loop-file.auto.file-end, c.loop-file-test.false) in
    rest_settled _ _ before _ _ end are written.others (c.loop-file.invariant.synced told)

pub returns-clause-read : goal.returns-clause-read
returns-clause-read g c told = same_reads _ _ _ _ (c.loop-file.invariant.synced told)

pub returns-clause-told : goal.returns-clause-told
returns-clause-told g c = c.loop-file.invariant.told

pub returns-clause-counted : goal.returns-clause-counted
returns-clause-counted g c = c.loop-file.invariant.counted
