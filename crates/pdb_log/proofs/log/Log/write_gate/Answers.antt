use Rattle.std.proofs.Common.{rules, inl, refl, sym, subst}
use Rattle.pdb_disk.proofs.Calls.{joined, one_call}
use Rattle.pdb_model.specs.Recovery.{Safe}
use Rattle.pdb_log.specs.Ledger.{passed}
use Rattle.pdb_log.proofs.Cleans.{gate_log, gate_mid, gate_write_moments}
use Rattle.pdb_log.proofs.Gates.{Fits}
use Rattle.pdb_log.proofs.Logs.{begun_as, done_as, may_as, safe_now}
use Rattle.pdb_log.proofs.Times.{time_of_call, time_then}
use Rattle.pdb_log.proofs.log.Log.write_gate.Goals as goal

pub returns-in-Ok-sync-clause-gate_passed : goal.returns-in-Ok-sync-clause-gate_passed
returns-in-Ok-sync-clause-gate_passed g c l rows f dropped flushed is next =
    let fits : Fits c.args.g = record { sequence = search rules; number = search rules; commits = search rules } in
    let e = c.write_at.ensures in
    gate_log g.D.Disk.tells g.D.Disk.clock g.D.Disk.past c.args.self.now c.args.g dropped flushed l rows f fits is next c.write_at.new.self _
    refl refl refl refl refl refl (c.sync.ensures.told (e.told is.told))
    (begun_as _ _ _ _ _ _ c.gate_bytes-bytes.ensures (c.in-Ok.ensures.begun is.told))
    (done_as _ _ _ _ _ c.gate_bytes-bytes.ensures (c.in-Ok.ensures.written is.told))
    (c.in-Ok-sync.ensures.synced (e.told is.told))

pub returns-in-Ok-sync-clause-any_moment : goal.returns-in-Ok-sync-clause-any_moment
returns-in-Ok-sync-clause-any_moment g c l rows f dropped flushed is next =
    let fits : Fits c.args.g = record { sequence = search rules; number = search rules; commits = search rules } in
    let e = c.write_at.ensures in
    let first = gate_write_moments g.D.Disk.tells g.D.Disk.clock g.D.Disk.past c.args.self.now c.args.g dropped flushed l rows f fits is next c.write_at.new.self e.time
    (λ told. inl (begun_as _ _ _ _ _ _ c.gate_bytes-bytes.ensures (c.in-Ok.ensures.begun told))) in
    let mid = gate_mid g.D.Disk.tells g.D.Disk.clock g.D.Disk.past c.args.self.now c.args.g dropped flushed l rows f fits is next c.write_at.new.self
    (begun_as _ _ _ _ _ _ c.gate_bytes-bytes.ensures (c.in-Ok.ensures.begun is.told)) in
    let after = safe_now g.D.Disk.tells g.D.Disk.clock g.D.Disk.past _ (passed l c.args.g flushed) rows f (returns-in-Ok-sync-clause-gate_passed g c l rows f dropped flushed is next) in
    joined _ _ _ _ _ _ _ first (one_call _ _ _ _ (Safe rows f) c.sync.ensures.time mid after)

pub returns-in-Err-sync-clause-any_moment : goal.returns-in-Err-sync-clause-any_moment
returns-in-Err-sync-clause-any_moment g c l rows f dropped flushed is next =
    let fits : Fits c.args.g = record { sequence = search rules; number = search rules; commits = search rules } in
    let e = c.write_at.ensures in
    let first = gate_write_moments g.D.Disk.tells g.D.Disk.clock g.D.Disk.past c.args.self.now c.args.g dropped flushed l rows f fits is next c.write_at.new.self e.time
    (λ told. inl (begun_as _ _ _ _ _ _ c.gate_bytes-bytes.ensures (c.in-Ok.ensures.begun told))) in
    let mid = gate_mid g.D.Disk.tells g.D.Disk.clock g.D.Disk.past c.args.self.now c.args.g dropped flushed l rows f fits is next c.write_at.new.self
    (begun_as _ _ _ _ _ _ c.gate_bytes-bytes.ensures (c.in-Ok.ensures.begun is.told)) in
    let after = subst (Safe rows f) (sym (c.in-Err-sync.ensures.failed (e.told is.told))) mid in
    joined _ _ _ _ _ _ _ first (one_call _ _ _ _ (Safe rows f) c.sync.ensures.time mid after)

pub returns-in-Err-clause-any_moment : goal.returns-in-Err-clause-any_moment
returns-in-Err-clause-any_moment g c l rows f dropped flushed is next =
    let fits : Fits c.args.g = record { sequence = search rules; number = search rules; commits = search rules } in
    gate_write_moments g.D.Disk.tells g.D.Disk.clock g.D.Disk.past c.args.self.now c.args.g dropped flushed l rows f fits is next c.write_at.new.self c.write_at.ensures.time
    (λ told. may_as _ _ _ _ _ _ c.gate_bytes-bytes.ensures (c.in-Err.ensures.failed told))

pub returns-in-Ok-sync-clause-goes_on : goal.returns-in-Ok-sync-clause-goes_on
returns-in-Ok-sync-clause-goes_on g c =
    let first = time_of_call g.D.Disk.clock g.D.Disk.past c.args.self.now.disk c.write_at.new.self c.write_at.ensures.time in
    time_then g.D.Disk.clock g.D.Disk.past c.args.self.now.disk c.write_at.new.self c.sync.new.self first (time_of_call g.D.Disk.clock g.D.Disk.past c.write_at.new.self c.sync.new.self c.sync.ensures.time)

pub returns-in-Err-sync-clause-goes_on : goal.returns-in-Err-sync-clause-goes_on
returns-in-Err-sync-clause-goes_on g c =
    let first = time_of_call g.D.Disk.clock g.D.Disk.past c.args.self.now.disk c.write_at.new.self c.write_at.ensures.time in
    time_then g.D.Disk.clock g.D.Disk.past c.args.self.now.disk c.write_at.new.self c.sync.new.self first (time_of_call g.D.Disk.clock g.D.Disk.past c.write_at.new.self c.sync.new.self c.sync.ensures.time)
