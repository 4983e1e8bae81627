use Rattle.std.proofs.Common.{rules}
use Rattle.pdb_disk.proofs.Calls.{joined, one_call, unsynced}
use Rattle.pdb_log.proofs.Gates.{Fits}
use Rattle.pdb_log.proofs.Logs.{begun_as, done_as, may_as}
use Rattle.pdb_recover.specs.Recovering.{Recovers}
use Rattle.pdb_recover.proofs.Clearing.{ready_recovers}
use Rattle.pdb_recover.proofs.Gating.{before_recovers, gate_ready, gate_recovers, may_recovers_gate}
use Rattle.pdb_recover.proofs.gates.write_gate.Goals as goal

pub returns-in-Ok-sync-clause-any_moment : goal.returns-in-Ok-sync-clause-any_moment
returns-in-Ok-sync-clause-any_moment g c row gate taken told is =
    let fits : Fits c.args.g = record { sequence = search rules; number = search rules; commits = search rules } in
    let begun = begun_as _ _ _ _ _ _ c.gate_bytes-bytes.ensures (c.in-Ok.ensures.begun told) in
    let mid = gate_recovers _ row gate taken c.args.g fits is _ begun in
    let after = gate_ready _ row gate taken c.args.g fits is _ _ begun (done_as _ _ _ _ _ c.gate_bytes-bytes.ensures (c.in-Ok.ensures.written told)) (c.in-Ok-sync.ensures.synced (c.write_at.ensures.told told)) in
    joined _ _ _ _ _ _ (λ fs. Recovers fs row)
    (one_call _ _ _ _ (λ fs. Recovers fs row) c.write_at.ensures.time (before_recovers _ row gate taken c.args.g fits is) mid)
    (one_call _ _ _ _ (λ fs. Recovers fs row) c.sync.ensures.time mid (ready_recovers _ c.args.g row after))

pub returns-in-Ok-sync-clause-ready : goal.returns-in-Ok-sync-clause-ready
returns-in-Ok-sync-clause-ready g c row gate taken told is =
    let fits : Fits c.args.g = record { sequence = search rules; number = search rules; commits = search rules } in
    gate_ready _ row gate taken c.args.g fits is _ _ (begun_as _ _ _ _ _ _ c.gate_bytes-bytes.ensures (c.in-Ok.ensures.begun told))
    (done_as _ _ _ _ _ c.gate_bytes-bytes.ensures (c.in-Ok.ensures.written told)) (c.in-Ok-sync.ensures.synced (c.write_at.ensures.told told))

pub returns-in-Err-sync-clause-any_moment : goal.returns-in-Err-sync-clause-any_moment
returns-in-Err-sync-clause-any_moment g c row gate taken told is =
    let fits : Fits c.args.g = record { sequence = search rules; number = search rules; commits = search rules } in
    let mid = gate_recovers _ row gate taken c.args.g fits is _ (begun_as _ _ _ _ _ _ c.gate_bytes-bytes.ensures (c.in-Ok.ensures.begun told)) in
    joined _ _ _ _ _ _ (λ fs. Recovers fs row)
    (one_call _ _ _ _ (λ fs. Recovers fs row) c.write_at.ensures.time (before_recovers _ row gate taken c.args.g fits is) mid)
    (unsynced _ _ _ _ (λ fs. Recovers fs row) c.sync.ensures.time (c.in-Err-sync.ensures.failed (c.write_at.ensures.told told)) mid)

pub returns-in-Err-clause-any_moment : goal.returns-in-Err-clause-any_moment
returns-in-Err-clause-any_moment g c row gate taken told is =
    let fits : Fits c.args.g = record { sequence = search rules; number = search rules; commits = search rules } in
    one_call _ _ _ _ (λ fs. Recovers fs row) c.write_at.ensures.time (before_recovers _ row gate taken c.args.g fits is)
    (may_recovers_gate _ row gate taken c.args.g fits is _ (may_as _ _ _ _ _ _ c.gate_bytes-bytes.ensures (c.in-Err.ensures.failed told)))
