use Rattle.pdb_log.proofs.Logs.{begun_as, done_as, may_as}
use Rattle.pdb_redo.proofs.CreatGates.{after_ok, either_way}
use Rattle.pdb_redo.proofs.NewGate.{gate_recovered}
use Rattle.pdb_redo.proofs.NewMoments.{gate_moments, gate_write_moments}
use Rattle.pdb_redo.proofs.creating.write_first_gate.Goals as goal

pub returns-in_err-write_at-clause-any_moment : goal.returns-in_err-write_at-clause-any_moment
returns-in_err-write_at-clause-any_moment g c base told ungated =
    gate_write_moments g.D.Disk.clock g.D.Disk.past base c.args.disk.now c.write_at.new.self c.write_at.ensures.time ungated
    (may_as _ _ _ _ _ _ c.gate_bytes-bytes.ensures (c.in_err-write_at.ensures.failed told))

pub returns-clause-any_moment : goal.returns-clause-any_moment
returns-clause-any_moment g c base told ungated =
    gate_moments g.D.Disk.clock g.D.Disk.past base c.args.disk.now c.write_at.new.self c.sync.new.self c.write_at.ensures.time c.sync.ensures.time ungated
    (begun_as _ _ _ _ _ _ c.gate_bytes-bytes.ensures (c.in_ok-write_at.ensures.begun told))
    (done_as _ _ _ _ _ c.gate_bytes-bytes.ensures (c.in_ok-write_at.ensures.written told))
    (either_way c.sync.result _ _ _ (c.write_at.ensures.told told) c.sync.ensures.synced c.sync.ensures.failed)

pub returns-clause-gated : goal.returns-clause-gated
returns-clause-gated g c base told ungated =
    after_ok c.sync.result _ _
    (λ settles. gate_recovered base _ _ _ ungated
    (begun_as _ _ _ _ _ _ c.gate_bytes-bytes.ensures (c.in_ok-write_at.ensures.begun told))
    (done_as _ _ _ _ _ c.gate_bytes-bytes.ensures (c.in_ok-write_at.ensures.written told))
    (settles (c.write_at.ensures.told told)))
    c.sync.ensures.synced
