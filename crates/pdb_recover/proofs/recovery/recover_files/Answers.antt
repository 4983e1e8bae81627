use Rattle.std.proofs.Common.{Err, sym, ap, subst, arith}
use Rattle.std.proofs.lemmas.Result.{err_from_is_err_and}
use Rattle.pdb_cells.specs.Content.{Content}
use Rattle.pdb_disk.specs.Files.{Files}
use Rattle.pdb_disk.proofs.Calls.{at_end, joined}
use Rattle.pdb_model.specs.Recovery.{Safe}
use Rattle.pdb_recover.specs.Heads.{AreSteadyHeads}
use Rattle.pdb_recover.specs.Recovering.{IsRecovered}
use Rattle.pdb_recover.proofs.Causes.{ends_pending, heads_say, not_err, passing_says, pending_row, pending_says}
use Rattle.pdb_recover.proofs.Joining.{reading_moments, recovered_cells, row_moments, same_files, seen}
use Rattle.pdb_recover.proofs.recovery.recover_files.Goals as goal

pub returns-in_err-found-clause-any_moment : goal.returns-in_err-found-clause-any_moment
returns-in_err-found-clause-any_moment g c rows f told clear safe =
    let first = c.sync_files.ensures.any_moment rows f told clear safe in
    joined _ _ _ _ _ _ _ first (reading_moments _ _ _ _ _ _ c.pending.ensures.only_reads (Safe rows f) (at_end _ _ _ _ _ first))

pub returns-in_err-found-clause-causes : goal.returns-in_err-found-clause-causes
returns-in_err-found-clause-causes g c told =
    let p = err_from_is_err_and c.from_residual-in_err-found.result c.from_residual-in_err-found.ensures.1 in
    rw (p.1, p.2) (pending_says _ _ _ (c.sync_files.ensures.read told) (c.in_err-found.ensures.causes (c.sync_files.ensures.told told)))

pub returns-in_err-gate-clause-any_moment : goal.returns-in_err-gate-clause-any_moment
returns-in_err-gate-clause-any_moment g c rows f told clear safe =
    let first = c.sync_files.ensures.any_moment rows f told clear safe in
    let second = joined _ _ _ _ _ _ _ first (reading_moments _ _ _ _ _ _ c.pending.ensures.only_reads (Safe rows f) (at_end _ _ _ _ _ first)) in
    let row = safe _ (g.met.D.Disk.read_is_image c.args.disk.now (g.D.Disk.clock c.args.disk.now) told (omega arith)) clear in
    let told1 = c.sync_files.ensures.told told in
    let s = seen _ _ _ _ _ _ _ _ c.pending.ensures.only_reads (c.in_ok-sync_files.ensures.settled told) (c.sync_files.ensures.read told) (c.in_ok-found.ensures.found told1) in
    joined _ _ _ _ _ _ _ second
    (row_moments _ _ _ _ rows f row.0 row.1 row.2 row.3 (c.pass.ensures.any_moment row.1 (c.pending.ensures.only_reads.told told1) s.settled s.pending (s.laid row.1 row.4)))

pub returns-in_err-gate-clause-causes : goal.returns-in_err-gate-clause-causes
returns-in_err-gate-clause-causes g c told =
    let p = err_from_is_err_and c.from_residual-in_err-gate.result c.from_residual-in_err-gate.ensures.1 in
    let told1 = c.sync_files.ensures.told told in
    let s = seen _ _ _ _ _ _ _ _ c.pending.ensures.only_reads (c.in_ok-sync_files.ensures.settled told) (c.sync_files.ensures.read told) (c.in_ok-found.ensures.found told1) in
    rw (p.1, p.2) (passing_says _ c.in_ok-found.found _ s.at_first c.in_err-gate.ensures.causes (λ e. c.in_err-gate.ensures.ends.0 (ap Err e)))

pub returns-in_err-clear_files-clause-any_moment : goal.returns-in_err-clear_files-clause-any_moment
returns-in_err-clear_files-clause-any_moment g c rows f told clear safe =
    let first = c.sync_files.ensures.any_moment rows f told clear safe in
    let second = joined _ _ _ _ _ _ _ first (reading_moments _ _ _ _ _ _ c.pending.ensures.only_reads (Safe rows f) (at_end _ _ _ _ _ first)) in
    let row = safe _ (g.met.D.Disk.read_is_image c.args.disk.now (g.D.Disk.clock c.args.disk.now) told (omega arith)) clear in
    let told1 = c.sync_files.ensures.told told in
    let told2 = c.pending.ensures.only_reads.told told1 in
    let s = seen _ _ _ _ _ _ _ _ c.pending.ensures.only_reads (c.in_ok-sync_files.ensures.settled told) (c.sync_files.ensures.read told) (c.in_ok-found.ensures.found told1) in
    let laid = s.laid row.1 row.4 in
    joined _ _ _ _ _ _ _
    (joined _ _ _ _ _ _ _ second (row_moments _ _ _ _ rows f row.0 row.1 row.2 row.3 (c.pass.ensures.any_moment row.1 told2 s.settled s.pending laid)))
    (row_moments _ _ _ _ rows f row.0 row.1 row.2 row.3
    (c.clear_files.ensures.any_moment row.1 c.in_ok-gate.gate (c.pass.ensures.told told2) (c.in_ok-gate.ensures.ready row.1 told2 s.settled s.pending laid)))

pub returns-in_err-check_heads-clause-any_moment : goal.returns-in_err-check_heads-clause-any_moment
returns-in_err-check_heads-clause-any_moment g c rows f told clear safe =
    let first = c.sync_files.ensures.any_moment rows f told clear safe in
    let second = joined _ _ _ _ _ _ _ first (reading_moments _ _ _ _ _ _ c.pending.ensures.only_reads (Safe rows f) (at_end _ _ _ _ _ first)) in
    let row = safe _ (g.met.D.Disk.read_is_image c.args.disk.now (g.D.Disk.clock c.args.disk.now) told (omega arith)) clear in
    let told1 = c.sync_files.ensures.told told in
    let told2 = c.pending.ensures.only_reads.told told1 in
    let s = seen _ _ _ _ _ _ _ _ c.pending.ensures.only_reads (c.in_ok-sync_files.ensures.settled told) (c.sync_files.ensures.read told) (c.in_ok-found.ensures.found told1) in
    let laid = s.laid row.1 row.4 in
    let all = joined _ _ _ _ _ _ _
    (joined _ _ _ _ _ _ _ second (row_moments _ _ _ _ rows f row.0 row.1 row.2 row.3 (c.pass.ensures.any_moment row.1 told2 s.settled s.pending laid)))
    (row_moments _ _ _ _ rows f row.0 row.1 row.2 row.3
    (c.clear_files.ensures.any_moment row.1 c.in_ok-gate.gate (c.pass.ensures.told told2) (c.in_ok-gate.ensures.ready row.1 told2 s.settled s.pending laid))) in
    joined _ _ _ _ _ _ _ all (reading_moments _ _ _ _ _ _ c.check_heads.ensures.only_reads (Safe rows f) (at_end _ _ _ _ _ all))

pub returns-in_err-check_heads-clause-causes : goal.returns-in_err-check_heads-clause-causes
returns-in_err-check_heads-clause-causes g c told =
    let p = err_from_is_err_and c.from_residual-in_err-check_heads.result c.from_residual-in_err-check_heads.ensures.1 in
    let told1 = c.sync_files.ensures.told told in
    let told2 = c.pending.ensures.only_reads.told told1 in
    let told3 = c.pass.ensures.told told2 in
    let told4 = c.clear_files.ensures.told told3 in
    let s = seen _ _ _ _ _ _ _ _ c.pending.ensures.only_reads (c.in_ok-sync_files.ensures.settled told) (c.sync_files.ensures.read told) (c.in_ok-found.ensures.found told1) in
    rw (p.1, p.2)
    (heads_say _ _ _ _ told4 c.in_err-check_heads.ensures.causes
    (λ h. not_err _ _ (c.in_ok-gate.ensures.ends.1 (ends_pending _ c.in_ok-found.found s.at_first h)))
    (pending_row _ c.in_ok-found.found s.at_first)
    (λ row h. recovered_cells _ c.in_ok-gate.gate row (g.met.D.Disk.read_is_image c.clear_files.new.disk (g.D.Disk.clock c.clear_files.new.disk) told4 (omega arith))
    (c.in_ok-clear_files.ensures.recovered row c.in_ok-gate.gate told3 (c.in_ok-gate.ensures.ready row told2 s.settled s.pending (s.laid row h)))))

pub returns-clause-any_moment : goal.returns-clause-any_moment
returns-clause-any_moment g c rows f told clear safe =
    let first = c.sync_files.ensures.any_moment rows f told clear safe in
    let second = joined _ _ _ _ _ _ _ first (reading_moments _ _ _ _ _ _ c.pending.ensures.only_reads (Safe rows f) (at_end _ _ _ _ _ first)) in
    let row = safe _ (g.met.D.Disk.read_is_image c.args.disk.now (g.D.Disk.clock c.args.disk.now) told (omega arith)) clear in
    let told1 = c.sync_files.ensures.told told in
    let told2 = c.pending.ensures.only_reads.told told1 in
    let s = seen _ _ _ _ _ _ _ _ c.pending.ensures.only_reads (c.in_ok-sync_files.ensures.settled told) (c.sync_files.ensures.read told) (c.in_ok-found.ensures.found told1) in
    let laid = s.laid row.1 row.4 in
    let all = joined _ _ _ _ _ _ _
    (joined _ _ _ _ _ _ _ second (row_moments _ _ _ _ rows f row.0 row.1 row.2 row.3 (c.pass.ensures.any_moment row.1 told2 s.settled s.pending laid)))
    (row_moments _ _ _ _ rows f row.0 row.1 row.2 row.3
    (c.clear_files.ensures.any_moment row.1 c.in_ok-gate.gate (c.pass.ensures.told told2) (c.in_ok-gate.ensures.ready row.1 told2 s.settled s.pending laid))) in
    joined _ _ _ _ _ _ _ all (reading_moments _ _ _ _ _ _ c.check_heads.ensures.only_reads (Safe rows f) (at_end _ _ _ _ _ all))

pub returns-clause-recovered : goal.returns-clause-recovered
returns-clause-recovered g c row told h =
    let told1 = c.sync_files.ensures.told told in
    let told2 = c.pending.ensures.only_reads.told told1 in
    let told3 = c.pass.ensures.told told2 in
    let told4 = c.clear_files.ensures.told told3 in
    let s = seen _ _ _ _ _ _ _ _ c.pending.ensures.only_reads (c.in_ok-sync_files.ensures.settled told) (c.sync_files.ensures.read told) (c.in_ok-found.ensures.found told1) in
    let done = c.in_ok-clear_files.ensures.recovered row c.in_ok-gate.gate told3 (c.in_ok-gate.ensures.ready row told2 s.settled s.pending (s.laid row h)) in
    let cells = recovered_cells _ c.in_ok-gate.gate row (g.met.D.Disk.read_is_image c.clear_files.new.disk (g.D.Disk.clock c.clear_files.new.disk) told4 (omega arith)) done in (
      subst (λ (fs : Files). IsRecovered fs c.in_ok-gate.gate row) (sym (same_files _ _ _ _ _ _ c.check_heads.ensures.only_reads)) done,
      subst (λ (k : Content). AreSteadyHeads k 2) (sym cells) (c.in_ok-check_heads.ensures.steady told4),
    )

pub returns-clause-laid : goal.returns-clause-laid
returns-clause-laid g c told =
    let s = seen _ _ _ _ _ _ _ _ c.pending.ensures.only_reads (c.in_ok-sync_files.ensures.settled told) (c.sync_files.ensures.read told) (c.in_ok-found.ensures.found (c.sync_files.ensures.told told)) in
    pending_row _ c.in_ok-found.found s.at_first

pub returns-clause-no_end : goal.returns-clause-no_end
returns-clause-no_end g c told h =
    let s = seen _ _ _ _ _ _ _ _ c.pending.ensures.only_reads (c.in_ok-sync_files.ensures.settled told) (c.sync_files.ensures.read told) (c.in_ok-found.ensures.found (c.sync_files.ensures.told told)) in
    not_err _ _ (c.in_ok-gate.ensures.ends.1 (ends_pending _ c.in_ok-found.found s.at_first h))
