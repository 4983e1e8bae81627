use Rattle.std.proofs.Common.{sym, ◌∙◌}
use Rattle.pdb_disk.proofs.Calls.{at_end, joined, no_call}
use Rattle.pdb_recover.specs.Recovering.{Recovers}
use Rattle.pdb_recover.proofs.Passing.{given_covers, given_written, laying_moments, pending_laying, pending_ready, pending_recovers, pending_written}
use Rattle.pdb_recover.proofs.recovery.pass.Goals as goal

pub returns-then-found-clause-any_moment : goal.returns-then-found-clause-any_moment
returns-then-found-clause-any_moment g c row told are is h = no_call _ _ (λ fs. Recovers fs row) (pending_recovers _ row c.args.found.now are is h)

pub returns-then-found-clause-ready : goal.returns-then-found-clause-ready
returns-then-found-clause-ready g c row told are is h = pending_ready _ row c.args.found.now are is h c.if-found.true

pub returns-then-found-2-clause-any_moment : goal.returns-then-found-2-clause-any_moment
returns-then-found-2-clause-any_moment g c row told are is h = no_call _ _ (λ fs. Recovers fs row) (pending_recovers _ row c.args.found.now are is h)

pub returns-in_err-write_cells-clause-any_moment : goal.returns-in_err-write_cells-clause-any_moment
returns-in_err-write_cells-clause-any_moment g c row told are is h =
    let covers = given_covers _ c.args.found.now _ c.as_slice.ensures is in
    laying_moments _ _ _ _ row c.args.found.now.gate is.taken
    (c.write_cells.ensures.any_moment row c.args.found.now.gate is.taken told covers (pending_laying _ row c.args.found.now are is h))

pub returns-in_err-sync_written-clause-any_moment : goal.returns-in_err-sync_written-clause-any_moment
returns-in_err-sync_written-clause-any_moment g c row told are is h =
    let covers = given_covers _ c.args.found.now _ c.as_slice.ensures is in
    let first = c.write_cells.ensures.any_moment row c.args.found.now.gate is.taken told covers (pending_laying _ row c.args.found.now are is h) in
    laying_moments _ _ _ _ row c.args.found.now.gate is.taken
    (joined _ _ _ _ _ _ _ first
    (c.sync_written.ensures.any_moment row c.args.found.now.gate is.taken (c.write_cells.ensures.told told) (at_end _ _ _ _ _ first)))

pub returns-in_err-write_gate-clause-any_moment : goal.returns-in_err-write_gate-clause-any_moment
returns-in_err-write_gate-clause-any_moment g c row told are is h =
    let covers = given_covers _ c.args.found.now _ c.as_slice.ensures is in
    let first = c.write_cells.ensures.any_moment row c.args.found.now.gate is.taken told covers (pending_laying _ row c.args.found.now are is h) in
    let told1 = c.write_cells.ensures.told told in
    let both = joined _ _ _ _ _ _ _ first (c.sync_written.ensures.any_moment row c.args.found.now.gate is.taken told1 (at_end _ _ _ _ _ first)) in
    let written = c.in_ok-write_cells.ensures.written told in
    let settled = c.in_ok-sync_written.ensures.settled _ told1 are (given_written _ _ _ _ (c.as_slice.ensures ∙ sym c.as_slice-2.ensures) written) in
    let before = pending_written _ row c.args.found.now are is h _ _ (given_written _ _ _ _ c.as_slice.ensures written) (c.sync_written.ensures.read told1) settled (at_end _ _ _ _ _ both) in
    joined _ _ _ _ _ _ _ (laying_moments _ _ _ _ row c.args.found.now.gate is.taken both)
    (c.write_gate.ensures.any_moment row c.args.found.now.gate is.taken (c.sync_written.ensures.told told1) before)

pub returns-clause-any_moment : goal.returns-clause-any_moment
returns-clause-any_moment g c row told are is h =
    let covers = given_covers _ c.args.found.now _ c.as_slice.ensures is in
    let first = c.write_cells.ensures.any_moment row c.args.found.now.gate is.taken told covers (pending_laying _ row c.args.found.now are is h) in
    let told1 = c.write_cells.ensures.told told in
    let both = joined _ _ _ _ _ _ _ first (c.sync_written.ensures.any_moment row c.args.found.now.gate is.taken told1 (at_end _ _ _ _ _ first)) in
    let written = c.in_ok-write_cells.ensures.written told in
    let settled = c.in_ok-sync_written.ensures.settled _ told1 are (given_written _ _ _ _ (c.as_slice.ensures ∙ sym c.as_slice-2.ensures) written) in
    let before = pending_written _ row c.args.found.now are is h _ _ (given_written _ _ _ _ c.as_slice.ensures written) (c.sync_written.ensures.read told1) settled (at_end _ _ _ _ _ both) in
    joined _ _ _ _ _ _ _ (laying_moments _ _ _ _ row c.args.found.now.gate is.taken both)
    (c.write_gate.ensures.any_moment row c.args.found.now.gate is.taken (c.sync_written.ensures.told told1) before)

pub returns-clause-ready : goal.returns-clause-ready
returns-clause-ready g c row told are is h =
    let covers = given_covers _ c.args.found.now _ c.as_slice.ensures is in
    let first = c.write_cells.ensures.any_moment row c.args.found.now.gate is.taken told covers (pending_laying _ row c.args.found.now are is h) in
    let told1 = c.write_cells.ensures.told told in
    let second = c.sync_written.ensures.any_moment row c.args.found.now.gate is.taken told1 (at_end _ _ _ _ _ first) in
    let written = c.in_ok-write_cells.ensures.written told in
    let settled = c.in_ok-sync_written.ensures.settled _ told1 are (given_written _ _ _ _ (c.as_slice.ensures ∙ sym c.as_slice-2.ensures) written) in
    let before = pending_written _ row c.args.found.now are is h _ _ (given_written _ _ _ _ c.as_slice.ensures written) (c.sync_written.ensures.read told1) settled (at_end _ _ _ _ _ second) in
    c.in_ok-write_gate.ensures.ready row c.args.found.now.gate is.taken (c.sync_written.ensures.told told1) before
