use Rattle.std.proofs.Common.{arith}
use Rattle.pdb_disk.proofs.Calls.{joined}
use Rattle.pdb_model.specs.Recovery.{Safe}
use Rattle.std.proofs.Common.{ℕ, ◌+◌, drop, ◌≡◌, ◌∙◌, ◌++◌, [], refl, sym, subst}
use Rattle.std.specs.Prelude.{OnOk, Result, Ok, Err}
use Rattle.pdb_log.specs.Ledger.{Ledger, files_cleared, passed}
use Rattle.pdb_log.specs.Standing.{IsLog, next_gate}
use Rattle.pdb_redo.proofs.AllCleared.{none_left}
use Rattle.pdb_redo.proofs.CellSizes.{cells_alike}
use Rattle.pdb_redo.proofs.Emptied.{empty_file}
use Rattle.pdb_redo.proofs.Passed.{all_passed, cleared_as, next_is, passed_redo}
use Rattle.pdb_redo.proofs.Redos.{same_read, still_settled}
use Rattle.pdb_log.proofs.Times.{time_then}
use Rattle.pdb_log.specs.Tallies.{with_gate}
use Rattle.pdb_log.proofs.Tallies.{tally_beside, tally_rises}
use Rattle.pdb_redo.proofs.Tallies.{redo_tally}
use Rattle.pdb_redo.proofs.redo_log.Redo.pass_enacted.Goals as goal

on_ok : {T E : Type 0} {P Q : Type 0} (r : Result T E) → OnOk r P → (P → Q) → OnOk r Q
on_ok (Ok t) h go = go h
on_ok (Err e) h go = tt

pub returns-in_err-sync_written-clause-any_moment : goal.returns-in_err-sync_written-clause-any_moment
returns-in_err-sync_written-clause-any_moment g c rows f is = c.sync_written.ensures.passes.moments is.0 rows f is.1.log

pub returns-clause-any_moment : goal.returns-clause-any_moment
returns-clause-any_moment g c rows f is =
    let told = is.1.log.told in
    let image = g.met.D.Disk.read_is_image c.args.self.now.log.disk (g.D.Disk.clock c.args.self.now.log.disk) told (omega arith) in
    let next = next_is g.D.Disk.tells g.D.Disk.clock g.D.Disk.past c.args.self.now c.sync_written.new.log is.0 rows f is.1 c.sync_written.ensures.passes image (c.in_ok-sync_written.ensures.settled told is.1.settled) in
    joined _ _ _ _ _ _ (Safe rows f) (c.sync_written.ensures.passes.moments is.0 rows f is.1.log)
    (c.clean.ensures.any_moment is.0 rows f _ _ (c.sync_written.ensures.passes.stands is.0 rows f is.1.log) next)

pub returns-clause-cleaned : goal.returns-clause-cleaned
returns-clause-cleaned g c rows f is =
    let told = is.1.log.told in
    let passes = c.sync_written.ensures.passes in
    let image = g.met.D.Disk.read_is_image c.args.self.now.log.disk (g.D.Disk.clock c.args.self.now.log.disk) told (omega arith) in
    let settled = c.in_ok-sync_written.ensures.settled told is.1.settled in
    let next = next_is g.D.Disk.tells g.D.Disk.clock g.D.Disk.past c.args.self.now c.sync_written.new.log is.0 rows f is.1 passes image settled in
    let aside = c.clean.ensures.aside.cells (passes.told told) in
    let l0 : Ledger = passed is.0 (next_gate c.sync_written.new.log c.args.self.now.enacted.number c.args.self.now.enacted.commits) (drop is.1.done is.0.flushed) in
    let n : ℕ = c.sync_written.new.log.number + 1 in
    on_ok c.clean.result (c.clean.ensures.cleaned is.0 rows f _ _ (passes.stands is.0 rows f is.1.log) next) (λ log. (
      _,
      passed_redo g.D.Disk.tells g.D.Disk.clock g.D.Disk.past c.args.self.now c.sync_written.new.log is.0 rows f is.1 passes image _ (files_cleared l0 n).segments
          (λ file index. same_read _ _ aside file index ∙ cells_alike _ _ (λ j high. passes.read told j) file index) refl refl
          (subst (λ (m : Ledger). IsLog g.D.Disk.tells g.D.Disk.clock g.D.Disk.past c.clean.new.self m rows f) (cleared_as l0 n) log)
          refl refl refl refl (λ j sized. still_settled _ _ aside j sized (settled j sized))
          (λ none. none_left g.D.Disk.tells g.D.Disk.clock g.D.Disk.past c.clean.new.self l0 n rows f log (subst (λ (m : Ledger). m.flushed ++ m.rest ≡ []) (sym (cleared_as l0 n)) none)),
    ))

pub returns-clause-empty : goal.returns-clause-empty
returns-clause-empty g c rows f is all =
    let told = is.1.log.told in
    let passes = c.sync_written.ensures.passes in
    let image = g.met.D.Disk.read_is_image c.args.self.now.log.disk (g.D.Disk.clock c.args.self.now.log.disk) told (omega arith) in
    let next = next_is g.D.Disk.tells g.D.Disk.clock g.D.Disk.past c.args.self.now c.sync_written.new.log is.0 rows f is.1 passes image (c.in_ok-sync_written.ensures.settled told is.1.settled) in
    let l0 : Ledger = passed is.0 (next_gate c.sync_written.new.log c.args.self.now.enacted.number c.args.self.now.enacted.commits) (drop is.1.done is.0.flushed) in
    let n : ℕ = c.sync_written.new.log.number + 1 in
    let none = all_passed g.D.Disk.tells g.D.Disk.clock g.D.Disk.past c.args.self.now c.sync_written.new.log is.0 rows f is.1 passes image all in
    on_ok c.clean.result (c.clean.ensures.cleaned is.0 rows f _ _ (passes.stands is.0 rows f is.1.log) next) (λ log j m.
    empty_file _ ((files_cleared l0 n).segments j) (log.segments j m) (log.read j m)
    (none_left g.D.Disk.tells g.D.Disk.clock g.D.Disk.past c.clean.new.self l0 n rows f log (subst (λ (k : Ledger). k.flushed ++ k.rest ≡ []) (sym (cleared_as l0 n)) none) j m))

pub returns-in_err-sync_written-clause-goes_on : goal.returns-in_err-sync_written-clause-goes_on
returns-in_err-sync_written-clause-goes_on g c = c.sync_written.ensures.passes.goes_on

pub returns-clause-goes_on : goal.returns-clause-goes_on
returns-clause-goes_on g c =
    time_then g.D.Disk.clock g.D.Disk.past c.args.self.now.log.disk c.sync_written.new.log.disk c.clean.new.self.disk c.sync_written.ensures.passes.goes_on c.clean.ensures.goes_on

pub returns-in_err-sync_written-clause-tally : goal.returns-in_err-sync_written-clause-tally
returns-in_err-sync_written-clause-tally g c t is =
    let log = tally_beside c.args.self.now.log t is.log c.sync_written.new.log c.sync_written.ensures.passes.rest in
    redo_tally c.args.self.now t is _ (with_gate t) refl (tally_rises c.sync_written.new.log t log) refl

pub returns-clause-tally : goal.returns-clause-tally
returns-clause-tally g c t is =
    let log = tally_beside c.args.self.now.log t is.log c.sync_written.new.log c.sync_written.ensures.passes.rest in
    redo_tally c.args.self.now t is _ (with_gate t) refl (c.clean.ensures.tally t log) refl
