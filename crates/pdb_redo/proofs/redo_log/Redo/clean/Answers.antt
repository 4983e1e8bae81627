use Rattle.std.proofs.Common.{◌∙◌, ap, refl}
use Rattle.pdb_disk.proofs.Calls.{no_call}
use Rattle.pdb_model.specs.Recovery.{Safe}
use Rattle.pdb_model.specs.declared.gate_slot.GateSlot.{GateSlot}
use Rattle.pdb_redo.proofs.Appended.{safe_now_of}
use Rattle.pdb_redo.proofs.Emptied.{files_empty, nothing_waits}
use Rattle.pdb_redo.proofs.Reached.{goes_by}
use Rattle.pdb_log.specs.Tallies.{with_gate}
use Rattle.pdb_redo.proofs.Tallies.{redo_rises, redo_tally}
use Rattle.pdb_redo.proofs.redo_log.Redo.clean.Goals as goal

pub returns-then-self-gate-clause-any_moment : goal.returns-then-self-gate-clause-any_moment
returns-then-self-gate-clause-any_moment g c rows f is = no_call _ _ (Safe rows f) (safe_now_of g.D.Disk.tells g.D.Disk.clock g.D.Disk.past c.args.self.now rows f is)

pub returns-then-self-gate-clause-empty : goal.returns-then-self-gate-clause-empty
returns-then-self-gate-clause-empty g c rows f is all =
    files_empty g.D.Disk.tells g.D.Disk.clock g.D.Disk.past c.args.self.now rows f is
    (nothing_waits g.D.Disk.tells g.D.Disk.clock g.D.Disk.past c.args.self.now rows f is (c.if-self-gate.true ∙ ap (λ (s : GateSlot). s.number) c.gate-gate.ensures) all)

pub returns-then-gate-clause-any_moment : goal.returns-then-gate-clause-any_moment
returns-then-gate-clause-any_moment g c rows f is = no_call _ _ (Safe rows f) (safe_now_of g.D.Disk.tells g.D.Disk.clock g.D.Disk.past c.args.self.now rows f is)

pub returns-in-Err-clause-any_moment : goal.returns-in-Err-clause-any_moment
returns-in-Err-clause-any_moment g c rows f is = rw c.stop.ensures.noted (c.pass_enacted.ensures.any_moment rows f is)

pub returns-in-Err-clause-cells : goal.returns-in-Err-clause-cells
returns-in-Err-clause-cells g c told failed file index = rw c.stop.ensures.noted (c.pass_enacted.ensures.cells told file index)

pub returns-in-Ok-clause-reach : goal.returns-in-Ok-clause-reach
returns-in-Ok-clause-reach g c = rw c.pass_enacted.ensures.rest refl

pub returns-in-Ok-clause-goes_on : goal.returns-in-Ok-clause-goes_on
returns-in-Ok-clause-goes_on g c =
    goes_by g.D.Disk.clock g.D.Disk.past c.args.self.now c.pass_enacted.new.self c.pass_enacted.ensures.goes_on (rw c.pass_enacted.ensures.rest refl)

pub returns-in-Err-clause-reach : goal.returns-in-Err-clause-reach
returns-in-Err-clause-reach g c = rw (c.stop.ensures.noted, c.pass_enacted.ensures.rest) refl

pub returns-in-Err-clause-goes_on : goal.returns-in-Err-clause-goes_on
returns-in-Err-clause-goes_on g c =
    goes_by g.D.Disk.clock g.D.Disk.past c.args.self.now c.stop.new.self (rw c.stop.ensures.noted c.pass_enacted.ensures.goes_on)
    (rw (c.stop.ensures.noted, c.pass_enacted.ensures.rest) refl)

pub returns-then-self-gate-clause-tally : goal.returns-then-self-gate-clause-tally
returns-then-self-gate-clause-tally g c t is = redo_rises c.args.self.now t is

pub returns-then-gate-clause-tally : goal.returns-then-gate-clause-tally
returns-then-gate-clause-tally g c t is = redo_rises c.args.self.now t is

pub returns-in-Err-clause-tally : goal.returns-in-Err-clause-tally
returns-in-Err-clause-tally g c t is =
    let goes = c.pass_enacted.ensures.tally t is in
    redo_tally c.pass_enacted.new.self (with_gate t) goes c.stop.new.self (with_gate t) refl (rw c.stop.ensures.noted goes.log) (rw c.stop.ensures.noted refl)
