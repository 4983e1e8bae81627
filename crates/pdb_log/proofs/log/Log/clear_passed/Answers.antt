use Rattle.std.proofs.Common.{◌≤◌, ◌<◌, sym, ap, subst, arith}
use Rattle.std.specs.Prelude.{OnOk, slice_index}
use Rattle.pdb_disk.proofs.Calls.{no_call}
use Rattle.pdb_model.specs.Recovery.{Safe}
use Rattle.pdb_model.specs.declared.gate_slot.GateSlot.{GateSlot}
use Rattle.pdb_log.specs.Ledger.{Ledger}
use Rattle.pdb_log.specs.Standing.{IsLog}
use Rattle.pdb_log.proofs.Cleared.{cleared_is, cleared_not, file_passed}
use Rattle.pdb_log.proofs.Logs.{safe_now}
use Rattle.pdb_log.proofs.log.Log.clear_passed.Goals as goal
use Rattle.pdb_log.proofs.log.Log.clear_passed.Goals.{else-self-file-gt0-via-then-self-file-gt0+else-self-file, else-self-file-gt0-via-else-self-file-gt0}

pub returns-then-self-file-clause-file_cleared : goal.returns-then-self-file-clause-file_cleared
returns-then-self-file-clause-file_cleared g c l rows f is =
    let more : 0 < slice_index c.args.self.now.ends c.args.file = c.if-self-file-gt0.true in
    let e = ap (λ (x : GateSlot). x.number) is.gate_is in
    let passed = c.if-self-file.true in
    let low : slice_index c.args.self.now.last c.args.file ≤ l.gate.number = omega (arith, e, passed) in
    subst (λ (k : Ledger). OnOk c.clear_file.result (IsLog g.D.Disk.tells g.D.Disk.clock g.D.Disk.past c.clear_file.new.self k rows f))
    (sym (cleared_is g.D.Disk.tells g.D.Disk.clock g.D.Disk.past c.args.self.now c.args.file l rows f c.requires is more low))
    (c.clear_file.ensures.file_emptied l rows f is (file_passed g.D.Disk.tells g.D.Disk.clock g.D.Disk.past c.args.self.now c.args.file l rows f c.requires is low))

pub returns-then-self-file-clause-any_moment : goal.returns-then-self-file-clause-any_moment
returns-then-self-file-clause-any_moment g c l rows f is =
    let e = ap (λ (x : GateSlot). x.number) is.gate_is in
    let passed = c.if-self-file.true in
    let low : slice_index c.args.self.now.last c.args.file ≤ l.gate.number = omega (arith, e, passed) in
    c.clear_file.ensures.any_moment l rows f is (file_passed g.D.Disk.tells g.D.Disk.clock g.D.Disk.past c.args.self.now c.args.file l rows f c.requires is low)

pub returns-clause-file_cleared : goal.returns-clause-file_cleared
returns-clause-file_cleared g c l rows f is =
    let e = ap (λ (x : GateSlot). x.number) is.gate_is in
    let out : 0 < slice_index c.args.self.now.ends c.args.file → slice_index c.args.self.now.last c.args.file ≤ l.gate.number → ⊥ = λ more low. elim c.else-self-file-gt0.branch [
      | else-self-file-gt0-via-then-self-file-gt0+else-self-file w ↦ let high = w.if-self-file.false in omega (arith, high, low, e)
      | else-self-file-gt0-via-else-self-file-gt0 w ↦ let none = w.if-self-file-gt0.false in omega (arith, none, more)
    ] in
    subst (λ (k : Ledger). IsLog g.D.Disk.tells g.D.Disk.clock g.D.Disk.past c.args.self.now k rows f)
    (cleared_not g.D.Disk.tells g.D.Disk.clock g.D.Disk.past c.args.self.now c.args.file l rows f c.requires is out) is

pub returns-clause-any_moment : goal.returns-clause-any_moment
returns-clause-any_moment g c l rows f is =
    no_call (g.D.Disk.clock c.args.self.now.disk) (g.D.Disk.past c.args.self.now.disk) (Safe rows f) (safe_now g.D.Disk.tells g.D.Disk.clock g.D.Disk.past c.args.self.now l rows f is)
