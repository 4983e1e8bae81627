use Rattle.std.proofs.Common.{◌+◌, ◌<◌, rules, ◌∙◌, subst, arith}
use Rattle.std.specs.Prelude.{IfSome}
use Rattle.pdb_recover.proofs.ReadBytes.{reads_after}
use Rattle.pdb_recover.proofs.ScanEnds.{none_comes}
use Rattle.pdb_recover.proofs.ScanSteps.{scanned_more}
use Rattle.pdb_recover.proofs.ScanSeeks.{none_higher, seeks_none, some_higher, step_seeks, stepped_on, stepped_out}
use Rattle.pdb_recover.proofs.cursor.Cursor.seek.Goals as goal

pub loop-self-init : goal.loop-self-init
loop-self-init g c = seeks_none g.D.Disk.tells g.D.Disk.clock g.D.Disk.past g.D.Disk.read_count g.D.Disk.fault_count c.args.disk.now c.args.self.now c.args.number

pub returns-then-head-number-clause-only_reads : goal.returns-then-head-number-clause-only_reads
returns-then-head-number-clause-only_reads g c = c.loop-self.invariant.reads

pub returns-then-head-number-clause-file : goal.returns-then-head-number-clause-file
returns-then-head-number-clause-file g c = c.loop-self.invariant.file

pub returns-then-head-number-clause-counted : goal.returns-then-head-number-clause-counted
returns-then-head-number-clause-counted g c = c.loop-self.invariant.faults

pub returns-then-head-number-clause-found : goal.returns-then-head-number-clause-found
returns-then-head-number-clause-found g c told h = none_comes (g.D.Disk.past c.args.disk.now (g.D.Disk.clock c.args.disk.now) c.args.self.now.file).read c.loop-self.self c.args.number (c.loop-self.invariant.scanned told h) (some_higher _ _ c.in-Some.head c.in-Some.is c.if-head-number.true)

pub returns-then-head-number-clause-scanned : goal.returns-then-head-number-clause-scanned
returns-then-head-number-clause-scanned g c told h = scanned_more (g.D.Disk.past c.args.disk.now (g.D.Disk.clock c.args.disk.now) c.args.self.now.file).read c.loop-self.self c.args.number (c.args.number + 1) (omega arith) (c.loop-self.invariant.scanned told h)

pub returns-in_err-bytes-clause-only_reads : goal.returns-in_err-bytes-clause-only_reads
returns-in_err-bytes-clause-only_reads g c = reads_after g.D.Disk.tells g.D.Disk.clock g.D.Disk.past g.D.Disk.read_count c.args.disk.now c.loop-self.disk c.step.new.disk c.loop-self.invariant.reads c.in_err-bytes.ensures.only_reads

pub returns-in_err-bytes-clause-file : goal.returns-in_err-bytes-clause-file
returns-in_err-bytes-clause-file g c = c.in_err-bytes.ensures.file ∙ c.loop-self.invariant.file

pub returns-in_err-bytes-clause-counted : goal.returns-in_err-bytes-clause-counted
returns-in_err-bytes-clause-counted g c = search rules

pub returns-in_default-2-clause-only_reads : goal.returns-in_default-2-clause-only_reads
returns-in_default-2-clause-only_reads g c = reads_after g.D.Disk.tells g.D.Disk.clock g.D.Disk.past g.D.Disk.read_count c.args.disk.now c.loop-self.disk c.step.new.disk c.loop-self.invariant.reads c.in_ok-bytes.ensures.only_reads

pub returns-in_default-2-clause-file : goal.returns-in_default-2-clause-file
returns-in_default-2-clause-file g c = c.in_ok-bytes.ensures.file ∙ c.loop-self.invariant.file

pub returns-in_default-2-clause-counted : goal.returns-in_default-2-clause-counted
returns-in_default-2-clause-counted g c = c.in_ok-bytes.ensures.counted ∙ c.loop-self.invariant.faults

pub returns-in_default-2-clause-found : goal.returns-in_default-2-clause-found
returns-in_default-2-clause-found g c told h =
    let out = stepped_out (g.D.Disk.past c.args.disk.now (g.D.Disk.clock c.args.disk.now) c.args.self.now.file).read c.step.new.self c.args.number c.in-Some.head.number c.in_ok-bytes.field-0 c.in_default-2.not-Some
    (step_seeks g.D.Disk.tells g.D.Disk.clock g.D.Disk.past g.D.Disk.read_count g.D.Disk.fault_count c.args.disk.now c.loop-self.disk c.args.self.now c.loop-self.self c.args.number c.loop-self.invariant c.step.new.self c.in-Some.head.number c.in_ok-bytes.field-0 c.in_ok-bytes.ensures.steps told h) in
    none_comes (g.D.Disk.past c.args.disk.now (g.D.Disk.clock c.args.disk.now) c.args.self.now.file).read c.step.new.self c.args.number out.0 out.1

pub returns-in_default-2-clause-scanned : goal.returns-in_default-2-clause-scanned
returns-in_default-2-clause-scanned g c told h =
    let out = stepped_out (g.D.Disk.past c.args.disk.now (g.D.Disk.clock c.args.disk.now) c.args.self.now.file).read c.step.new.self c.args.number c.in-Some.head.number c.in_ok-bytes.field-0 c.in_default-2.not-Some
    (step_seeks g.D.Disk.tells g.D.Disk.clock g.D.Disk.past g.D.Disk.read_count g.D.Disk.fault_count c.args.disk.now c.loop-self.disk c.args.self.now c.loop-self.self c.args.number c.loop-self.invariant c.step.new.self c.in-Some.head.number c.in_ok-bytes.field-0 c.in_ok-bytes.ensures.steps told h) in
    scanned_more (g.D.Disk.past c.args.disk.now (g.D.Disk.clock c.args.disk.now) c.args.self.now.file).read c.step.new.self c.args.number (c.args.number + 1) (omega arith) out.0

pub returns-then-head-number-2-clause-only_reads : goal.returns-then-head-number-2-clause-only_reads
returns-then-head-number-2-clause-only_reads g c = reads_after g.D.Disk.tells g.D.Disk.clock g.D.Disk.past g.D.Disk.read_count c.args.disk.now c.loop-self.disk c.step.new.disk c.loop-self.invariant.reads c.in_ok-bytes.ensures.only_reads

pub returns-then-head-number-2-clause-file : goal.returns-then-head-number-2-clause-file
returns-then-head-number-2-clause-file g c = c.in_ok-bytes.ensures.file ∙ c.loop-self.invariant.file

pub returns-then-head-number-2-clause-counted : goal.returns-then-head-number-2-clause-counted
returns-then-head-number-2-clause-counted g c = c.in_ok-bytes.ensures.counted ∙ c.loop-self.invariant.faults

pub returns-then-head-number-2-clause-found : goal.returns-then-head-number-2-clause-found
returns-then-head-number-2-clause-found g c told h =
    let on = stepped_on (g.D.Disk.past c.args.disk.now (g.D.Disk.clock c.args.disk.now) c.args.self.now.file).read c.step.new.self c.args.number c.in-Some.head.number c.in_ok-bytes.field-0 c.in-Some-2.bytes c.in-Some-2.is
    (step_seeks g.D.Disk.tells g.D.Disk.clock g.D.Disk.past g.D.Disk.read_count g.D.Disk.fault_count c.args.disk.now c.loop-self.disk c.args.self.now c.loop-self.self c.args.number c.loop-self.invariant c.step.new.self c.in-Some.head.number c.in_ok-bytes.field-0 c.in_ok-bytes.ensures.steps told h) in
    (on.0.0, on.0.1, on.0.2 ∙ c.if-head-number-2.true, on.0.3)

pub returns-then-head-number-2-clause-scanned : goal.returns-then-head-number-2-clause-scanned
returns-then-head-number-2-clause-scanned g c told h =
    let on = stepped_on (g.D.Disk.past c.args.disk.now (g.D.Disk.clock c.args.disk.now) c.args.self.now.file).read c.step.new.self c.args.number c.in-Some.head.number c.in_ok-bytes.field-0 c.in-Some-2.bytes c.in-Some-2.is
    (step_seeks g.D.Disk.tells g.D.Disk.clock g.D.Disk.past g.D.Disk.read_count g.D.Disk.fault_count c.args.disk.now c.loop-self.disk c.args.self.now c.loop-self.self c.args.number c.loop-self.invariant c.step.new.self c.in-Some.head.number c.in_ok-bytes.field-0 c.in_ok-bytes.ensures.steps told h) in
    let e = c.if-head-number-2.true in on.1 (c.args.number + 1) (omega arith) (omega (arith, e))

pub loop-self-smaller : goal.loop-self-smaller
loop-self-smaller g c =
    let on = subst (λ o. IfSome o (λ b. c.loop-self.self.at < c.step.new.self.at)) c.in-Some-2.is c.in_ok-bytes.ensures.further in
    let low = c.step.new.self.within in
    omega (arith, on, low)

pub loop-self-preserved : goal.loop-self-preserved
loop-self-preserved g c = record {
  reads = reads_after g.D.Disk.tells g.D.Disk.clock g.D.Disk.past g.D.Disk.read_count c.args.disk.now c.loop-self.disk c.step.new.disk c.loop-self.invariant.reads c.in_ok-bytes.ensures.only_reads;
  faults = c.in_ok-bytes.ensures.counted ∙ c.loop-self.invariant.faults;
  file = c.in_ok-bytes.ensures.file ∙ c.loop-self.invariant.file;
  scanned = λ told h.
      let on = stepped_on (g.D.Disk.past c.args.disk.now (g.D.Disk.clock c.args.disk.now) c.args.self.now.file).read c.step.new.self c.args.number c.in-Some.head.number c.in_ok-bytes.field-0 c.in-Some-2.bytes c.in-Some-2.is
      (step_seeks g.D.Disk.tells g.D.Disk.clock g.D.Disk.past g.D.Disk.read_count g.D.Disk.fault_count c.args.disk.now c.loop-self.disk c.args.self.now c.loop-self.self c.args.number c.loop-self.invariant c.step.new.self c.in-Some.head.number c.in_ok-bytes.field-0 c.in_ok-bytes.ensures.steps told h) in
      let low = c.if-head-number.false in
      let ne = c.if-head-number-2.false in
      on.1 c.args.number (omega arith) (omega (arith, low, ne));
}

pub returns-clause-only_reads : goal.returns-clause-only_reads
returns-clause-only_reads g c = c.loop-self.invariant.reads

pub returns-clause-file : goal.returns-clause-file
returns-clause-file g c = c.loop-self.invariant.file

pub returns-clause-counted : goal.returns-clause-counted
returns-clause-counted g c = c.loop-self.invariant.faults

pub returns-clause-found : goal.returns-clause-found
returns-clause-found g c told h = none_comes (g.D.Disk.past c.args.disk.now (g.D.Disk.clock c.args.disk.now) c.args.self.now.file).read c.loop-self.self c.args.number (c.loop-self.invariant.scanned told h) (none_higher _ _ c.in_default.not-Some)

pub returns-clause-scanned : goal.returns-clause-scanned
returns-clause-scanned g c told h = scanned_more (g.D.Disk.past c.args.disk.now (g.D.Disk.clock c.args.disk.now) c.args.self.now.file).read c.loop-self.self c.args.number (c.args.number + 1) (omega arith) (c.loop-self.invariant.scanned told h)
