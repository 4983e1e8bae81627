use Rattle.std.proofs.Common.{◌∙◌, subst, sym}
use Rattle.pdb_disk.specs.Files.{reads_of}
use Rattle.pdb_model.specs.Logs.{gate_file}
use Rattle.pdb_recover.proofs.PendingReads.{Takes, gate_there, none_there, takes_next, takes_none}
use Rattle.pdb_recover.proofs.TakenRecords.{is_pending}
use Rattle.pdb_recover.proofs.reading.pending.Goals as goal

pub loop-puts-init : goal.loop-puts-init
loop-puts-init g c =
    subst (Takes g.D.Disk.tells g.D.Disk.clock g.D.Disk.past g.D.Disk.read_count g.D.Disk.fault_count c.args.disk.now c.at_fronts.new.disk c.in-Ok-Some.gate c.in-Ok.logs c.in-Ok-Some.gate.number c.in-Ok-Some.gate.commits)
    (sym c.new-puts.ensures)
    (takes_none g.D.Disk.tells g.D.Disk.clock g.D.Disk.past g.D.Disk.read_count g.D.Disk.fault_count c.args.disk.now c.read_gate_in_force.new.disk c.at_fronts.new.disk c.in-Ok-Some.gate c.in-Ok.logs
    c.in-Ok-Some.ensures.only_reads c.in-Ok.ensures.only_reads c.in-Ok-Some.ensures.counted c.in-Ok.ensures.counted c.in-Ok.ensures.begun)

pub returns-in_err-commits-clause-nothing : goal.returns-in_err-commits-clause-nothing
returns-in_err-commits-clause-nothing g c told none = absurd (none c.in-Ok-Some.gate (gate_there (g.D.Disk.past c.args.disk.now (g.D.Disk.clock c.args.disk.now) gate_file).read c.in-Ok-Some.field-0 c.in-Ok-Some.gate c.in-Ok-Some.field-0-is (c.in-Ok-Some.ensures.gate told)).whole)

pub loop-puts-preserved : goal.loop-puts-preserved
loop-puts-preserved g c =
    takes_next g.D.Disk.tells g.D.Disk.clock g.D.Disk.past g.D.Disk.read_count g.D.Disk.fault_count c.args.disk.now c.loop-puts.disk c.record_after.new.disk c.in-Ok-Some.gate c.loop-puts.logs c.record_after.new.logs
    c.loop-puts.number c.loop-puts.commits c.in_ok-commits.commits c.loop-puts.puts c.lay_record.new.puts c.loop-puts.invariant c.in_ok-record.field-0 c.in-Some.record c.in-Some.is c.in_ok-record.ensures.found
    c.in_ok-record.ensures.only_reads c.in_ok-record.ensures.counted
    (λ r is e. c.in_ok-commits.ensures.commits r is (c.as_slice.ensures ∙ e))
    (λ r is e. c.in_ok-commits.ensures.laid r is (c.as_slice.ensures ∙ e))

pub returns-clause-found : goal.returns-clause-found
returns-clause-found g c told =
    is_pending (reads_of (g.D.Disk.past c.args.disk.now (g.D.Disk.clock c.args.disk.now))) c.loop-puts.logs c.record_after.new.logs c.in-Ok-Some.gate c.loop-puts.number c.loop-puts.commits c.loop-puts.puts c.into_puts.result
    (gate_there (g.D.Disk.past c.args.disk.now (g.D.Disk.clock c.args.disk.now) gate_file).read c.in-Ok-Some.field-0 c.in-Ok-Some.gate c.in-Ok-Some.field-0-is (c.in-Ok-Some.ensures.gate told)) (c.loop-puts.invariant.taken told)
    (none_there g.D.Disk.tells g.D.Disk.clock g.D.Disk.past g.D.Disk.read_count g.D.Disk.fault_count c.args.disk.now c.loop-puts.disk c.in-Ok-Some.gate c.loop-puts.logs c.record_after.new.logs
    c.loop-puts.number c.loop-puts.commits c.loop-puts.puts c.loop-puts.invariant c.in_ok-record.field-0 c.in_default.not-Some c.in_ok-record.ensures.found told)
    c.into_puts.ensures.puts c.into_puts.ensures.whole
