use Rattle.std.proofs.Common.{rules, ◌≡◌, ◌*◌, length, sym, subst, ◌∙◌}
use Rattle.pdb_disk.specs.Files.{StandsAt}
use Rattle.pdb_model.specs.Logs.{gate_file}
use Rattle.pdb_redo.proofs.CreatReads.{no_slot, slot_found}
use Rattle.pdb_redo.proofs.creating.has_gate.Goals as goal

pub returns-in-Ok-clause-found : goal.returns-in-Ok-clause-found
returns-in-Ok-clause-found g c told whole =
    let file = (g.D.Disk.past c.args.disk.now (g.D.Disk.clock c.args.disk.now) gate_file).read in
    slot_found file c.args.place c.read_at.new.into c.read_gate.result
    (subst (λ p. StandsAt file (4096 * p) c.read_at.new.into) c.from.ensures (c.in-Ok.ensures.bytes told)) c.read_gate.ensures.only (sym c.is_some.ensures ∙ whole)

pub returns-in-Ok-clause-none : goal.returns-in-Ok-clause-none
returns-in-Ok-clause-none g c told not =
    let file = (g.D.Disk.past c.args.disk.now (g.D.Disk.clock c.args.disk.now) gate_file).read in
    let long : length c.read_at.new.into ≡ 64 = search rules in
    no_slot file c.args.place c.read_at.new.into c.read_gate.result long
    (subst (λ p. StandsAt file (4096 * p) c.read_at.new.into) c.from.ensures (c.in-Ok.ensures.bytes told)) c.read_gate.ensures.whole (sym c.is_some.ensures ∙ not)
