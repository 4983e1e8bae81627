use Rattle.std.proofs.Common.{◌*◌, ap}
use Rattle.pdb_recover.proofs.ReadGates.{slot_read}
use Rattle.pdb_recover.proofs.gates.read_slot.Goals as goal

pub returns-in-Ok-clause-slot : goal.returns-in-Ok-clause-slot
returns-in-Ok-clause-slot g c told =
    slot_read (g.D.Disk.past c.args.disk.now (g.D.Disk.clock c.args.disk.now) 0).read c.args.place (4096 * c.from.result) c.read_at.new.into c.read_gate.result
    c.read_at.auto.into (ap (λ n. 4096 * n) c.from.ensures) (c.in-Ok.ensures.bytes told) c.read_gate.ensures.whole c.read_gate.ensures.only
