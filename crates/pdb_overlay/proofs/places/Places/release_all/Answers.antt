use Rattle.std.proofs.Common.{arith, subst}
use Rattle.std.proofs.lemmas.List.{take_all}
use Rattle.pdb_overlay.specs.inner.Placing.{AreReleased, Changes}
use Rattle.pdb_overlay.specs.inner.Slots.{without}
use Rattle.pdb_overlay.proofs.Stepping.{release_more}
use Rattle.pdb_overlay.proofs.places.Places.release_all.Goals as goal

pub loop-op-preserved : goal.loop-op-preserved
loop-op-preserved c =
    release_more c.args.number c.args.ops.now c.loop-op.op-index c.op-item.result c.args.self.now c.loop-op.self c.release.new.self (omega arith)
    c.loop-op.invariant
    (subst (λ op. Changes (without c.args.number) c.loop-op.self op c.release.new.self) c.op-item.is c.release.ensures)

pub returns : goal.returns
returns c = subst (λ ops. AreReleased c.args.number ops c.args.self.now c.loop-op.self) (take_all c.loop-op.op-index c.args.ops.now (omega arith)) c.loop-op.invariant
