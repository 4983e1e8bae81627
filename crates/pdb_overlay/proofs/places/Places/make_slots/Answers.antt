use Rattle.std.proofs.Common.{arith, subst, All}
use Rattle.std.proofs.lemmas.List.{take_all}
use Rattle.pdb_overlay.specs.inner.Placing.{HasSlotFor}
use Rattle.pdb_overlay.proofs.Stepping.{room_more, same_on}
use Rattle.pdb_overlay.proofs.places.Places.make_slots.Goals as goal

pub returns-in_err-make_slot-clause-same : goal.returns-in_err-make_slot-clause-same
returns-in_err-make_slot-clause-same c =
    same_on c.args.self.now c.loop-op.self c.make_slot.new.self c.loop-op.invariant.same c.in_err-make_slot.ensures.same

pub loop-op-preserved : goal.loop-op-preserved
loop-op-preserved c = record {
  made = room_more c.loop-op.self c.make_slot.new.self c.args.ops.now c.loop-op.op-index c.op-item.result (omega arith)
      c.in_ok-make_slot.ensures.stay c.loop-op.invariant.made
      (subst (HasSlotFor c.make_slot.new.self) c.op-item.is c.in_ok-make_slot.ensures.made);
  same = same_on c.args.self.now c.loop-op.self c.make_slot.new.self c.loop-op.invariant.same c.in_ok-make_slot.ensures.same;
}

pub returns-clause-made : goal.returns-clause-made
returns-clause-made c =
    subst (All (HasSlotFor c.loop-op.self)) (take_all c.loop-op.op-index c.args.ops.now (omega arith)) c.loop-op.invariant.made
