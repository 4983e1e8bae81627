use Rattle.std.proofs.Common.{All, take}
use Rattle.pdb_overlay.specs.inner.Placing.{HasSlotFor, SamePlaces}
use Rattle.pdb_overlay.proofs.places.Places.make_slots.Given as goal

-- the operations so far have their room
abbrev pub invariant-loop-op : goal.invariant-loop-op
invariant-loop-op l = record {
  made : All (HasSlotFor l.self) (take l.op-index l.ops);
  same : SamePlaces l.fn.self l.self;
}
