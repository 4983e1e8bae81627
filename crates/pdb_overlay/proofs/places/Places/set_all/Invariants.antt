use Rattle.std.proofs.Common.{take}
use Rattle.pdb_overlay.specs.inner.Placing.{AreSet, KeepsRoom}
use Rattle.pdb_overlay.proofs.places.Places.set_all.Given as goal

-- the places of the operations so far are set
abbrev pub invariant-loop-at : goal.invariant-loop-at
invariant-loop-at l = record {
  set : AreSet l.number (take l.at l.ops) l.fn.self l.self;
  stay : KeepsRoom l.fn.self l.self;
}
