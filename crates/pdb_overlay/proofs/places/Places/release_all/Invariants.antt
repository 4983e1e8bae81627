use Rattle.std.proofs.Common.{take}
use Rattle.pdb_overlay.specs.inner.Placing.{AreReleased}
use Rattle.pdb_overlay.proofs.places.Places.release_all.Given as goal

-- the places of the operations so far are taken away
abbrev pub invariant-loop-op : goal.invariant-loop-op
invariant-loop-op l = AreReleased l.number (take l.op-index l.ops) l.fn.self l.self
