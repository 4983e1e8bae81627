use Rattle.pdb_overlay.specs.inner.Placing.{SamePlaces}
use Rattle.pdb_overlay.proofs.places.Places.tidy_all.Given as goal

abbrev pub invariant-loop-op : goal.invariant-loop-op
invariant-loop-op l = SamePlaces l.fn.self l.self
