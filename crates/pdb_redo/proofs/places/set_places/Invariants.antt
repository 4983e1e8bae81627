use Rattle.std.proofs.Common.{◌≤◌, ◌+◌, length}
use Rattle.std.specs.HashMap.{spare}
use Rattle.pdb_redo.proofs.BacklogSteps.{AreSetBelow}
use Rattle.pdb_redo.proofs.places.set_places.Given as goal

abbrev pub invariant-loop-at : goal.invariant-loop-at
invariant-loop-at l = record {
  set : AreSetBelow l.puts l.number l.at l.initial.places l.places;
  room : length l.puts ≤ spare l.places + l.at;
}
