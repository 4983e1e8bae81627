use Rattle.std.proofs.Common.{sym}
use Rattle.pdb_redo.proofs.BacklogSteps.{dropped_by}
use Rattle.pdb_redo.proofs.places.drop_place.Goals as goal

pub returns-then-place-number-clause-drops : goal.returns-then-place-number-clause-drops
returns-then-place-number-clause-drops c =
    dropped_by c.args.places.now c.remove.new.self c.args.name.now c.args.number c.in-Some.place.now (sym c.in-Some.ensures.value) c.if-place-number.true c.remove.ensures.updates
