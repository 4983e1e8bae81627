use Rattle.std.proofs.Common.{arith}
use Rattle.pdb_model.proofs.recovery_laws.an_earlier_place_asks_less.Goals as goal

pub returns : goal.returns
returns c rows f g fs less safe x image clear =
    let held = safe x image clear in
    (held.0, held.1, omega (arith, less, held.2), held.3, held.4)
