use Rattle.std.proofs.Common.{Some, ap, sym, ◌∙◌}
use Rattle.pdb_overlay.proofs.KeySlots.{released}
use Rattle.pdb_overlay.proofs.key_places.KeyPlaces.release.Goals as goal

pub returns-then-place-number : goal.returns-then-place-number
returns-then-place-number c =
    released c.args.self.now.slots c.remove.new.self c.args.key.now c.args.number c.in-Some-Some.place
    (sym c.in-Some-Some.ensures.value ∙ ap Some c.in-Some-Some.field-0-is) c.if-place-number.true c.remove.ensures.updates
