use Rattle.std.proofs.Common.{Some, ap, sym, ◌∙◌}
use Rattle.pdb_overlay.proofs.KeySlots.{tidied}
use Rattle.pdb_overlay.proofs.key_places.KeyPlaces.tidy.Goals as goal

pub returns-in-Some-None : goal.returns-in-Some-None
returns-in-Some-None c =
    tidied c.args.self.now.slots c.remove.new.self c.args.key.now (sym c.in-Some-None.ensures.value ∙ ap Some c.in-Some-None.field-0-is) c.remove.ensures.updates
