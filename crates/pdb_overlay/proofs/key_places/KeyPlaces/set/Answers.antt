use Rattle.std.proofs.Common.{Some, refl}
use Rattle.pdb_overlay.proofs.KeySlots.{held_after, slots_after}
use Rattle.pdb_overlay.proofs.key_places.KeyPlaces.set.Goals as goal

pub returns-in-Some-clause-holds : goal.returns-in-Some-clause-holds
returns-in-Some-clause-holds c =
    held_after c.args.self.now.slots (c.get_mut.follows.lender (Some c.args.place)) c.args.key.now (Some (Some c.args.place)) (λ o. Some c.args.place)
    ((c.get_mut.follows.holds (Some c.args.place)).3 c.requires) refl

pub returns-in-Some-clause-stay : goal.returns-in-Some-clause-stay
returns-in-Some-clause-stay c =
    slots_after c.args.self.now.slots (c.get_mut.follows.lender (Some c.args.place)) c.args.key.now (Some c.args.place)
    ((c.get_mut.follows.holds (Some c.args.place)).3 c.requires)
