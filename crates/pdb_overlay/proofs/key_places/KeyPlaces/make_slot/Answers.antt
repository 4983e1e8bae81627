use Rattle.std.proofs.Common.{None, sym, ◌∙◌}
use Rattle.pdb_overlay.proofs.KeySlots.{made_same, slots_after}
use Rattle.pdb_overlay.proofs.key_places.KeyPlaces.make_slot.Goals as goal

pub returns-in_ok-insert-clause-stay : goal.returns-in_ok-insert-clause-stay
returns-in_ok-insert-clause-stay c =
    slots_after c.args.self.now.slots c.insert.new.self c.in_ok-from_slice.field-0.items None c.in_ok-insert.ensures.updates

pub returns-in_ok-insert-clause-same : goal.returns-in_ok-insert-clause-same
returns-in_ok-insert-clause-same c =
    made_same c.args.self.now.slots c.insert.new.self c.in_ok-from_slice.field-0.items c.args.key.now c.in_ok-from_slice.ensures.items
    (sym c.contains_key.ensures ∙ c.if-not-contains_key.true) c.in_ok-insert.ensures.updates
