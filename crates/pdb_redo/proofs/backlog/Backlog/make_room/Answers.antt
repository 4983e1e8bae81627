use Rattle.std.proofs.Common.{List, subst, sym}
use Rattle.pdb_redo.specs.Places.{AreInPlaces}
use Rattle.pdb_redo.specs.declared.waiting.Waiting.{Waiting}
use Rattle.pdb_redo.proofs.BacklogPlaces.{still_in_places}
use Rattle.pdb_redo.proofs.backlog.Backlog.make_room.Goals as goal

pub invariant_of-self-2 : goal.invariant_of-self-2
invariant_of-self-2 c =
    still_in_places c.reserve.new.self.items c.self.inside.queue.places c.reserve-2.new.self
    (subst (λ (ws : List Waiting). AreInPlaces ws c.self.inside.queue.places) (sym c.in_ok-reserve.ensures.items) c.self.invariant)
    c.reserve-2.ensures.entries.2
