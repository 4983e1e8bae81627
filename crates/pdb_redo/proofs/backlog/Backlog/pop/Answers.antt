use Rattle.std.proofs.Common.{◌≡◌, List, ℕ, Some, subst}
use Rattle.std.specs.Prelude.{slice_get}
use Rattle.std.specs.HashMap.{get}
use Rattle.pdb_cells.specs.Puts.{same_cell}
use Rattle.pdb_cells.specs.declared.Put.{Put}
use Rattle.pdb_redo.specs.Places.{AreInPlaces}
use Rattle.pdb_redo.specs.declared.waiting.Waiting.{Waiting}
use Rattle.pdb_redo.specs.inner.Placing.{IsInRecord}
use Rattle.pdb_redo.proofs.BacklogPlaces.{pop_placed}
use Rattle.pdb_redo.proofs.backlog.Backlog.pop.Goals as goal

pub invariant_of-self-2 : goal.invariant_of-self-2
invariant_of-self-2 c =
    pop_placed c.in-Some.record c.pop_front.new.self.items c.self.inside.queue.places c.drop_places.new.places
    (subst (λ (ws : List Waiting). AreInPlaces ws c.self.inside.queue.places) c.in-Some.ensures.items c.self.invariant)
    (subst (λ (puts : List Put). (i : ℕ) (p : Put) → slice_get puts i ≡ Some p → IsInRecord (get same_cell c.drop_places.new.places p.name) c.in-Some.record.number → ⊥)
    c.as_slice.ensures c.drop_places.ensures.gone)
    c.drop_places.ensures.drops
