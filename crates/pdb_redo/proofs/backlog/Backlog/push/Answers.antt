use Rattle.std.proofs.Common.{◌≤◌, List, length, subst, sym}
use Rattle.std.specs.HashMap.{get, spare}
use Rattle.pdb_cells.specs.Puts.{same_cell}
use Rattle.pdb_cells.specs.declared.CellName.{CellName}
use Rattle.pdb_cells.specs.declared.Put.{Put}
use Rattle.pdb_redo.specs.Backlogs.{IsNextNumber, records_in}
use Rattle.pdb_redo.specs.Places.{AreInPlaces}
use Rattle.pdb_redo.specs.declared.queue.Queue.{Queue}
use Rattle.pdb_redo.specs.declared.waiting.Waiting.{Waiting}
use Rattle.pdb_redo.specs.inner.Placing.{IsSetIn}
use Rattle.pdb_redo.proofs.BacklogPlaces.{push_placed}
use Rattle.pdb_redo.proofs.backlog.Backlog.push.Goals as goal

pub set_places-requires : goal.set_places-requires
set_places-requires c =
    subst (λ (puts : List Put). length puts ≤ spare c.self.inside.queue.places) (sym c.as_slice.ensures)
    (subst (λ (q : Queue). length c.args.waiting.puts ≤ spare q.places) (sym c.self.view_is) c.requires.room.names)

pub invariant_of-self : goal.invariant_of-self
invariant_of-self c =
    subst (λ (ws : List Waiting). AreInPlaces ws c.set_places.new.places) (sym c.push_back_reserved.ensures.items)
    (push_placed c.self.inside.queue.records.items c.args.waiting c.self.inside.queue.places c.set_places.new.places c.self.invariant c.requires.first
    (subst (λ (q : Queue). IsNextNumber (records_in q) c.args.waiting.number) (sym c.self.view_is) c.requires.next)
    c.requires.once
    (subst (λ (puts : List Put). (name : CellName) → IsSetIn puts c.args.waiting.number name (get same_cell c.self.inside.queue.places name) (get same_cell c.set_places.new.places name))
    c.as_slice.ensures c.set_places.ensures))
