use Rattle.std.proofs.Common.{◌≡◌, ◌<◌, ℕ, Some}
use Rattle.std.specs.Prelude.{slice_get}
use Rattle.std.specs.HashMap.{get}
use Rattle.pdb_cells.specs.Puts.{same_cell}
use Rattle.pdb_cells.specs.declared.CellName.{CellName}
use Rattle.pdb_cells.specs.declared.Put.{Put}
use Rattle.pdb_redo.specs.inner.Placing.{IsDroppedFrom, IsInRecord}
use Rattle.pdb_redo.proofs.places.drop_places.Given as goal

abbrev pub invariant-loop-put : goal.invariant-loop-put
invariant-loop-put l = record {
  drops : (q : CellName) → IsDroppedFrom l.number (get same_cell l.initial.places q) (get same_cell l.places q);
  gone : (i : ℕ) (p : Put) → i < l.put-index → slice_get l.puts i ≡ Some p → IsInRecord (get same_cell l.places p.name) l.number → ⊥;
}
