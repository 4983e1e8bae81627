-- What the steps of a backlog make of the place of a cell.
use Rattle.std.specs.Prelude.{◌≡◌, ◌⊎◌, ℕ, List, Option, Some, None, slice_get}
use Rattle.pdb_cells.specs.declared.CellName.{CellName}
use Rattle.pdb_cells.specs.declared.Put.{Put}
use Rattle.pdb_redo.specs.declared.waiting.Place.{Place}

-- there is a place, and it is in the record of this number
pub record IsInRecord (place : Option Place) (number : ℕ) : Type 0 where
  pub at : Place
  pub there : place ≡ Some at
  pub here : at.number ≡ number

-- none of these puts is of the cell
abbrev pub NonePuts : List Put → CellName → Type 0
NonePuts puts name = (i : ℕ) (p : Put) → slice_get puts i ≡ Some p → p.name ≡ name → ⊥

-- one of the puts of a record of this number is of the cell, and this is its place
pub record IsPutAt (puts : List Put) (number : ℕ) (name : CellName) (place : Option Place) : Type 0 where
  pub at : ℕ
  pub put : Put
  pub there : slice_get puts at ≡ Some put
  pub name_is : put.name ≡ name
  pub place_is : place ≡ Some (record { number = number; at = at })

-- the place is that of a put of this record, or stays where none of its puts is of the cell
abbrev pub IsSetIn : List Put → ℕ → CellName → Option Place → Option Place → Type 0
IsSetIn puts number name old new = IsPutAt puts number name new ⊎ (NonePuts puts name × (new ≡ old))

-- the place stays, or there is none now where it was in the record of this number
abbrev pub IsDroppedFrom : ℕ → Option Place → Option Place → Type 0
IsDroppedFrom number old new = (new ≡ old) ⊎ ((new ≡ None) × IsInRecord old number)
