-- What taking many slots of the tier of values in parts does with a column's cells.
use Rattle.std.specs.Prelude.{◌≡◌, ◌+◌, ◌*◌, ◌<◌, ◌≤◌, ℕ, List, Some, slice_get, slice_index, take, drop}
use Rattle.pdb_cells.specs.Content.{Content}
use Rattle.pdb_model.specs.Files.{OnlyTable, head_cell, table_cells}
use Rattle.pdb_model.specs.Heads.{IsHeadCell}
use Rattle.pdb_model.specs.Tables.{Table, room_of, slots_taken, taken_many}
use Rattle.pdb_model.specs.Tiers.{in_part, parts_tier}
use Rattle.pdb_model.specs.Slots.{IsPart}
use Rattle.pdb_value.specs.Faults.{HasTable}

pub record AreTaken (column count : ℕ) (before after : Content) (slots : List ℕ) : Type 0 where
  pub only : OnlyTable column parts_tier before after
  pub head : 1 ≤ count → IsHeadCell (head_cell after column)
  pub kept : IsHeadCell (head_cell before column) → IsHeadCell (head_cell after column)
  pub table : (t : Table) → HasTable before column parts_tier t → HasTable after column parts_tier (taken_many count t)
  pub listed : (t : Table) → HasTable before column parts_tier t → slots ≡ slots_taken count t
  pub room : (t : Table) → HasTable before column parts_tier t → room_of (taken_many count t) + count ≡ room_of t

-- no two of the first so many of these slots are one
abbrev pub SlotsDiffer : List ℕ → Type 0
SlotsDiffer slots = (j k s : ℕ) → slice_get slots j ≡ Some s → slice_get slots k ≡ Some s → j ≡ k

-- further parts with these bytes were put in the first so many of these slots, and nothing else
pub record AreWritten (column : ℕ) (slots bytes : List ℕ) (count : ℕ) (before after : Content) : Type 0 where
  pub only : OnlyTable column parts_tier before after
  pub head : head_cell after column ≡ head_cell before column
  pub others : (i : ℕ) → ((j : ℕ) → slice_get slots j ≡ Some i → ⊥) → table_cells after column parts_tier i ≡ table_cells before column parts_tier i
  pub parts : SlotsDiffer slots → (j s : ℕ) → j < count → slice_get slots j ≡ Some s
      → IsPart (table_cells after column parts_tier s) (slice_index slots (j + 1)) (take in_part (drop (in_part * j) bytes))
