-- What a step does with a column's cells: a slot of a tier is taken, or freed.
use Rattle.std.specs.Prelude.{◌≡◌, ◌≢◌, ℕ, ◌≤◌, Some}
use Rattle.pdb_cells.specs.Content.{Content}
use Rattle.pdb_model.specs.Breaks.{HasEnd}
use Rattle.pdb_model.specs.Files.{OnlyTable, head_cell, table_cells}
use Rattle.pdb_model.specs.Heads.{IsHeadCell}
use Rattle.pdb_model.specs.Tables.{Held, Loose, Table, freed, held, next_slot, recounted, taken}
use Rattle.pdb_value.specs.Faults.{HasTable}

pub record IsSlotTaken (column tier : ℕ) (before after : Content) (slot : ℕ) : Type 0 where
  pub only : OnlyTable column tier before after
  pub head : IsHeadCell (head_cell after column)
  pub from_one : 1 ≤ slot
  pub table : (t : Table) → HasTable before column tier t → (slot ≡ next_slot t.free t.end) × HasTable after column tier (taken t)

pub record IsFreed (column tier : ℕ) (before after : Content) (slot : ℕ) : Type 0 where
  pub only : OnlyTable column tier before after
  pub head : IsHeadCell (head_cell after column)
  pub ends : (end : ℕ) × HasEnd before column tier end × HasEnd after column tier end
  pub others : (i : ℕ) → i ≢ slot → table_cells after column tier i ≡ table_cells before column tier i
  pub table : (t : Table) → HasTable before column tier t → t.slot slot ≡ Loose → HasTable after column tier (freed t slot)

pub record IsRecounted (column tier slot count : ℕ) (before after : Content) : Type 0 where
  pub only : OnlyTable column tier before after
  pub head : head_cell after column ≡ head_cell before column
  pub table : (t : Table) (h : Held) → HasTable before column tier t → held (t.slot slot) ≡ Some h → HasTable after column tier (recounted t slot count)
