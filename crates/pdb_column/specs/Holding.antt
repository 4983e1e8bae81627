-- Which cells hold a column's content, while no index grows.
use Rattle.std.specs.Prelude.{◌≡◌, ◌≤◌, ℕ, List, Some}
use Rattle.sdb_base.specs.Content.{Counted}
use Rattle.pdb_cells.specs.Content.{Content}
use Rattle.pdb_model.specs.Columns.{Column, HoldsContent, IsColumn, SpellsColumn}
use Rattle.pdb_column.specs.Maps.{ColumnMap}

-- the index doesn't grow and has the bits of the base
pub record IsFixed (c : Column) : Type 0 where
  pub not_growing : c.growing ≡ 0
  pub bits_are : c.bits ≡ c.base

-- a column's cells spell one of this base, which holds this content and whose index is fixed
pub record HoldsColumn (cells : Content) (column base : ℕ) (content : ColumnMap) : Type 0 where
  pub picture : Column
  pub spelled : SpellsColumn cells column picture
  pub is : IsColumn picture
  pub fixed : IsFixed picture
  pub base_is : picture.base ≡ base
  pub holds : HoldsContent picture content

-- the same of both columns, of which the second has each key once
pub record HoldsColumns (cells : Content) (bases : ℕ → ℕ) (contents : ℕ → ColumnMap) : Type 0 where
  pub each : (column : ℕ) → column ≤ 1 → HoldsColumn cells column (bases column) (contents column)
  pub single : (key : List ℕ) (h : Counted) → contents 1 key ≡ Some h → h.count ≡ 1
