-- Where a column's cells lie: its head cell, its two index files and the files of its sixteen tables.
use Rattle.std.specs.Prelude.{◌≡◌, ◌≢◌, ◌<◌, ◌+◌, ◌*◌, ◌%◌, ℕ, List, length, take, drop}
use Rattle.pdb_cells.specs.Content.{Content}
use Rattle.pdb_cells.specs.Sizes.{head_file}
use Rattle.pdb_model.specs.Heads.{ends_at}

-- the file of a column's index of so many bits: an index and the one before it lie in two files
abbrev pub index_file : ℕ → ℕ → ℕ
index_file column bits = 16 + 32 * column + bits % 2

-- the file of a column's table of a tier
abbrev pub table_file : ℕ → ℕ → ℕ
table_file column tier = 18 + 32 * column + tier

-- a column's head cell
abbrev pub head_cell : Content → ℕ → List ℕ
head_cell cells column = cells head_file column

-- the cells of a column's table
abbrev pub table_cells : Content → ℕ → ℕ → ℕ → List ℕ
table_cells cells column tier = cells (table_file column tier)

-- Only a tier's table changed: its cells and its ends in the head cell.
pub record OnlyTable (column tier : ℕ) (before after : Content) : Type 0 where
  pub others : (file i : ℕ) → file ≢ table_file column tier → file ≢ head_file → after file i ≡ before file i
  pub heads : (i : ℕ) → i ≢ column → after head_file i ≡ before head_file i
  pub front : take 4 (head_cell after column) ≡ take 4 (head_cell before column)
  pub ends : (u : ℕ) → u < 16 → u ≢ tier → ends_at u (head_cell after column) ≡ ends_at u (head_cell before column)
  pub rest : drop 132 (head_cell after column) ≡ drop 132 (head_cell before column)
  pub len : length (head_cell after column) ≡ length (head_cell before column)
