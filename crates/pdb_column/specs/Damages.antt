-- Cells of a column that break the rules, and chunks without room, in any bytes whatever.
use Rattle.std.specs.Prelude.{◌≡◌, ◌≢◌, ◌⊎◌, ◌<◌, ◌^◌, ℕ, List, All, Any}
use Rattle.pdb_cells.specs.Content.{Content}
use Rattle.pdb_cells.specs.Sizes.{head_file}
use Rattle.pdb_model.specs.Breaks.{IsBrokenHead, IsBrokenSlot}
use Rattle.pdb_model.specs.Chunks.{IsChunk, IsIndexEntry, chunk_bytes}
use Rattle.pdb_model.specs.Files.{head_cell, index_file}
use Rattle.pdb_model.specs.Heads.{Head, IsHead, SpellsHead}

-- the cell is the column's head cell, which keeps the rules, but its index grows or has other bits than the base
pub record HasOtherIndex (cells : Content) (column file cell : ℕ) : Type 0 where
  pub is_file : file ≡ head_file
  pub is_cell : cell ≡ column
  pub head : Head
  pub spelled : SpellsHead (head_cell cells column) head
  pub keeps : IsHead head
  pub other : (head.bits ≢ head.base) ⊎ (head.growing ≢ 0)

-- the cell is a chunk of the column's index, with these entries, where the head cell keeps the rules
pub record HasChunk (cells : Content) (column : ℕ) (head : Head) (file cell : ℕ) (entries : List ℕ) : Type 0 where
  pub spelled : SpellsHead (head_cell cells column) head
  pub keeps : IsHead head
  pub is_file : file ≡ index_file column head.bits
  pub within : cell < 2 ^ head.bits
  pub is_chunk : IsChunk entries
  pub bytes : cells file cell ≡ chunk_bytes entries

-- the cell is such a chunk, and one of its entries breaks the rules
abbrev pub IsBrokenChunk : Content → ℕ → ℕ → ℕ → Type 0
IsBrokenChunk cells column file cell = (head : Head) × (entries : List ℕ) × HasChunk cells column head file cell entries
    × Any (λ e. IsIndexEntry (λ tier. (head.ends tier).end) e → ⊥) entries

-- a cell of a column that breaks the rules, where its index has to be fixed: the head cell, a chunk, or a slot
abbrev pub BreaksColumn : Content → ℕ → ℕ → ℕ → Type 0
BreaksColumn cells column file cell = IsBrokenHead cells column file cell ⊎ (HasOtherIndex cells column file cell
    ⊎ (IsBrokenChunk cells column file cell ⊎ ((tier : ℕ) × (tier < 16) × IsBrokenSlot cells column tier file cell)))

-- the chunk of a column's index, of so many bits, has no empty place
abbrev pub IsFullChunk : Content → ℕ → ℕ → ℕ → Type 0
IsFullChunk cells column bits chunk = (head : Head) × (entries : List ℕ) × (head.bits ≡ bits)
    × HasChunk cells column head (index_file column bits) chunk entries × All (λ e. e ≢ 0) entries
