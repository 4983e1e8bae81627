-- What an operation needs, and what it has placed.
use Rattle.std.specs.Prelude.{◌≡◌, ℕ, List}
use Rattle.sdb_base.specs.declared.op.Op.{Op}
use Rattle.sdb_base.specs.declared.op.Op.TheVariants.{AddRef, DropRef, Erase, Put}
use Rattle.pdb_cells.specs.Content.{Content}
use Rattle.pdb_model.specs.Chunks.{chunk_number}
use Rattle.pdb_column.specs.Maps.{ColumnMap, Inserts, IsCrowded}
use Rattle.pdb_column.specs.Storing.{LacksSlots, Stores}
use Rattle.pdb_column.specs.inner.Changes.{IsPlaced}

-- the column of an operation's key
abbrev pub column_of : Op → ℕ
column_of (AddRef key bytes) = 0
column_of (DropRef key) = 0
column_of (Put key bytes) = 1
column_of (Erase key) = 1

-- the operation puts a value under a key for which this chunk of a column has no room
pub record Crowds (bases : ℕ → ℕ) (contents : ℕ → ColumnMap) (op : Op) (column bits chunk : ℕ) : Type 0 where
  pub key : List ℕ
  pub inserts : Inserts column (contents column) op key
  pub bits_are : bits ≡ bases column
  pub chunk_is : chunk ≡ chunk_number bits key
  pub crowded : IsCrowded (contents column) bits key

-- the operation's bytes are in the slots of their tier
abbrev pub HasItsSlots : Content → ℕ → Op → Type 0
HasItsSlots cells column op = (key bytes : List ℕ) × Stores column op key bytes × IsPlaced cells column key bytes

-- the operation stores bytes for which this tier of a column has too few slots
abbrev pub NeedsSlots : (ℕ → ℕ) → (ℕ → ColumnMap) → Op → ℕ → ℕ → Type 0
NeedsSlots bases contents op column tier = (key bytes : List ℕ) × Stores column op key bytes × LacksSlots (bases column) (contents column) key bytes column tier
