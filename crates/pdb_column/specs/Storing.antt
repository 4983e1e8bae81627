-- What an operation stores, and that its slots were taken.
use Rattle.std.specs.Prelude.{◌≡◌, ◌≢◌, ◌≤◌, ◌<◌, ◌++◌, ◌∷◌, ℕ, List, length}
use Rattle.sdb_base.specs.declared.op.Op.{Op}
use Rattle.sdb_base.specs.declared.op.Op.TheVariants.{AddRef, DropRef, Put, Erase}
use Rattle.sdb_blake2.specs.Blake2b.{H}
use Rattle.pdb_cells.specs.Content.{Content}
use Rattle.pdb_model.specs.Tables.{Table, placed, room_of, slots_of}
use Rattle.pdb_model.specs.Tiers.{tier_of}
use Rattle.pdb_value.specs.Faults.{HasTable}
use Rattle.pdb_column.specs.Holding.{HoldsColumn}
use Rattle.pdb_column.specs.Maps.{ColumnMap, FillsChunk, column_from}

-- the operation stores these bytes in this column under this key of 32 bytes
abbrev pub Stores : ℕ → Op → List ℕ → List ℕ → Type 0
Stores column (AddRef k b) key bytes = (column ≡ 0) × (k.0 ≡ key) × (b ≡ bytes)
Stores column (DropRef k) key bytes = ⊥
Stores column (Put k b) key bytes = (column ≡ 1) × (H k ≡ key) × (b ≡ bytes)
Stores column (Erase k) key bytes = ⊥

-- The operation for which this chunk has no room stores bytes for which their tier had slots, and these have them, with a
-- count of 1.
pub record HasPlaced (cells : Content) (base : ℕ) (content : ColumnMap) (ops : List Op) (column bits chunk : ℕ) : Type 0 where
  pub fills : FillsChunk base content ops column bits chunk
  pub bytes : List ℕ
  pub stores : Stores column fills.op fills.key bytes
  pub table : Table
  pub room : slots_of (length bytes) ≤ room_of table
  pub placed : HasTable cells column (tier_of (length bytes)) (placed table fills.key 1 bytes)

-- A tier of a column has fewer slots left than bytes need that are to be stored under a key, where the column's cells hold this content
-- but for what it has under that key.
pub record LacksSlots (base : ℕ) (content : ColumnMap) (key bytes : List ℕ) (column tier : ℕ) : Type 0 where
  pub cells : Content
  pub held : ColumnMap
  pub holds : HoldsColumn cells column base held
  pub others : (k : List ℕ) → k ≢ key → held k ≡ content k
  pub tier_is : tier ≡ tier_of (length bytes)
  pub table : Table
  pub spelled : HasTable cells column tier table
  pub room : room_of table < slots_of (length bytes)

-- The operations come, in their order, to one that stores bytes for which this tier of a column has too few slots.
pub record FillsTier (base : ℕ) (content : ColumnMap) (ops : List Op) (column tier : ℕ) : Type 0 where
  pub before : List Op
  pub op : Op
  pub left : List Op
  pub in_order : ops ≡ before ++ op ∷ left
  pub key : List ℕ
  pub bytes : List ℕ
  pub stores : Stores column op key bytes
  pub lacks : LacksSlots base (column_from column content before) key bytes column tier
