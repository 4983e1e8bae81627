-- What a column holds under keys of 32 bytes, and what operations make of it. A plain key stands as its hash.
use Rattle.std.specs.Prelude.{◌≡◌, ◌==◌, ◌<◌, ℕ, List, [], ◌∷◌, ◌++◌, length, Option, Some, None, if◌then◌else◌}
use Rattle.std.specs.Str.{bytes_eq}
use Rattle.sdb_base.specs.Content.{Counted, node_after}
use Rattle.sdb_base.specs.declared.op.Op.{Op}
use Rattle.sdb_base.specs.declared.op.Op.TheVariants.{AddRef, DropRef, Put, Erase}
use Rattle.sdb_blake2.specs.Blake2b.{H}
use Rattle.pdb_model.specs.Chunks.{chunk_number}

abbrev pub ColumnMap : Type 0
ColumnMap = List ℕ → Option Counted

-- what column 1 holds under a hash after an operation
abbrev pub hashed_after : List ℕ → Option Counted → Op → Option Counted
hashed_after key now (AddRef k bytes) = now
hashed_after key now (DropRef k) = now
hashed_after key now (Put k bytes) = if bytes_eq (H k) key then Some (record { count = 1; bytes = bytes }) else now
hashed_after key now (Erase k) = if bytes_eq (H k) key then None else now

-- what a column holds after an operation, and after operations
abbrev pub column_after : ℕ → ColumnMap → Op → ColumnMap
column_after column content op = λ key. if column == 0 then node_after key (content key) op else hashed_after key (content key) op

abbrev pub column_from : ℕ → ColumnMap → List Op → ColumnMap
column_from column content [] = content
column_from column content (op ∷ ops) = column_from column (column_after column content op) ops

-- the operation puts a value under a key of this column that has none
abbrev pub Inserts : ℕ → ColumnMap → Op → List ℕ → Type 0
Inserts column content (AddRef k bytes) key = (column ≡ 0) × (k.0 ≡ key) × (content key ≡ None)
Inserts column content (DropRef k) key = ⊥
Inserts column content (Put k bytes) key = (column ≡ 1) × (H k ≡ key) × (content key ≡ None)
Inserts column content (Erase k) key = ⊥

-- 64 different keys are held that have their chunk in common with this one, in an index of so many bits
pub record IsCrowded (content : ColumnMap) (bits : ℕ) (key : List ℕ) : Type 0 where
  pub others : ℕ → List ℕ
  pub held : (i : ℕ) → i < 64 → (h : Counted) × (content (others i) ≡ Some h) × (length (others i) ≡ 32)
  pub chunk : (i : ℕ) → i < 64 → chunk_number bits (others i) ≡ chunk_number bits key
  pub differ : (i j : ℕ) → i < 64 → j < 64 → others i ≡ others j → i ≡ j

-- The operations come, in their order, to one that puts a value under a key for which this chunk of a column, of this base,
-- has no room.
pub record FillsChunk (base : ℕ) (content : ColumnMap) (ops : List Op) (column bits chunk : ℕ) : Type 0 where
  pub before : List Op
  pub op : Op
  pub left : List Op
  pub in_order : ops ≡ before ++ op ∷ left
  pub key : List ℕ
  pub inserts : Inserts column (column_from column content before) op key
  pub bits_are : bits ≡ base
  pub chunk_is : chunk ≡ chunk_number bits key
  pub crowded : IsCrowded (column_from column content before) bits key

-- the operation's plain key, if it has one, is this one or has another hash
abbrev pub HasHashAlone : List ℕ → Op → Type 0
HasHashAlone key (AddRef k bytes) = Unit {0}
HasHashAlone key (DropRef k) = Unit {0}
HasHashAlone key (Put k bytes) = H k ≡ H key → k ≡ key
HasHashAlone key (Erase k) = H k ≡ H key → k ≡ key
