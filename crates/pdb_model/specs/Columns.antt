-- A column as a picture, in which no layout occurs: its tables, its newest index, and the index before that, which is in
-- use while the newest one grows. And which cells spell it.
use Rattle.std.specs.Prelude.{◌≡◌, ◌≢◌, ◌⊎◌, ◌<◌, ◌≤◌, ◌+◌, ◌-◌, ◌*◌, ◌^◌, ℕ, List, [], length, replicate, slice_get, All, Option, Some, None}
use Rattle.sdb_base.specs.Content.{Counted}
use Rattle.pdb_cells.specs.Content.{Content}
use Rattle.pdb_model.specs.Chunks.{CarriesKey, IsChunk, IsIndexEntry, chunk_bytes, chunk_number, entry_slot, entry_tier}
use Rattle.pdb_model.specs.Heads.{Head, IsHead, SpellsHead}
use Rattle.pdb_model.specs.Tables.{Held, IsSettled, IsTable, SpellsTable, Table, held}
use Rattle.pdb_model.specs.Files.{head_cell, index_file, table_cells}

-- `newest` and `older` give the 64 entries of each chunk
pub record Column : Type 0 where
  pub base : ℕ
  pub bits : ℕ
  pub growing : ℕ
  pub tables : ℕ → Table
  pub newest : ℕ → List ℕ
  pub older : ℕ → List ℕ

-- a place for an entry: the bits of its index, the number of its chunk, the place there
pub record Place : Type 0 where
  pub bits : ℕ
  pub chunk : ℕ
  pub place : ℕ

-- an entry, not the empty one, at a place of an index that is in use
pub record HasEntry (c : Column) (p : Place) (entry : ℕ) : Type 0 where
  pub not_empty : entry ≢ 0
  pub within : p.chunk < 2 ^ p.bits
  pub there : ((p.bits ≡ c.bits) × (slice_get (c.newest p.chunk) p.place ≡ Some entry))
      ⊎ ((c.growing ≡ 1) × (p.bits + 1 ≡ c.bits) × (slice_get (c.older p.chunk) p.place ≡ Some entry))

-- what the slot that an entry names holds
abbrev pub held_by : Column → ℕ → Option Held
held_by c entry = held ((c.tables (entry_tier entry)).slot (entry_slot entry))

-- the end of a tier
abbrev pub end_of : Column → ℕ → ℕ
end_of c tier = (c.tables tier).end

-- The consistency of a column.
pub record IsColumn (c : Column) : Type 0 where
  pub tables : (tier : ℕ) → tier < 16 → IsTable (c.tables tier)
  pub settled : (tier : ℕ) → tier < 16 → IsSettled (c.tables tier)
  -- an entry names a slot that holds a value, stands in the chunk of its key, and carries that key's bits
  pub named : (p : Place) (entry : ℕ) → HasEntry c p entry → IsIndexEntry (end_of c) entry
      × ((h : Held) × (held_by c entry ≡ Some h) × (chunk_number p.bits h.key ≡ p.chunk) × CarriesKey c.base h.key entry)
  -- no two entries name one slot
  pub once : (p q : Place) (e f : ℕ) → HasEntry c p e → HasEntry c q f
      → entry_tier e ≡ entry_tier f → entry_slot e ≡ entry_slot f → p ≡ q
  -- each value is named by an entry
  pub found : (tier slot : ℕ) (h : Held) → tier < 16 → held ((c.tables tier).slot slot) ≡ Some h
      → (p : Place) × (e : ℕ) × HasEntry c p e × (entry_tier e ≡ tier) × (entry_slot e ≡ slot)
  -- no key is there twice
  pub keys : (t i u j : ℕ) (g h : Held) → t < 16 → u < 16 → held ((c.tables t).slot i) ≡ Some g → held ((c.tables u).slot j) ≡ Some h
      → g.key ≡ h.key → (t ≡ u) × (i ≡ j)
  -- while the newest index grows, a chunk of the older one that holds an entry was not moved yet
  pub unmoved : (p q : Place) (e f : ℕ) → HasEntry c p e → HasEntry c q f → p.bits + 1 ≡ q.bits
      → (q.chunk ≡ 2 * p.chunk) ⊎ (q.chunk ≡ 2 * p.chunk + 1) → ⊥

-- what a column holds under a key of 32 bytes
abbrev pub IsUnder : Column → List ℕ → Counted → Type 0
IsUnder c key held_there = (tier : ℕ) × (slot : ℕ) × (tier < 16)
    × (held ((c.tables tier).slot slot) ≡ Some (record { key = key; count = held_there.count; value = held_there.bytes }))

-- The column holds this content, a map from keys of 32 bytes.
pub record HoldsContent (c : Column) (content : List ℕ → Option Counted) : Type 0 where
  pub there : (key : List ℕ) (h : Counted) → length key ≡ 32 → content key ≡ Some h → IsUnder c key h
  pub no_other : (key : List ℕ) (h : Counted) → IsUnder c key h → content key ≡ Some h

-- the cells of an index spell these entries in its chunks, and zeros in those that it hasn't
pub record SpellsIndex (cells : ℕ → List ℕ) (bits : ℕ) (entries : ℕ → List ℕ) : Type 0 where
  pub chunks : (n : ℕ) → n < 2 ^ bits → IsChunk (entries n) × (cells n ≡ chunk_bytes (entries n))
  pub unused : (n : ℕ) → 2 ^ bits ≤ n → cells n ≡ replicate 512 0

-- The cells spell this column. The other index file has the older index while the newest one grows, else zeros.
pub record SpellsColumn (cells : Content) (column : ℕ) (c : Column) : Type 0 where
  pub head : Head
  pub head_spelled : SpellsHead (head_cell cells column) head
  pub head_is : IsHead head
  pub base : c.base ≡ head.base
  pub bits : c.bits ≡ head.bits
  pub growing : c.growing ≡ head.growing
  pub tables : (tier : ℕ) → tier < 16 → SpellsTable tier (head_cell cells column) (table_cells cells column tier) (c.tables tier)
  pub newest : SpellsIndex (cells (index_file column c.bits)) c.bits c.newest
  pub older : c.growing ≡ 1 → SpellsIndex (cells (index_file column (c.bits - 1))) (c.bits - 1) c.older
  pub not_growing : c.growing ≡ 0 → (n : ℕ) → cells (index_file column (c.bits + 1)) n ≡ replicate 512 0
