-- What a step does with a column's cells, and where it finds a key's value.
use Rattle.std.specs.Prelude.{◌≡◌, ◌≢◌, ◌⊎◌, ◌<◌, ◌≤◌, ◌+◌, ◌*◌, ℕ, Bool, true, false, List, length, Option, Some, slice_get}
use Rattle.sdb_base.specs.Content.{Counted, without_reference}
use Rattle.pdb_cells.specs.Content.{Content}
use Rattle.pdb_cells.specs.Sizes.{head_file}
use Rattle.pdb_model.specs.Chunks.{CarriesKey, entry_slot, entry_tier}
use Rattle.pdb_model.specs.Columns.{Column}
use Rattle.pdb_model.specs.Tables.{Held, Table, held, placed, room_of, slots_of}
use Rattle.pdb_model.specs.Tiers.{tier_of}
use Rattle.pdb_value.specs.Faults.{HasTable}
use Rattle.pdb_column.specs.Holding.{HoldsColumn}
use Rattle.pdb_column.specs.Maps.{ColumnMap}
use Rattle.pdb_column.specs.inner.KeyChunks.{HasKeyChunk}
use Rattle.pdb_column.specs.inner.Steps.{with_under}

-- the cells of the other column are as they were
pub record OnlyColumn (column : ℕ) (before after : Content) : Type 0 where
  pub heads : (i : ℕ) → i ≢ column → after head_file i ≡ before head_file i
  pub files : (file i : ℕ) → file ≢ head_file → (file < 16 + 32 * column) ⊎ (33 + 32 * column < file) → after file i ≡ before file i

-- the entry at a place of a chunk names this slot
pub record IsHit (entries : List ℕ) (place tier slot : ℕ) : Type 0 where
  pub entry : ℕ
  pub there : slice_get entries place ≡ Some entry
  pub not_empty : entry ≢ 0
  pub tier_is : tier ≡ entry_tier entry
  pub slot_is : slot ≡ entry_slot entry

-- whether an entry's slot holds the key
abbrev pub IsOfKey : ℕ → ℕ → Held → List ℕ → Bool → Type 0
IsOfKey base entry h key true = h.key ≡ key
IsOfKey base entry h key false = CarriesKey base key entry → h.key ≢ key

-- a slot of the column holds what the content has under the key
pub record IsHeldAt (c : Column) (content : ColumnMap) (key : List ℕ) (tier slot : ℕ) : Type 0 where
  pub counted : Counted
  pub is : content key ≡ Some counted
  pub holds : held ((c.tables tier).slot slot) ≡ Some (record { key = key; count = counted.count; value = counted.bytes })

-- the content with one reference to a key fewer
abbrev pub dropped : ColumnMap → List ℕ → ColumnMap
dropped content key = with_under content key (without_reference (content key))

-- a key of a column lost a reference, and its chunk has these entries then
pub record IsDropped (column base : ℕ) (content : ColumnMap) (key entries : List ℕ) (place : ℕ) (before after : Content) : Type 0 where
  pub only : OnlyColumn column before after
  pub holds : HoldsColumn after column base (dropped content key)
  pub chunk : HasKeyChunk after column key base entries
  pub room : (h : Counted) → content key ≡ Some h → h.count ≡ 1 → slice_get entries place ≡ Some 0

-- a column holds another content, and the other column what it held; where a key is new its chunk had room
pub record IsChanged (column base : ℕ) (content : ColumnMap) (key : List ℕ) (now : Option Counted) (before after : Content) : Type 0 where
  pub only : OnlyColumn column before after
  pub holds : HoldsColumn after column base (with_under content key now)

-- A column's tier had slots for these bytes, and these have them now, under this key and with a count of 1.
pub record IsPlaced (cells : Content) (column : ℕ) (key bytes : List ℕ) : Type 0 where
  pub table : Table
  pub room : slots_of (length bytes) ≤ room_of table
  pub there : HasTable cells column (tier_of (length bytes)) (placed table key 1 bytes)
