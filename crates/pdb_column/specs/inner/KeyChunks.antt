-- A key's chunk as it is read, in any cells, and what its entries name.
use Rattle.std.specs.Prelude.{◌≡◌, ◌≢◌, ◌≤◌, ℕ, Bool, true, false, List, All, Some}
use Rattle.pdb_cells.specs.Content.{Content}
use Rattle.pdb_model.specs.Chunks.{CarriesKey, IsChunk, IsIndexEntry, chunk_bytes, chunk_number, entry_slot, entry_tier}
use Rattle.pdb_model.specs.Files.{head_cell, index_file}
use Rattle.pdb_model.specs.Heads.{Head, IsHead, IsHeadCell, SpellsHead}
use Rattle.pdb_model.specs.Tables.{Held, Table, held}
use Rattle.pdb_value.specs.Faults.{HasTable}

-- the head is one of a column whose index is fixed and has this base
pub record IsFixedHead (base : ℕ) (h : Head) : Type 0 where
  pub base_is : h.base ≡ base
  pub bits_are : h.bits ≡ base
  pub not_growing : h.growing ≡ 0

-- the column's index is fixed, and these are the entries of the key's chunk
pub record HasKeyChunk (cells : Content) (column : ℕ) (key : List ℕ) (base : ℕ) (entries : List ℕ) : Type 0 where
  pub head : Head
  pub spelled : SpellsHead (head_cell cells column) head
  pub keeps : IsHead head
  pub fixed : IsFixedHead base head
  pub is_chunk : IsChunk entries
  pub bytes : cells (index_file column base) (chunk_number base key) ≡ chunk_bytes entries

-- the entry keeps the rules beside this head cell
abbrev pub IsEntryOf : List ℕ → ℕ → Type 0
IsEntryOf cell entry = (h : Head) → SpellsHead cell h → IsHead h → IsIndexEntry (λ tier. (h.ends tier).end) entry

-- the entry breaks the rules beside this head cell
abbrev pub IsNoEntryOf : List ℕ → ℕ → Type 0
IsNoEntryOf cell entry = (h : Head) → SpellsHead cell h → IsHead h → IsIndexEntry (λ tier. (h.ends tier).end) entry → ⊥

-- each entry has a tier of the column
abbrev pub HaveTiers : List ℕ → Type 0
HaveTiers entries = All (λ e. entry_tier e ≤ 15) entries

-- the slot that an entry names holds this
pub record NamesHeld (cells : Content) (column entry : ℕ) (h : Held) : Type 0 where
  pub table : Table
  pub keeps : IsHeadCell (head_cell cells column)
  pub spelled : HasTable cells column (entry_tier entry) table
  pub holds : held (table.slot (entry_slot entry)) ≡ Some h

-- what a read of the value that an entry names says of it
abbrev pub IsReadAt : ℕ → ℕ → Held → List ℕ → List ℕ → Bool → Type 0
IsReadAt base entry h key after true = (h.key ≡ key) × (after ≡ h.value)
IsReadAt base entry h key after false = CarriesKey base key entry → h.key ≢ key
