-- Steps of a column's picture.
use Rattle.std.specs.Prelude.{◌==◌, ℕ, List, length, slice_set, Option, if◌then◌else◌}
use Rattle.std.specs.Str.{bytes_eq}
use Rattle.sdb_base.specs.Content.{Counted}
use Rattle.pdb_model.specs.Chunks.{chunk_number, entry_of, entry_slot, entry_tier}
use Rattle.pdb_model.specs.Columns.{Column, Place}
use Rattle.pdb_model.specs.Tables.{Table, holding, next_slot, placed, recounted, removed}
use Rattle.pdb_model.specs.Tiers.{tier_of}
use Rattle.pdb_column.specs.Maps.{ColumnMap}

-- the content with another value of one key
abbrev pub with_under : ColumnMap → List ℕ → Option Counted → ColumnMap
with_under content k now = λ key. if bytes_eq k key then now else content key

-- the column with another table of a tier, and with other entries of a chunk
abbrev pub with_table : Column → ℕ → Table → Column
with_table c tier t = record c { tables = λ u. if u == tier then t else c.tables u }

abbrev pub with_chunk : Column → ℕ → List ℕ → Column
with_chunk c n entries = record c { newest = λ m. if m == n then entries else c.newest m }

-- the slot that a value of so many bytes gets, the head's where it is one in parts
abbrev pub slot_for : Column → ℕ → ℕ
slot_for c len = next_slot (c.tables (tier_of len)).free (c.tables (tier_of len)).end

-- a value is placed, and its entry put at a place of its key's chunk
abbrev pub inserted : Column → List ℕ → ℕ → List ℕ → ℕ → Column
inserted c key count value place =
    let tier = tier_of (length value) in let n = chunk_number c.bits key in
    with_chunk (with_table c tier (placed (c.tables tier) key count value)) n
    (slice_set (c.newest n) place (entry_of c.base key tier (slot_for c (length value))))

-- the value that an entry at a place names is removed, and the entry cleared
abbrev pub erased : Column → Place → ℕ → Column
erased c p entry =
    with_chunk (with_table c (entry_tier entry) (removed (c.tables (entry_tier entry)) (entry_slot entry))) p.chunk
    (slice_set (c.newest p.chunk) p.place 0)

-- the value that an entry names gets another count
abbrev pub counted_as : Column → ℕ → ℕ → Column
counted_as c entry count = with_table c (entry_tier entry) (recounted (c.tables (entry_tier entry)) (entry_slot entry) count)

-- the whole value that an entry names is another one, of the same tier
abbrev pub overwritten : Column → ℕ → List ℕ → ℕ → List ℕ → Column
overwritten c entry key count value = with_table c (entry_tier entry) (holding (c.tables (entry_tier entry)) (entry_slot entry) key count value)
