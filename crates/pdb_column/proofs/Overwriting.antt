-- The whole value that an entry names is another one.
use Rattle.std.proofs.Common.{◌≡◌, ℕ, List, Some, refl}
use Rattle.pdb_model.specs.Chunks.{entry_slot, entry_tier}
use Rattle.pdb_model.specs.Columns.{Column, HasEntry, HoldsContent, IsColumn, Place, held_by}
use Rattle.pdb_model.specs.Tables.{Held, IsTable, holding}
use Rattle.pdb_column.specs.Holding.{IsFixed}
use Rattle.pdb_column.specs.Maps.{ColumnMap}
use Rattle.pdb_column.specs.inner.Steps.{overwritten, with_under}
use Rattle.pdb_column.proofs.Counting.{revalued}
use Rattle.pdb_column.proofs.Held.{holding_changes}
use Rattle.pdb_column.proofs.Stepped.{Keeps, entry_low}

pub overwriting : (c : Column) (content : ColumnMap) (p : Place) (entry : ℕ) (h : Held) (value : List ℕ) → IsColumn c
    → IsFixed c → HoldsContent c content → HasEntry c p entry → held_by c entry ≡ Some h
    → IsTable (holding (c.tables (entry_tier entry)) (entry_slot entry) h.key h.count value)
    → Keeps (overwritten c entry h.key h.count value) (with_under content h.key (Some (record { count = h.count; bytes = value })))
overwriting c content p entry h value is fixed is_held has holds table =
    revalued c content p entry h (holding (c.tables (entry_tier entry)) (entry_slot entry) h.key h.count value) (record { key = h.key; count = h.count; value = value })
    (record { is = is; fixed = fixed; holds = is_held }) has holds
    (holding_changes (c.tables (entry_tier entry)) (entry_slot entry) h.key h.count value table (is.settled (entry_tier entry) (entry_low c p entry is has))) refl
