-- What a column in memory holds. A key may have a place that is empty, which counts as absent.
use Rattle.std.specs.Prelude.{Option, Some, None}
use Rattle.std.specs.Cmp.Lexicographic.{slice_cmp}
use Rattle.std.specs.Ordering.{nat_cmp}
use Rattle.std.specs.declared.cmp.Ordering.{Ordering}
use Rattle.sdb_base.specs.Content.{Counted}
use Rattle.sdb_mapkeeper.specs.declared.column.Stored.{Stored}
use Rattle.sdb_base.specs.declared.node.NodeHash.{NodeHash}

-- hashes in the order of their bytes
abbrev pub hash_cmp : NodeHash → NodeHash → Ordering
hash_cmp a b = slice_cmp nat_cmp a.0 b.0

-- what a place holds
abbrev pub held_in : Option Stored → Option Counted
held_in None = None
held_in (Some s) = Some (record { count = s.count; bytes = s.bytes })

-- what is held where there may be a place
abbrev pub held_at : Option (Option Stored) → Option Counted
held_at None = None
held_at (Some place) = held_in place
