-- How operations change the columns in memory.
use Rattle.std.specs.Prelude.{◌≡◌, ℕ, List, Option, IsSome}
use Rattle.std.specs.BTreeMap.{get}
use Rattle.std.specs.Cmp.Lexicographic.{slice_cmp}
use Rattle.std.specs.Ordering.{nat_cmp}
use Rattle.sdb_base.specs.Content.{Counted, meta_from, node_from}
use Rattle.sdb_mapkeeper.specs.Holding.{hash_cmp, held_at}
use Rattle.sdb_mapkeeper.specs.declared.columns.Columns.{Columns}
use Rattle.sdb_base.specs.declared.op.Op.{Op}
use Rattle.sdb_base.specs.declared.op.Op.TheVariants.{AddRef, DropRef, Put, Erase}

abbrev pub node_in : Columns → List ℕ → Option Counted
node_in c key = held_at (get hash_cmp c.nodes.places (record { 0 = key }))

abbrev pub meta_in : Columns → List ℕ → Option Counted
meta_in c key = held_at (get (slice_cmp nat_cmp) c.metas.places key)

-- the second has what the operations make of the first
pub record AreApplied (a : Columns) (ops : List Op) (b : Columns) : Type 0 where
  pub nodes : (key : List ℕ) → node_in b key ≡ node_from key (node_in a key) ops
  pub metas : (key : List ℕ) → meta_in b key ≡ meta_from key (meta_in a key) ops

-- the second has what the first has
pub record AreSame (a : Columns) (b : Columns) : Type 0 where
  pub nodes : (key : List ℕ) → node_in b key ≡ node_in a key
  pub metas : (key : List ℕ) → meta_in b key ≡ meta_in a key

-- the operation can be applied without taking memory
abbrev pub HasPlace : Columns → Op → Type 0
HasPlace c (AddRef key bytes) = IsSome (get hash_cmp c.nodes.places key)
HasPlace c (DropRef key) = Unit {0}
HasPlace c (Put key bytes) = IsSome (get (slice_cmp nat_cmp) c.metas.places key)
HasPlace c (Erase key) = Unit {0}

-- operations that could be applied so still can
abbrev pub PlacesStay : Columns → Columns → Type 0
PlacesStay a b = (op : Op) → HasPlace a op → HasPlace b op
