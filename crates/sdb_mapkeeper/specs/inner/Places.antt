-- How a column changes at one key.
use Rattle.std.specs.Prelude.{◌≡◌, Option, IsSome, cond}
use Rattle.std.specs.BTreeMap.{BTreeMap, get, is_at}
use Rattle.std.specs.declared.cmp.Ordering.{Ordering}
use Rattle.sdb_base.specs.Content.{Counted}
use Rattle.sdb_mapkeeper.specs.Holding.{held_at}
use Rattle.sdb_mapkeeper.specs.declared.column.Stored.{Stored}

module _ {K : Type 0} (cmp : K → K → Ordering) where
  -- the second holds this under the key, and what the first holds elsewhere
  abbrev pub HoldsAt : BTreeMap K (Option Stored) → K → Option Counted → BTreeMap K (Option Stored) → Type 0
  HoldsAt m k w n = (q : K) → held_at (get cmp n q) ≡ cond (is_at (cmp k) q) w (held_at (get cmp m q))

  -- they hold the same
  abbrev pub HoldsSame : BTreeMap K (Option Stored) → BTreeMap K (Option Stored) → Type 0
  HoldsSame m n = (q : K) → held_at (get cmp n q) ≡ held_at (get cmp m q)

  -- each key with a place keeps one
  abbrev pub KeepsPlaces : BTreeMap K (Option Stored) → BTreeMap K (Option Stored) → Type 0
  KeepsPlaces m n = (q : K) → IsSome (get cmp m q) → IsSome (get cmp n q)
