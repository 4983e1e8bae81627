-- What columns hold after commits, and where the ways in which a database finds keys confuse nothing.
use Rattle.std.specs.Prelude.{◌≡◌, ℕ, List, All, Any, None}
use Rattle.sdb_base.specs.Keeping.{AddsNode, Commits, operations}
use Rattle.sdb_base.specs.declared.numbers.KeeperCall.{KeeperCall}
use Rattle.sdb_base.specs.declared.numbers.KeeperCall.TheVariants as calls
use Rattle.pdb_column.specs.Maps.{ColumnMap, HasHashAlone, column_from}

-- what each column holds after commits, under keys of 32 bytes: a plain key stands as its hash
abbrev pub contents_of : Commits → ℕ → ColumnMap
contents_of commits column = column_from column (λ key. None) (operations commits)

-- all references to the node of this key were added with the same bytes
abbrev pub NodesAgree : Commits → List ℕ → Type 0
NodesAgree commits key = (a b : List ℕ) → Any (AddsNode key a) (operations commits) → Any (AddsNode key b) (operations commits) → a ≡ b

-- no other plain key of the commits has this one's hash
abbrev pub HashesApart : Commits → List ℕ → Type 0
HashesApart commits key = All (HasHashAlone key) (operations commits)

-- A call for a key is answered rightly where this holds: of a node's key, and of a plain key.
abbrev pub IsClearCall : KeeperCall → Commits → List ℕ → Type 0
IsClearCall calls.Node commits key = NodesAgree commits key
IsClearCall calls.Meta commits key = HashesApart commits key
IsClearCall calls.Commit commits key = Unit {0}
IsClearCall calls.Log commits key = Unit {0}
IsClearCall calls.Flush commits key = Unit {0}
IsClearCall calls.Enact commits key = Unit {0}
IsClearCall calls.Clean commits key = Unit {0}
IsClearCall calls.Grow commits key = Unit {0}
