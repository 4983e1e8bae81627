-- The nodes of states among the commits of a keeper, and what its faults come to.
use Rattle.std.specs.Prelude.{◌≡◌, ◌⊎◌, ℕ, Bool, false, List, All, Any, Contains, Some, Result, Ok, Err}
use Rattle.std.specs.FinMap.{entries}
use Rattle.sdb_base.specs.Content.{Counted, node_under}
use Rattle.sdb_base.specs.Keeping.{AddsNode, Commits, is_disk, operations}
use Rattle.sdb_base.specs.declared.numbers.KeepFault.{KeepFault}
use Rattle.sdb_base.specs.declared.numbers.KeepFault.TheVariants as keeper
use Rattle.sdb_base.specs.declared.numbers.KeeperCall.{KeeperCall}
use Rattle.sdb_base.specs.declared.numbers.KeeperCall.TheVariants as calls
use Rattle.sdb_blake2.specs.Blake2b.{H}
use Rattle.sdb_model.specs.State.{State}
use Rattle.trie_model.specs.Nodes.{PathNode, stored_nodes}
use Rattle.trie_model.specs.Trie.{trie_root}
use Rattle.trie_root.specs.Suffixes.{IsEntry}
use Rattle.trie_read.specs.declared.TrieFault.{TrieFault}
use Rattle.trie_read.specs.declared.TrieFault.TheVariants as trie
use Rattle.sdb_serve.specs.declared.nodes.NodeFault.{NodeFault}
use Rattle.sdb_serve.specs.declared.nodes.NodeFault.TheVariants.{OutOfMemory, BadNode, Keep}

-- ---- faults

-- what comes of a job's fault
abbrev pub node_fault_of : TrieFault → NodeFault
node_fault_of (trie.BadNode hash) = BadNode hash
node_fault_of trie.OutOfMemory = OutOfMemory

-- what comes of a keeper's fault: want of memory is that, and any other is carried
abbrev pub fault_of_keeper : KeepFault → NodeFault
fault_of_keeper keeper.OutOfMemory = OutOfMemory
fault_of_keeper keeper.Disk = Keep keeper.Disk
fault_of_keeper (keeper.Stopped call) = Keep (keeper.Stopped call)
fault_of_keeper (keeper.ValueTooLong len) = Keep (keeper.ValueTooLong len)
fault_of_keeper (keeper.IndexFull column bits chunk) = Keep (keeper.IndexFull column bits chunk)
fault_of_keeper (keeper.TierFull column tier) = Keep (keeper.TierFull column tier)
fault_of_keeper (keeper.Damaged file cell) = Keep (keeper.Damaged file cell)
fault_of_keeper (keeper.NumbersEnd which) = Keep (keeper.NumbersEnd which)

-- whether a fault is that of the keeper's disk
abbrev pub is_of_disk : NodeFault → Bool
is_of_disk OutOfMemory = false
is_of_disk (BadNode hash) = false
is_of_disk (Keep fault) = is_disk fault

-- whether the keeper's disk failed a call of a job
abbrev pub keeper_disk_failed : {A : Type 0} → Result A NodeFault → Bool
keeper_disk_failed (Ok a) = false
keeper_disk_failed (Err e) = is_of_disk e

-- A fault of the keeper comes only where its disk failed, or where it was due.
abbrev pub IsKeeperCause : (KeepFault → Type 0) → NodeFault → Type 0
IsKeeperCause due OutOfMemory = Unit {0}
IsKeeperCause due (BadNode hash) = Unit {0}
IsKeeperCause due (Keep fault) = (fault ≡ keeper.Disk) ⊎ due fault

-- every wanted node was there and hung where it was wanted
abbrev pub MeetsNoBadNode : NodeFault → Type 0
MeetsNoBadNode OutOfMemory = Unit {0}
MeetsNoBadNode (BadNode hash) = ⊥
MeetsNoBadNode (Keep fault) = Unit {0}

-- ---- nodes

-- all references to nodes that were added under this key carry the same bytes
abbrev pub AddsAlike : Commits → List ℕ → Type 0
AddsAlike commits key = (a b : List ℕ) → Any (AddsNode key a) (operations commits) → Any (AddsNode key b) (operations commits) → a ≡ b

-- a keeper confuses nothing where all references under a key carry the same bytes
abbrev pub ClearsAlike : (KeeperCall → Commits → List ℕ → Type 0) → Type 0
ClearsAlike clear = (commits : Commits) (key : List ℕ) → AddsAlike commits key → clear calls.Node commits key

-- after the commits the bytes are under their hash
abbrev pub IsKept : Commits → List ℕ → Type 0
IsKept commits bytes = (c : Counted) × (node_under (operations commits) (H bytes) ≡ Some c) × (c.bytes ≡ bytes)

-- each stored node of the state is
abbrev pub HasNodes : Commits → State → Type 0
HasNodes commits m = (n : PathNode) → Contains (stored_nodes m) n → IsKept commits n.bytes

-- the state of this root, each of whose stored nodes is, where no two different nodes were added under one hash
pub record IsKeptState (commits : Commits) (root : List ℕ) (m : State) : Type 0 where
  pub entries_are : All IsEntry (entries m)
  pub root_is : root ≡ trie_root m
  pub nodes : HasNodes commits m
  pub alike : (key : List ℕ) → AddsAlike commits key
