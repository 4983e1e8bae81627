-- What a change makes of stored nodes.
use Rattle.std.specs.Prelude.{◌≡◌, ℕ, List, map}
use Rattle.sdb_base.specs.declared.node.Node.{Node}
use Rattle.sdb_base.specs.declared.node.NodeHash.{NodeHash}
use Rattle.sdb_blake2.specs.Blake2b.{H}
use Rattle.trie_model.specs.Nodes.{PathNode, dropped_nodes, put_nodes}
use Rattle.trie_model.specs.State.{State}
use Rattle.trie_model.specs.Trie.{trie_root}
use Rattle.trie_change.specs.declared.delta.Delta.{Delta}

-- a node's hash, and the node with its hash
abbrev pub hash_of_node : PathNode → NodeHash
hash_of_node n = record { 0 = H n.bytes }

abbrev pub hashed : PathNode → Node
hashed n = record { hash = hash_of_node n; bytes = n.bytes }

-- the root, and nodes that are put and dropped
pub record IsDeltaOf (d : Delta) (root : List ℕ) (puts drops : List PathNode) : Type 0 where
  pub root_is : d.root.0 ≡ root
  pub puts_are : d.puts ≡ map hashed puts
  pub drops_are : d.drops ≡ map hash_of_node drops

-- what leads from one state to another: the second one's root, the stored nodes that it has and the first one has not at their
-- paths, and those that the first one has and the second has not
abbrev pub IsDelta : Delta → State → State → Type 0
IsDelta d m m2 = IsDeltaOf d (trie_root m2) (put_nodes m m2) (dropped_nodes m m2)
