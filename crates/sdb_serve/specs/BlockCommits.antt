-- The commits that come of blocks: the nodes that each one's changes put, under their hashes.
use Rattle.std.specs.Prelude.{List, [], ◌∷◌, ◌++◌, map, Option, Some, None}
use Rattle.sdb_base.specs.Keeping.{Commits}
use Rattle.sdb_base.specs.declared.Block.{Block}
use Rattle.sdb_base.specs.declared.node.Node.{Node}
use Rattle.sdb_base.specs.declared.op.Op.{Op}
use Rattle.sdb_base.specs.declared.op.Op.TheVariants.{AddRef}
use Rattle.sdb_model.specs.Blocks.{state_of}
use Rattle.sdb_model.specs.State.{State, apply, no_keys}
use Rattle.trie_change.specs.Deltas.{hashed}
use Rattle.trie_model.specs.Nodes.{PathNode, put_nodes, stored_nodes}

-- one reference more to each of some nodes
abbrev pub reference_to : Node → Op
reference_to n = AddRef n.hash n.bytes

abbrev pub references_to : List Node → List Op
references_to nodes = map reference_to nodes

-- one reference to each of some nodes, under their hashes
abbrev pub commit_of : List PathNode → List Op
commit_of nodes = references_to (map hashed nodes)

-- the nodes that a block's changes put beside those of its parent's state
abbrev pub nodes_put_on : Option State → Block → List PathNode
nodes_put_on None b = []
nodes_put_on (Some m) b = put_nodes m (apply m b.changes)

-- The commits of the blocks, oldest first: of genesis one with all nodes of its state, of each other block one with the nodes
-- that it puts.
unfoldable pub commits_of : List Block → Commits
commits_of [] = []
commits_of (b ∷ []) = commit_of (stored_nodes (apply no_keys b.changes)) ∷ []
commits_of (b ∷ (c ∷ older)) = commits_of (c ∷ older) ++ commit_of (nodes_put_on (state_of (c ∷ older) b.parent) b) ∷ []
