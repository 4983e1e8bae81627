-- The premise on hashes of nodes.
use Rattle.std.specs.Prelude.{◌≡◌, ℕ, List, Contains, Some}
use Rattle.sdb_base.specs.declared.Block.{Block}
use Rattle.sdb_base.specs.declared.BlockId.{BlockId}
use Rattle.sdb_blake2.specs.Blake2b.{H}
use Rattle.sdb_model.specs.Blocks.{state_of}
use Rattle.sdb_model.specs.State.{State}
use Rattle.trie_model.specs.Nodes.{PathNode, stored_nodes}

-- the bytes of a stored node of some block's state
pub record IsStoredNode (blocks : List Block) (bytes : List ℕ) : Type 0 where
  pub id : BlockId
  pub state : State
  pub of_block : state_of blocks id ≡ Some state
  pub node : PathNode
  pub stored : Contains (stored_nodes state) node
  pub same : node.bytes ≡ bytes

-- no two different stored nodes of the blocks' states have one hash
abbrev pub Clear : List Block → Type 0
Clear blocks = (a b : List ℕ) → IsStoredNode blocks a → IsStoredNode blocks b → H a ≡ H b → a ≡ b
