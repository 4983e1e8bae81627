-- Different bytes with one hash.
use Rattle.std.specs.Prelude.{◌≡◌, List, Contains}
use Rattle.sdb_blake2.specs.Blake2b.{H}
use Rattle.trie_model.specs.Nodes.{PathNode}

-- a node of each of two lists, of different bytes with one hash
pub record HaveCollision (nodes others : List PathNode) : Type 0 where
  pub one : PathNode
  pub other : PathNode
  pub first : Contains nodes one
  pub second : Contains others other
  pub differ : one.bytes ≡ other.bytes → ⊥
  pub hash : H one.bytes ≡ H other.bytes
