-- Where the nodes of a trie hang, said without going down the trie.
use Rattle.std.specs.Prelude.{◌≡◌, ◌⊎◌, ℕ, ◌<◌, ◌≤◌, IsTrue, All, List, [], ◌∷◌, ◌++◌, length, map, slice_index_or, Option, Some, None}
use Rattle.std.specs.Ordering.{nat_cmp}
use Rattle.std.specs.Cmp.Lexicographic.{slice_cmp}
use Rattle.std.specs.FinMap.{is_sorted}
use Rattle.trie_model.specs.Node.{Node, merkle_value, spelling}
use Rattle.trie_model.specs.Nodes.{PathNode}
use Rattle.trie_model.specs.Trie.{Suffix, below, common_prefix, node_of_all}

-- each node's path is above the one before
abbrev pub RiseByPath : List PathNode → Type 0
RiseByPath nodes = IsTrue (is_sorted (slice_cmp nat_cmp) (map (λ (n : PathNode). (n.path, n.bytes)) nodes))

-- suffixes of nibbles
abbrev pub AreNibbles : List Suffix → Type 0
AreNibbles suffixes = All (λ (s : Suffix). All (λ n. n < 16) s.0) suffixes

-- A node hangs at the empty path, and at each path that some suffixes go on with, where those that go on with the path up
-- to its last nibble share no nibble after that.
abbrev pub Hangs : List Suffix → List ℕ → Type 0
Hangs suffixes path = (path ≡ []) ⊎ ((before : List ℕ) × (nibble : ℕ) × (path ≡ before ++ nibble ∷ [])
    × (common_prefix (below before suffixes) ≡ []) × (below path suffixes ≡ [] → ⊥))

-- the node over the suffixes that go on with a path
abbrev pub node_at : List Suffix → List ℕ → Node
node_at suffixes path = node_of_all (below path suffixes)

-- a node that hangs in the trie over some suffixes: where it does, it is the node over those that go on with its path
pub record IsHung (suffixes : List Suffix) (n : PathNode) : Type 0 where
  pub path : Hangs suffixes n.path
  pub bytes : n.bytes ≡ spelling (node_at suffixes n.path)

-- one that is stored: the root, or one of 32 bytes or more
abbrev pub IsLong : PathNode → Type 0
IsLong n = (n.path ≡ []) ⊎ (32 ≤ length n.bytes)

-- the child of the node at a path by its nibble, and the path at which that child hangs: after the node's path, its partial
-- key and the nibble
abbrev pub child_at : List Suffix → List ℕ → ℕ → Option (List ℕ)
child_at suffixes path nibble = slice_index_or (node_at suffixes path).children nibble None

abbrev pub child_path : List Suffix → List ℕ → ℕ → List ℕ
child_path suffixes path nibble = path ++ ((node_at suffixes path).partial ++ nibble ∷ [])

-- a node above has a child that is the Merkle value of this one, at the nibbles of its path
pub record IsNamed (suffixes : List Suffix) (n : PathNode) : Type 0 where
  pub above : List ℕ
  pub nibble : ℕ
  pub small : nibble < 16
  pub hangs : Hangs suffixes above
  pub path : n.path ≡ child_path suffixes above nibble
  pub child : child_at suffixes above nibble ≡ Some (merkle_value n.bytes)
