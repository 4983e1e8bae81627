-- Where a key's way down a node ends, by the trie.
use Rattle.std.specs.Prelude.{◌≡◌, T, true, ℕ, ◌≤◌, List, [], ◌∷◌, ◌++◌, filter}
use Rattle.std.specs.List.{AllByRecursion}
use Rattle.std.specs.Ordering.{nat_cmp}
use Rattle.std.specs.Cmp.Lexicographic.{slice_cmp}
use Rattle.std.specs.FinMap.{is_sorted}
use Rattle.trie_root.specs.Suffixes.{IsSuffix}
use Rattle.sdb_blake2.specs.Blake2b.{H}
use Rattle.trie_model.specs.Fetches.{on_the_way}
use Rattle.trie_model.specs.Node.{spelling}
use Rattle.trie_model.specs.Nodes.{PathNode, is_stored, nodes_over}
use Rattle.trie_model.specs.Trie.{Suffix, below, levels_of, value_here}
use Rattle.trie_read.specs.Paths.{node_at}
use Rattle.trie_read.specs.inner.Descent.{Outcome, Ended, Wants}

-- sorted suffixes within their limits
pub record Sound (ss : List Suffix) : Type 0 where
  pub sorted : T (is_sorted (slice_cmp nat_cmp) ss)
  pub within : AllByRecursion IsSuffix ss

abbrev pub head_at : List Suffix → List ℕ → PathNode
head_at ss p = record { path = p; bytes = spelling (node_at ss p) }

-- the nodes on the way of a key from a path on
abbrev pub way_from : ℕ → List Suffix → List ℕ → List ℕ → List PathNode
way_from d ss p ks = filter (on_the_way (p ++ ks)) (nodes_over d p (below p ss))

-- the stored nodes on a key's way from a path on are these
pub record AreOnTheWay (suffixes : List Suffix) (path left : List ℕ) (nodes : List PathNode) : Type 0 where
  pub depth : ℕ
  pub enough : levels_of (below path suffixes) ≤ depth
  pub all : nodes ≡ filter is_stored (filter (on_the_way (path ++ left)) (nodes_over depth path (below path suffixes)))

-- the key has the hash of the next stored node on its way, or there is none and it has the key's value
pub record WantsNext (suffixes : List Suffix) (key : List ℕ) (hash left : List ℕ) (nodes : List PathNode) : Type 0 where
  pub path : List ℕ
  pub whole : key ≡ path ++ left
  pub is_hash : hash ≡ H (spelling (node_at suffixes path))
  pub stored : is_stored (head_at suffixes path) ≡ true
  pub rest : List PathNode
  pub first : nodes ≡ record { path = path; bytes = spelling (node_at suffixes path) } ∷ rest
  pub on_the_way : AreOnTheWay suffixes path left nodes

abbrev pub IsFollowed : List Suffix → List ℕ → Outcome → List PathNode → Type 0
IsFollowed suffixes key (Ended value) nodes = (nodes ≡ []) × (value ≡ value_here (below key suffixes))
IsFollowed suffixes key (Wants hash left) nodes = WantsNext suffixes key hash left nodes
