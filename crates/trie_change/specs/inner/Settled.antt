-- Nodes that were fed and items that are known, from which the changed trie can be made.
use Rattle.std.specs.Prelude.{◌≡◌, ◌↔◌, true, not, List, map, filter, All, Contains, IsPermutation}
use Rattle.std.specs.FinMap.{entries}
use Rattle.std.specs.List.{AllByRecursion}
use Rattle.sdb_blake2.specs.Blake2b.{H}
use Rattle.trie_model.specs.Nodes.{PathNode, stored_nodes}
use Rattle.trie_model.specs.State.{State}
use Rattle.trie_model.specs.Trie.{suffixes_of}
use Rattle.trie_root.specs.Suffixes.{IsEntry}
use Rattle.trie_read.specs.Paths.{RiseByPath}
use Rattle.trie_change.specs.Frontier.{IsFrontier, IsHanging, is_under}
use Rattle.trie_change.specs.declared.frontier.Fed.{Fed}
use Rattle.trie_change.specs.Item.{Item}

-- the nodes that were fed, by their paths
abbrev pub fed_nodes : List Fed → List PathNode
fed_nodes fed = map (λ (f : Fed). record { path = f.path.items; bytes = f.bytes }) fed

-- Of the old nodes, which rise by path, those that are neither stubs nor below one were fed, each once; the others are just
-- the stored nodes of the new state at and below the stubs, which hang in its trie. The items stand for the new state.
pub record AreEnough (old : List PathNode) (m2 : State) (fed : List Fed) (items : List Item) : Type 0 where
  pub within : All IsEntry (entries m2)
  pub rises : RiseByPath old
  pub frontier : IsFrontier (suffixes_of m2) items
  pub hanging : AllByRecursion (IsHanging (suffixes_of m2)) items
  pub hashes : AllByRecursion (λ (f : Fed). f.hash.0 ≡ H f.bytes) fed
  pub fed_once : IsPermutation (filter (λ n. not (is_under items n)) old) (fed_nodes fed)
  pub same : (n : PathNode) → is_under items n ≡ true → Contains old n ↔ Contains (stored_nodes m2) n
