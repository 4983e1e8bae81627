-- What is known of a trie, in the order of keys: keys with their values, and stored nodes by their hashes alone.
use Rattle.std.specs.Prelude.{◌≡◌, ◌⊎◌, ◌≤◌, nat_eq, Bool, true, false, ℕ, List, [], ◌∷◌, length}
use Rattle.std.specs.List.{AllByRecursion, flat_map, list_any, starts_with}
use Rattle.sdb_blake2.specs.Blake2b.{H}
use Rattle.trie_model.specs.Limits.{most_in_value}
use Rattle.trie_model.specs.Node.{IsPartial, spelling}
use Rattle.trie_model.specs.Nodes.{PathNode, is_stored}
use Rattle.trie_model.specs.Trie.{Suffix, below, with_prefix}
use Rattle.trie_read.specs.Paths.{Hangs, node_at}
use Rattle.trie_change.specs.Item.{Item}
use Rattle.trie_change.specs.Item as item
use Rattle.trie_change.specs.declared.frontier.Stub.{Stub}

-- the node at a path of the trie over some suffixes
abbrev pub path_node_at : List Suffix → List ℕ → PathNode
path_node_at suffixes path = record { path = path; bytes = spelling (node_at suffixes path) }

-- where an item is: where its key ends, or where its node hangs
abbrev pub item_path : Item → List ℕ
item_path (item.Entry e) = e.path.items
item_path (item.Stub s) = s.path.items

-- the suffixes that an item stands for: a key and its value, or all that go on with a stub's path
abbrev pub suffixes_for : List Suffix → Item → List Suffix
suffixes_for suffixes (item.Entry e) = (e.path.items, e.value) ∷ []
suffixes_for suffixes (item.Stub s) = with_prefix s.path.items (below s.path.items suffixes)

-- a stub has the hash of the node at its path, which is stored; only the root can be over no suffixes
pub record IsStub (suffixes : List Suffix) (s : Stub) : Type 0 where
  pub is_hash : s.hash.0 ≡ H (path_node_at suffixes s.path.items).bytes
  pub stored : is_stored (path_node_at suffixes s.path.items) ≡ true
  pub some : (s.path.items ≡ []) ⊎ (below s.path.items suffixes ≡ [] → ⊥)

abbrev pub IsItem : List Suffix → Item → Type 0
IsItem suffixes (item.Entry e) = Unit {0}
IsItem suffixes (item.Stub s) = IsStub suffixes s

-- the items stand for all suffixes, in their order
pub record IsFrontier (suffixes : List Suffix) (items : List Item) : Type 0 where
  pub stubs : AllByRecursion (IsItem suffixes) items
  pub whole : flat_map (suffixes_for suffixes) items ≡ suffixes

-- a stub hangs where the trie over these suffixes has a node
abbrev pub IsHanging : List Suffix → Item → Type 0
IsHanging suffixes (item.Entry e) = Unit {0}
IsHanging suffixes (item.Stub s) = Hangs suffixes s.path.items

-- whether a path is a stub's or goes on with it
abbrev pub is_at_stub : List ℕ → Item → Bool
is_at_stub path (item.Entry e) = false
is_at_stub path (item.Stub s) = starts_with nat_eq path s.path.items

-- whether a node hangs at a stub or below it
abbrev pub is_under : List Item → PathNode → Bool
is_under items n = list_any (is_at_stub n.path) items

-- the limits, which items keep whatever nodes they come from
abbrev pub IsLimited : Item → Type 0
IsLimited (item.Entry e) = IsPartial e.path.items × (length e.value ≤ most_in_value)
IsLimited (item.Stub s) = IsPartial s.path.items
