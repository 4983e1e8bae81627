-- Items that agree in their first nibbles, and the nodes that are made of them.
use Rattle.std.specs.Prelude.{◌≡◌, ◌⊎◌, ◌≤◌, ◌<◌, ℕ, suc, ◌==◌, ◌&&◌, not, Bool, true, false, List, [], ◌∷◌, ◌++◌, Option, Some, None, if◌then◌else◌, length, drop, map, filter, IsTrue}
use Rattle.std.specs.List.{AllByRecursion, flat_map}
use Rattle.std.specs.Ordering.{nat_cmp}
use Rattle.std.specs.Cmp.Lexicographic.{slice_cmp}
use Rattle.std.specs.FinMap.{is_sorted}
use Rattle.sdb_base.specs.declared.node.NodeHash.{NodeHash}
use Rattle.sdb_blake2.specs.Blake2b.{H}
use Rattle.trie_model.specs.Nodes.{PathNode, if_any, is_stored, nodes_over}
use Rattle.trie_model.specs.Trie.{Suffix, below, child_value, every_nibble, levels_of, node_of_all, with_prefix}
use Rattle.trie_change.specs.Frontier.{IsHanging, IsItem, is_under, path_node_at, suffixes_for, item_path}
use Rattle.trie_change.specs.declared.build.Made.{Made}
use Rattle.trie_change.specs.declared.build.Made.TheVariants as made
use Rattle.trie_change.specs.declared.diff.Diff.{Diff}
use Rattle.trie_change.specs.Item.{Item}
use Rattle.trie_change.specs.Item as item
use Rattle.trie_change.specs.inner.Diffs.{Comparison, IsComparison, after_nodes, most_in_node}

-- ---- items in their order

-- One path comes before another. Only a key has others below it: a stub stands for all that goes on with its path.
abbrev pub PathBefore : Bool → List ℕ → List ℕ → Type 0
PathBefore is_key [] [] = ⊥
PathBefore is_key [] (y ∷ ys) = IsTrue is_key
PathBefore is_key (x ∷ xs) [] = ⊥
PathBefore is_key (x ∷ xs) (y ∷ ys) = (x < y) ⊎ ((x ≡ y) × PathBefore is_key xs ys)

abbrev pub ItemBefore : Item → Item → Type 0
ItemBefore (item.Entry e) other = PathBefore true e.path.items (item_path other)
ItemBefore (item.Stub s) other = PathBefore false s.path.items (item_path other)

-- each item comes before those after it
abbrev pub ItemsRise : List Item → Type 0
ItemsRise [] = Unit {0}
ItemsRise (i ∷ is) = AllByRecursion (ItemBefore i) is × ItemsRise is

-- an item's path goes on from another
abbrev pub GoesOnFrom : List ℕ → Item → Type 0
GoesOnFrom path i = item_path i ≡ path ++ drop (length path) (item_path i)

-- one more than the nibble with which a path goes on, and 0 where it ends
abbrev pub rank_of : List ℕ → ℕ
rank_of [] = 0
rank_of (n ∷ ns) = suc n

abbrev pub rank_after : ℕ → Item → ℕ
rank_after at i = rank_of (drop at (item_path i))

-- the hash of a stub at the path that all have, if it is one
abbrev pub hash_here : ℕ → Item → Option NodeHash
hash_here at (item.Entry e) = None
hash_here at (item.Stub s) = if length s.path.items == at then Some s.hash else None

abbrev pub value_after : ℕ → Item → Option (List ℕ)
value_after at (item.Entry e) = if length e.path.items == at then Some e.value else None
value_after at (item.Stub s) = None

-- a stub is first and at the path
abbrev pub IsHere : List ℕ → List Item → Type 0
IsHere path [] = ⊥
IsHere path (item.Entry e ∷ is) = ⊥
IsHere path (item.Stub s ∷ is) = s.path.items ≡ path

-- a stub's path goes on after another
abbrev pub IsPastPath : List ℕ → Item → Type 0
IsPastPath path (item.Entry e) = Unit {0}
IsPastPath path (item.Stub s) = (n : ℕ) × (ns : List ℕ) × (s.path.items ≡ path ++ n ∷ ns)

-- ---- groups of them

-- Items that stand for all suffixes that go on with a path, so many nibbles long, and which nodes are under a stub.
pub record ItemGroup (at : ℕ) (items : List Item) : Type 0 where
  pub suffixes : List Suffix
  pub path : List ℕ
  pub under : PathNode → Bool
  pub sorted : IsTrue (is_sorted (slice_cmp nat_cmp) suffixes)
  pub place : length path ≡ at
  pub goes_on : AllByRecursion (GoesOnFrom path) items
  pub stubs : AllByRecursion (IsItem suffixes) items
  pub hanging : AllByRecursion (IsHanging suffixes) items
  pub whole : flat_map (suffixes_for suffixes) items ≡ with_prefix path (below path suffixes)
  pub same : (n : PathNode) (rest : List ℕ) → n.path ≡ path ++ rest → under n ≡ is_under items n
  pub rise : (IsHere path items → ⊥) → ItemsRise items

-- items that part at a path, so that the node there has it at the end of its partial key
pub record ItemBranch (at : ℕ) (items : List Item) : Type 0 where
  pub group : ItemGroup at items
  pub rises : ItemsRise items
  pub past : AllByRecursion (IsPastPath group.path) items

-- ---- the nodes of them

-- the nodes at and below a path, where there are any
abbrev pub nodes_from : List ℕ → List Suffix → List PathNode
nodes_from path suffixes = nodes_over (levels_of suffixes) path suffixes

abbrev pub nodes_at : List Suffix → List ℕ → List PathNode
nodes_at suffixes path = if_any (nodes_from path) (below path suffixes)

-- the nodes below a path at which a node's partial key ends
abbrev pub nodes_below : List Suffix → List ℕ → List PathNode
nodes_below suffixes path = flat_map (λ n. nodes_at suffixes (path ++ n ∷ [])) every_nibble

abbrev pub values_below : List Suffix → List ℕ → List (Option (List ℕ))
values_below suffixes path = map (λ n. child_value node_of_all (below (path ++ n ∷ []) suffixes)) every_nibble

-- whether a node is made and stored
abbrev pub is_made : (PathNode → Bool) → PathNode → Bool
is_made under n = is_stored n && not (under n)

-- the node over all items, and those that are made for it and below it
abbrev pub node_of_group : {at : ℕ} {items : List Item} → ItemGroup at items → PathNode
node_of_group g = path_node_at g.suffixes g.path

abbrev pub made_of_group : {at : ℕ} {items : List Item} → ItemGroup at items → List PathNode
made_of_group g = filter (is_made g.under) (nodes_from g.path (below g.path g.suffixes))

-- A stub's node is stored and not made. Another is what was made, and those below it that are to be stored have come.
abbrev pub IsMade : Comparison → PathNode → List PathNode → Diff → Made → Type 0
IsMade c n all d (made.Kept hash) = (hash.0 ≡ H n.bytes) × (is_stored n ≡ true) × IsComparison d (after_nodes c all)
IsMade c n all d (made.New bytes) = (bytes ≡ n.bytes) × (rest : List PathNode) × (all ≡ (if is_stored n then n ∷ rest else rest))
    × IsComparison d (after_nodes c rest)

-- a node that can be stored
abbrev pub FitsNode : Made → Type 0
FitsNode (made.Kept hash) = Unit {0}
FitsNode (made.New bytes) = length bytes ≤ most_in_node

-- a new node of these bytes
abbrev pub IsSpelled : List ℕ → Made → Type 0
IsSpelled bytes (made.Kept hash) = ⊥
IsSpelled bytes (made.New other) = other ≡ bytes

-- a Merkle value
abbrev pub IsShortValue : List ℕ → Type 0
IsShortValue value = length value ≤ 32
