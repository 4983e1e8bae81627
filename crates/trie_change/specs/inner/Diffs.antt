-- What is put and dropped as the nodes of a changed trie come, from the highest path down, beside the old nodes that were fed.
use Rattle.std.specs.Prelude.{◌≡◌, ◌≤◌, ℕ, List, [], ◌∷◌, if◌then◌else◌, length, map, reverse, All}
use Rattle.std.specs.Ordering.{is_lt, nat_cmp}
use Rattle.std.specs.Cmp.Lexicographic.{slice_cmp}
use Rattle.std.specs.Str.{bytes_eq}
use Rattle.sdb_base.specs.declared.node.Node.{Node}
use Rattle.sdb_blake2.specs.Blake2b.{H}
use Rattle.trie_model.specs.Nodes.{PathNode}
use Rattle.trie_change.specs.Deltas.{hash_of_node, hashed}
use Rattle.trie_change.specs.inner.Settled.{fed_nodes}
use Rattle.trie_change.specs.declared.diff.Diff.{Diff}
use Rattle.trie_change.specs.declared.frontier.Fed.{Fed}

-- The old nodes that are still to be compared, from the highest path down, and what is put and dropped so far, by rising path.
pub record Comparison : Type 0 where
  pub left : List PathNode
  pub puts : List PathNode
  pub drops : List PathNode

-- before any node has come
abbrev pub all_left : List PathNode → Comparison
all_left old = record { left = reverse old; puts = []; drops = [] }

-- old nodes above a path have no new node, and are dropped
abbrev pub passed_by : List ℕ → List PathNode → List PathNode → List PathNode → Comparison
passed_by path [] puts drops = record { left = []; puts = puts; drops = drops }
passed_by path (o ∷ os) puts drops =
    if is_lt (slice_cmp nat_cmp path o.path) then passed_by path os puts (o ∷ drops)
    else record { left = o ∷ os; puts = puts; drops = drops }

-- A new node is put, and the old one at its path is dropped; an equal one stays, and nothing is put.
abbrev pub met : PathNode → List PathNode → List PathNode → List PathNode → Comparison
met n [] puts drops = record { left = []; puts = n ∷ puts; drops = drops }
met n (o ∷ os) puts drops =
    if bytes_eq o.path n.path then
    (if bytes_eq o.bytes n.bytes then record { left = os; puts = puts; drops = drops }
    else record { left = os; puts = n ∷ puts; drops = o ∷ drops })
    else record { left = o ∷ os; puts = n ∷ puts; drops = drops }

-- once one more node has come, of a path below those before
abbrev pub after_node : Comparison → PathNode → Comparison
after_node c n = let p = passed_by n.path c.left c.puts c.drops in met n p.left p.puts p.drops

-- once more nodes have come, the last of them first
abbrev pub after_nodes : Comparison → List PathNode → Comparison
after_nodes c [] = c
after_nodes c (n ∷ ns) = after_node (after_nodes c ns) n

-- all that is left is dropped
abbrev pub all_dropped : List PathNode → List PathNode → List PathNode
all_dropped [] drops = drops
all_dropped (o ∷ os) drops = all_dropped os (o ∷ drops)

-- a fed node has the hash of its bytes
abbrev pub HasItsHash : Fed → Type 0
HasItsHash f = f.hash.0 ≡ H f.bytes

-- at most so many bytes in a node
abbrev pub most_in_node : ℕ
most_in_node = 4200000

abbrev pub AreShort : List Node → Type 0
AreShort nodes = All (λ (n : Node). length n.bytes ≤ most_in_node) nodes

-- what a comparison has come to
pub record IsComparison (d : Diff) (c : Comparison) : Type 0 where
  pub left : c.left ≡ reverse (fed_nodes d.fed.items)
  pub hashes : All HasItsHash d.fed.items
  pub puts : d.puts.items ≡ reverse (map hashed c.puts)
  pub drops : d.drops.items ≡ reverse (map hash_of_node c.drops)
