-- The nodes of a state's trie by their paths, which of them are stored under their hashes, and what a change stores and
-- drops: whole lists, made from whole states.
use Rattle.std.specs.Prelude.{ℕ, zero, suc, ◌==◌, ◌&&◌, ◌||◌, nat_le, not, Bool, List, [], ◌∷◌, ◌++◌, length, filter}
use Rattle.std.specs.List.{flat_map, list_any}
use Rattle.std.specs.Str.{bytes_eq}
use Rattle.trie_model.specs.State.{State}
use Rattle.trie_model.specs.Node.{spelling}
use Rattle.trie_model.specs.Trie.{Suffix, below, common_prefix, levels_of, node_over, every_nibble, suffixes_of}

-- A node's path, the nibbles before its partial key, and its spelling.
pub record PathNode : Type 0 where
  pub path : List ℕ
  pub bytes : List ℕ

-- nodes over some suffixes, where there are any
abbrev pub if_any : (List Suffix → List PathNode) → List Suffix → List PathNode
if_any nodes [] = []
if_any nodes (s ∷ ss) = nodes (s ∷ ss)

-- All nodes of the trie over some suffixes where it hangs at a path, inline ones among them, by rising path: the node over
-- all of them, and those over the suffixes that go on with each nibble. The number bounds the depth.
unfoldable pub nodes_over : ℕ → List ℕ → List Suffix → List PathNode
nodes_over zero path suffixes = []
nodes_over (suc depth) path suffixes =
    let prefix = common_prefix suffixes in
    record { path = path; bytes = spelling (node_over (suc depth) suffixes) }
    ∷ flat_map (λ i. if_any (nodes_over depth (path ++ (prefix ++ i ∷ []))) (below (prefix ++ i ∷ []) suffixes)) every_nibble

-- whether a node is stored under its hash: the root is, and each other node of 32 bytes or more
abbrev pub is_stored : PathNode → Bool
is_stored n = (length n.path == 0) || nat_le 32 (length n.bytes)

-- all nodes of the trie over some suffixes, and those of them that are stored, by rising path
abbrev pub all_over : List Suffix → List PathNode
all_over suffixes = nodes_over (levels_of suffixes) [] suffixes

abbrev pub stored_over : List Suffix → List PathNode
stored_over suffixes = filter is_stored (all_over suffixes)

-- the same of a state's trie; the state without any key has the node of the empty trie
abbrev pub all_nodes : State → List PathNode
all_nodes m = all_over (suffixes_of m)

abbrev pub stored_nodes : State → List PathNode
stored_nodes m = stored_over (suffixes_of m)

-- whether a list has this node at this path
abbrev pub has_node : List PathNode → PathNode → Bool
has_node nodes n = list_any (λ (o : PathNode). bytes_eq o.path n.path && bytes_eq o.bytes n.bytes) nodes

-- whether a list has a node at this path
abbrev pub has_path : List PathNode → List ℕ → Bool
has_path nodes path = list_any (λ (o : PathNode). bytes_eq o.path path) nodes

-- the nodes of a list that another list has not at their path
abbrev pub nodes_without : List PathNode → List PathNode → List PathNode
nodes_without nodes others = filter (λ n. not (has_node others n)) nodes

-- what a change from one state to another stores: the nodes of the second that the first has not at that path
abbrev pub put_nodes : State → State → List PathNode
put_nodes m m2 = nodes_without (stored_nodes m2) (stored_nodes m)

-- and what it drops: those of the first that the second has not at that path
abbrev pub dropped_nodes : State → State → List PathNode
dropped_nodes m m2 = nodes_without (stored_nodes m) (stored_nodes m2)
