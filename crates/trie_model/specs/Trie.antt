-- The trie of a state (Polkadot Host specification, general trie structure), built from the whole map at once.
use Rattle.std.specs.Prelude.{ℕ, zero, suc, ◌+◌, ◌==◌, max, List, [], ◌∷◌, ◌++◌, length, map, if◌then◌else◌, Option, Some, None}
use Rattle.std.specs.Option.{option_map}
use Rattle.std.specs.List.{filter_map, flat_map}
use Rattle.std.specs.FinMap.{entries}
use Rattle.sdb_blake2.specs.Blake2b.{H}
use Rattle.trie_model.specs.State.{State}
use Rattle.sdb_base.specs.Nibbles.{nibbles_of}
use Rattle.trie_model.specs.Node.{Node, merkle_value, spelling}

-- what is left of a key in nibbles, and its value
abbrev pub Suffix : Type 0
Suffix = List ℕ × List ℕ

-- the longest common prefix of two
abbrev pub common : List ℕ → List ℕ → List ℕ
common [] ks = []
common (n ∷ ns) [] = []
common (n ∷ ns) (k ∷ ks) = if n == k then n ∷ common ns ks else []

-- the longest common prefix of all
abbrev pub common_prefix : List Suffix → List ℕ
common_prefix [] = []
common_prefix (s ∷ []) = s.0
common_prefix (s ∷ (t ∷ ss)) = common s.0 (common_prefix (t ∷ ss))

-- what follows a prefix
abbrev pub after_prefix : List ℕ → List ℕ → Option (List ℕ)
after_prefix [] ns = Some ns
after_prefix (p ∷ ps) [] = None
after_prefix (p ∷ ps) (n ∷ ns) = if p == n then after_prefix ps ns else None

-- the suffixes that go on with a prefix, without it
abbrev pub below : List ℕ → List Suffix → List Suffix
below prefix suffixes = filter_map (λ (s : Suffix). option_map (λ rest. (rest, s.1)) (after_prefix prefix s.0)) suffixes

-- the value of the suffix of no nibbles
abbrev pub value_here : List Suffix → Option (List ℕ)
value_here [] = None
value_here (s ∷ ss) = if length s.0 == 0 then Some s.1 else value_here ss

abbrev pub every_nibble : List ℕ
every_nibble = 0 ∷ 1 ∷ 2 ∷ 3 ∷ 4 ∷ 5 ∷ 6 ∷ 7 ∷ 8 ∷ 9 ∷ 10 ∷ 11 ∷ 12 ∷ 13 ∷ 14 ∷ 15 ∷ []

-- the Merkle value of the node over some suffixes, if there are any
abbrev pub child_value : (List Suffix → Node) → List Suffix → Option (List ℕ)
child_value node [] = None
child_value node (s ∷ ss) = Some (merkle_value (spelling (node (s ∷ ss))))

-- suffixes with a prefix put before them
abbrev pub with_prefix : List ℕ → List Suffix → List Suffix
with_prefix prefix suffixes = map (λ (s : Suffix). (prefix ++ s.0, s.1)) suffixes

-- a node's own value, as the suffix of no nibbles
abbrev pub own_value : Option (List ℕ) → List Suffix
own_value None = []
own_value (Some value) = ([], value) ∷ []

-- The node over some suffixes: its partial key is their longest common prefix, its value that of the suffix that is
-- the prefix, and its child i the node over the suffixes that go on with the prefix and i. The number bounds the
-- depth.
unfoldable pub node_over : ℕ → List Suffix → Node
node_over zero suffixes = record { partial = []; value = None; children = map (λ _. None) every_nibble }
node_over (suc depth) suffixes =
    let prefix = common_prefix suffixes in
    record {
      partial = prefix;
      value = value_here (below prefix suffixes);
      children = map (λ i. child_value (node_over depth) (below (prefix ++ i ∷ []) suffixes)) every_nibble;
    }

-- what is read off the node over some suffixes and off the nodes below it: the nibbles on the way to each value, and the
-- value
unfoldable pub read_off : ℕ → List Suffix → List Suffix
read_off zero suffixes = []
read_off (suc depth) suffixes =
    let n = node_over (suc depth) suffixes in
    with_prefix n.partial (own_value n.value
    ++ flat_map (λ i. with_prefix (i ∷ []) (read_off depth (below (n.partial ++ i ∷ []) suffixes))) every_nibble)

-- as many levels as the longest suffix has nibbles, and one: each level takes a nibble away
abbrev pub levels_of : List Suffix → ℕ
levels_of [] = 1
levels_of (s ∷ ss) = max (length s.0 + 1) (levels_of ss)

-- the keys of a state in nibbles, with their values
abbrev pub suffixes_of : State → List Suffix
suffixes_of m = map (λ e. (nibbles_of e.0, e.1)) (entries m)

-- the node over some suffixes, on as many levels as it takes
abbrev pub node_of_all : List Suffix → Node
node_of_all suffixes = node_over (levels_of suffixes) suffixes

-- the root node of a state's trie
unfoldable pub root_node : State → Node
root_node m = node_of_all (suffixes_of m)

-- the root of a state: the hash of its root node's spelling, however short that is
unfoldable pub trie_root : State → List ℕ
trie_root m = H (spelling (root_node m))
