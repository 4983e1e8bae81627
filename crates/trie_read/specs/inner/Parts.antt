-- What a node has, and the inline nodes in it, in the order of keys.
use Rattle.std.specs.Prelude.{◌≡◌, ◌⊎◌, ℕ, zero, suc, ◌+◌, ◌*◌, ◌%◌, ◌==◌, ◌||◌, nat_eq, true, Bool, List, [], ◌∷◌, ◌++◌, length, map, filter, reverse, slice_index_or, Option, Some, None, if◌then◌else◌, Result, Ok, Err}
use Rattle.std.specs.Ordering.{is_lt, nat_cmp}
use Rattle.std.specs.Cmp.Lexicographic.{slice_cmp}
use Rattle.std.specs.List.{AllByRecursion, flat_map, starts_with}
use Rattle.sdb_blake2.specs.Blake2b.{H}
use Rattle.trie_model.specs.Node.{Node, spelling}
use Rattle.trie_model.specs.Nodes.{PathNode, is_stored, nodes_over}
use Rattle.trie_model.specs.Trie.{Suffix, below, every_nibble, levels_of}
use Rattle.trie_codec.specs.Reading.{node_of_bytes}
use Rattle.trie_codec.specs.declared.fault.CodecFault.{CodecFault}
use Rattle.trie_read.specs.Paths.{node_at}
use Rattle.trie_read.specs.inner.Following.{head_at}
use Rattle.trie_read.specs.declared.parts.Part.{Part}
use Rattle.trie_read.specs.declared.parts.Part.TheVariants as part
use Rattle.trie_read.specs.declared.parts.Sought.{Sought}
use Rattle.trie_read.specs.declared.parts.Sought.TheVariants.{Above, Beginning}
use Rattle.trie_read.specs.declared.parts.Stored.{Stored}

-- a key, or a stored node by its hash and its path
pub data Piece : Type 0 where
  OfKey : List ℕ → Piece
  OfNode : List ℕ → List ℕ → Piece

abbrev pub piece_of : Part → Piece
piece_of (part.Key key) = OfKey key
piece_of (part.Node stored) = OfNode stored.hash.0 stored.path.items

abbrev pub as_pieces : List Part → List Piece
as_pieces parts = map piece_of parts

-- the stored node that comes next, if there is one
abbrev pub next_piece : Option Stored → List Piece
next_piece None = []
next_piece (Some stored) = OfNode stored.hash.0 stored.path.items ∷ []

-- after how many nibbles it hangs
abbrev pub depth_of : Option Stored → ℕ
depth_of None = 0
depth_of (Some stored) = length stored.path.items

-- the parts of keys that were found, of the stored node that comes next, and of what comes after it, the last first
abbrev pub in_order : List (List ℕ) → Option Stored → List Part → List Piece
in_order found next later = map OfKey found ++ (next_piece next ++ as_pieces (reverse later))

-- the bytes of nibbles, two to a byte; a last one alone is left out
abbrev pub key_of_nibbles : List ℕ → List ℕ
key_of_nibbles [] = []
key_of_nibbles (n ∷ []) = []
key_of_nibbles (n ∷ (k ∷ ns)) = (16 * (n % 16) + k % 16) ∷ key_of_nibbles ns

-- ---- which keys are sought

-- whether a key goes on with nibbles; whether a path leads to them, or goes on with them
abbrev pub goes_on_with : List ℕ → List ℕ → Bool
goes_on_with nibbles key = starts_with nat_eq key nibbles

abbrev pub is_near : List ℕ → List ℕ → Bool
is_near nibbles path = starts_with nat_eq nibbles path || starts_with nat_eq path nibbles

-- whether a key is above nibbles; whether a path leads to them, or is above them
abbrev pub is_above : List ℕ → List ℕ → Bool
is_above nibbles key = is_lt (slice_cmp nat_cmp nibbles key)

abbrev pub leads_above : List ℕ → List ℕ → Bool
leads_above nibbles path = starts_with nat_eq nibbles path || is_above nibbles path

-- whether a key of these nibbles is sought, and whether one below a path can be
abbrev pub sought_keys : Sought → List ℕ → Bool
sought_keys (Beginning prefix) key = goes_on_with prefix.now key
sought_keys (Above nibbles) key = is_above nibbles.now key

abbrev pub sought_paths : Sought → List ℕ → Bool
sought_paths (Beginning prefix) path = is_near prefix.now path
sought_paths (Above nibbles) path = leads_above nibbles.now path

-- ---- what there is of one node, where a test says which keys are kept, and another which paths are gone into

-- its own key
abbrev pub own_parts : (List ℕ → Bool) → List ℕ → Option (List ℕ) → List Piece
own_parts keeps key None = []
own_parts keeps key (Some value) = if keeps key then OfKey (key_of_nibbles key) ∷ [] else []

abbrev pub inline_parts : (Node → List Piece) → Result Node CodecFault → List Piece
inline_parts go (Ok n) = go n
inline_parts go (Err f) = []

-- what there is at a child: a stored node, or what an inline one has
abbrev pub parts_there : (Node → List ℕ → List Piece) → List ℕ → Option (List ℕ) → List Piece
parts_there go path None = []
parts_there go path (Some c) = if length c == 32 then OfNode c path ∷ [] else inline_parts (λ n. go n path) (node_of_bytes c)

abbrev pub child_parts : (List ℕ → Bool) → (Node → List ℕ → List Piece) → List ℕ → Option (List ℕ) → List Piece
child_parts goes go path c = if goes path then parts_there go path c else []

-- the node's own key and what there is at its children, with at most so many inline nodes one below the other
unfoldable pub parts_in : (List ℕ → Bool) → (List ℕ → Bool) → ℕ → Node → List ℕ → List Piece
parts_in keeps goes zero n path = []
parts_in keeps goes (suc levels) n path =
    own_parts keeps (path ++ n.partial) n.value
    ++ flat_map (λ i. child_parts goes (parts_in keeps goes levels) ((path ++ n.partial) ++ i ∷ []) (slice_index_or n.children i None)) every_nibble

-- those of what is sought, of a node and of a child
abbrev pub parts_sought : Sought → ℕ → Node → List ℕ → List Piece
parts_sought sought levels n path = parts_in (sought_keys sought) (sought_paths sought) levels n path

abbrev pub child_sought : Sought → ℕ → List ℕ → Option (List ℕ) → List Piece
child_sought sought levels path c = child_parts (sought_paths sought) (parts_sought sought levels) path c

-- ---- what parts stand for

-- the sought keys of suffixes that hang at a path, and the stored nodes over them that can lead to one
abbrev pub keys_under : (List ℕ → Bool) → List ℕ → List Suffix → List (List ℕ)
keys_under keeps path suffixes = map (λ (s : Suffix). key_of_nibbles (path ++ s.0)) (filter (λ (s : Suffix). keeps (path ++ s.0)) suffixes)

abbrev pub gone_into : (List ℕ → Bool) → List PathNode → List PathNode
gone_into goes nodes = filter (λ (n : PathNode). goes n.path) (filter is_stored nodes)

abbrev pub nodes_under : (List ℕ → Bool) → List ℕ → List Suffix → List PathNode
nodes_under goes path suffixes = gone_into goes (nodes_over (levels_of suffixes) path suffixes)

abbrev pub keys_for : List Suffix → (List ℕ → Bool) → Piece → List (List ℕ)
keys_for suffixes keeps (OfKey key) = key ∷ []
keys_for suffixes keeps (OfNode hash path) = keys_under keeps path (below path suffixes)

abbrev pub nodes_for : List Suffix → (List ℕ → Bool) → Piece → List PathNode
nodes_for suffixes goes (OfKey key) = []
nodes_for suffixes goes (OfNode hash path) = nodes_under goes path (below path suffixes)

-- a stored node that is gone into, by its hash; only the root can be over no suffixes
pub record IsStored (suffixes : List Suffix) (goes : List ℕ → Bool) (hash path : List ℕ) : Type 0 where
  pub is_hash : hash ≡ H (spelling (node_at suffixes path))
  pub stored : is_stored (head_at suffixes path) ≡ true
  pub near : goes path ≡ true
  pub some : (path ≡ []) ⊎ (below path suffixes ≡ [] → ⊥)

abbrev pub IsPiece : List Suffix → (List ℕ → Bool) → Piece → Type 0
IsPiece suffixes goes (OfKey key) = Unit {0}
IsPiece suffixes goes (OfNode hash path) = IsStored suffixes goes hash path

-- parts that stand for these keys and these nodes, one after the other
pub record StandFor (suffixes : List Suffix) (keeps goes : List ℕ → Bool) (parts : List Piece) (ks : List (List ℕ)) (ns : List PathNode) : Type 0 where
  pub sound : AllByRecursion (IsPiece suffixes goes) parts
  pub keys : flat_map (keys_for suffixes keeps) parts ≡ ks
  pub nodes : flat_map (nodes_for suffixes goes) parts ≡ ns

-- ---- for the least key above a key

-- the next stored node, and what comes behind it
abbrev pub behind_it : Option Part → List Piece
behind_it None = []
behind_it (Some p) = piece_of p ∷ []

abbrev pub in_front : Option Stored → Option Part → List Piece
in_front next nearest = next_piece next ++ behind_it nearest

-- of parts in their order a first key, or a first node and what comes behind it; and the others
abbrev pub first_two_of : List Piece → List Piece
first_two_of [] = []
first_two_of (OfKey key ∷ ps) = OfKey key ∷ []
first_two_of (OfNode hash path ∷ []) = OfNode hash path ∷ []
first_two_of (OfNode hash path ∷ (p ∷ ps)) = OfNode hash path ∷ (p ∷ [])

abbrev pub after_two_of : List Piece → List Piece
after_two_of [] = []
after_two_of (OfKey key ∷ ps) = ps
after_two_of (OfNode hash path ∷ []) = []
after_two_of (OfNode hash path ∷ (p ∷ ps)) = ps

-- where no node comes next there is a key or nothing
abbrev pub HasSettled : Option Stored → Option Part → Type 0
HasSettled (Some stored) nearest = Unit {0}
HasSettled None None = Unit {0}
HasSettled None (Some (part.Key key)) = Unit {0}
HasSettled None (Some (part.Node stored)) = ⊥

-- a node that hangs above the nibbles, and not on their way; of all parts but the first the nodes do
abbrev pub HangsAbove : List ℕ → Piece → Type 0
HangsAbove nibbles (OfKey key) = Unit {0}
HangsAbove nibbles (OfNode hash path) = is_above nibbles path ≡ true

abbrev pub IsLed : List ℕ → List Piece → Type 0
IsLed nibbles [] = Unit {0}
IsLed nibbles (p ∷ ps) = AllByRecursion (HangsAbove nibbles) ps
