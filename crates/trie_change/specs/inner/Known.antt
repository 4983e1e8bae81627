-- What a node has, and the inline nodes in it, in the order of keys.
use Rattle.std.specs.Prelude.{◌≡◌, ◌<◌, ℕ, zero, suc, ◌==◌, nat_le, List, [], ◌∷◌, ◌++◌, length, map, slice_index_or, Option, Some, None, if◌then◌else◌, Result, Ok, Err}
use Rattle.std.specs.List.{flat_map}
use Rattle.trie_model.specs.Node.{Node}
use Rattle.trie_model.specs.Trie.{every_nibble}
use Rattle.trie_codec.specs.Reading.{node_of_bytes}
use Rattle.trie_codec.specs.declared.fault.CodecFault.{CodecFault}
use Rattle.trie_codec.specs.declared.node_ref.ChildRef.{ChildRef}
use Rattle.trie_codec.specs.declared.node_ref.ChildRef.TheVariants as child
use Rattle.trie_change.specs.Item.{Item}
use Rattle.trie_change.specs.Item as item

-- a key with its value, or a stored node by its hash and its path
pub data Known : Type 0 where
  KnownKey : List ℕ → List ℕ → Known
  KnownNode : List ℕ → List ℕ → Known

abbrev pub known_of : Item → Known
known_of (item.Entry e) = KnownKey e.path.items e.value
known_of (item.Stub s) = KnownNode s.hash.0 s.path.items

abbrev pub all_known : List Item → List Known
all_known items = map known_of items

-- an inline child is shorter than a hash
abbrev pub HasItsSize : ChildRef → Type 0
HasItsSize child.None = Unit {0}
HasItsSize (child.Inline bytes) = length bytes.now < 32
HasItsSize (child.Hashed hash) = length hash.now ≡ 32

-- a node's own key
abbrev pub own_known : List ℕ → Option (List ℕ) → List Known
own_known key None = []
own_known key (Some value) = KnownKey key value ∷ []

-- a stored node, unless its path is longer than any key
abbrev pub stub_known : List ℕ → List ℕ → List Known
stub_known path hash = if nat_le (length path) 2048 then KnownNode hash path ∷ [] else []

abbrev pub inline_known : (Node → List Known) → Result Node CodecFault → List Known
inline_known go (Ok n) = go n
inline_known go (Err f) = []

-- what there is at a child: a stored node, or what an inline one has
abbrev pub known_at : (Node → List ℕ → List Known) → List ℕ → Option (List ℕ) → List Known
known_at go path None = []
known_at go path (Some c) = if length c == 32 then stub_known path c else inline_known (λ n. go n path) (node_of_bytes c)

-- the node's own key and what there is at its children, with at most so many inline nodes one below the other
unfoldable pub known_in : ℕ → Node → List ℕ → List Known
known_in zero n path = []
known_in (suc levels) n path =
    own_known (path ++ n.partial) n.value
    ++ flat_map (λ i. known_at (known_in levels) ((path ++ n.partial) ++ i ∷ []) (slice_index_or n.children i None)) every_nibble
