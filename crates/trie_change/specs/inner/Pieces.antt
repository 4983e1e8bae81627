-- The pieces in which a job keeps the items that it knows.
use Rattle.std.specs.Prelude.{◌≡◌, ◌⊎◌, ◌≤◌, ◌-◌, ℕ, List, [], ◌∷◌, ◌++◌, drop, length, map, reverse, ◌==◌, if◌then◌else◌, Option, Some, None}
use Rattle.std.specs.Ordering.{nat_cmp}
use Rattle.std.specs.Cmp.Lexicographic.{slice_cmp}
use Rattle.std.specs.List.{AllByRecursion, flat_map, slice_get}
use Rattle.std.specs.declared.cmp.Ordering.TheVariants.{Less, Greater}
use Rattle.sdb_base.specs.declared.node.NodeHash.{NodeHash}
use Rattle.trie_change.specs.Frontier.{item_path}
use Rattle.trie_change.specs.Item.{Item}
use Rattle.trie_change.specs.Item as item
use Rattle.trie_change.specs.declared.frontier.Entry.{Entry}
use Rattle.trie_change.specs.declared.frontier.Piece.{Piece}
use Rattle.trie_change.specs.declared.frontier.Piece.TheVariants as piece
use Rattle.trie_change.specs.declared.frontier.Sibling.{Sibling}
use Rattle.trie_change.specs.declared.settings.Setting.{Setting}
use Rattle.trie_change.specs.inner.Built.{rank_of}
use Rattle.trie_change.specs.inner.InOrder.{IsOff}

-- ---- the items of pieces

-- a sibling as an item
abbrev pub sibling_item : List ℕ → Sibling → Item
sibling_item end s = item.Stub (record { path = record { items = end ++ s.nibble ∷ []; capacity = 0 }; hash = s.hash })

abbrev pub sibling_items : List ℕ → List Sibling → List Item
sibling_items end nodes = map (sibling_item end) nodes

abbrev pub piece_items : Piece → List Item
piece_items (piece.Entry e) = item.Entry e ∷ []
piece_items (piece.Stub s) = item.Stub s ∷ []
piece_items (piece.Siblings s) = sibling_items s.end.items s.nodes.items

abbrev pub all_items : List Piece → List Item
all_items pieces = flat_map piece_items pieces

-- the items of pieces that stand the last first
abbrev pub back_items : List Piece → List Item
back_items pieces = reverse (all_items (reverse pieces))

-- the first and the last item of a piece
abbrev pub first_item : Option Piece → Option Item
first_item None = None
first_item (Some p) = slice_get (piece_items p) 0

abbrev pub last_item : Option Piece → Option Item
last_item None = None
last_item (Some p) = slice_get (piece_items p) (length (piece_items p) - 1)

-- ---- where a piece is

-- where a key ends or a node hangs; of siblings, where the node above them ends
abbrev pub piece_path : Piece → List ℕ
piece_path (piece.Entry e) = e.path.items
piece_path (piece.Stub s) = s.path.items
piece_path (piece.Siblings s) = s.end.items

abbrev pub piece_rank : ℕ → Piece → ℕ
piece_rank at p = rank_of (drop at (piece_path p))

-- the hash of a stub at the path that all have, and the value of a key that ends there
abbrev pub piece_hash : ℕ → Piece → Option NodeHash
piece_hash at (piece.Entry e) = None
piece_hash at (piece.Stub s) = if length s.path.items == at then Some s.hash else None
piece_hash at (piece.Siblings s) = None

abbrev pub piece_value : ℕ → Piece → Option (List ℕ)
piece_value at (piece.Entry e) = if length e.path.items == at then Some e.value else None
piece_value at (piece.Stub s) = None
piece_value at (piece.Siblings s) = None

-- the pieces without the last one and the nodes of that, if it is siblings whose paths part after so many nibbles
pub record IsCutAt (at : ℕ) (pieces rest : List Piece) (nodes : List Sibling) : Type 0 where
  pub end : List ℕ
  pub len : length end ≡ at
  pub whole : all_items pieces ≡ all_items rest ++ sibling_items end nodes
  pub fewer : length rest ≤ length pieces

-- one key and no more, with so many nibbles
abbrev pub IsKeyAlone : ℕ → List Piece → Type 0
IsKeyAlone at pieces = (e : Entry) × (pieces ≡ piece.Entry e ∷ []) × (length e.path.items ≡ at)

-- a piece that is no siblings whose paths part after so many nibbles
abbrev pub IsUncut : ℕ → Piece → Type 0
IsUncut at (piece.Entry e) = Unit {0}
IsUncut at (piece.Stub s) = Unit {0}
IsUncut at (piece.Siblings s) = length s.end.items ≡ at → ⊥

-- ---- siblings beside what is set

-- a key comes before all items or after all of them
abbrev pub IsBeside : List ℕ → List Item → Type 0
IsBeside key items = AllByRecursion (λ (i : Item). slice_cmp nat_cmp (item_path i) key ≡ Greater) items
    ⊎ AllByRecursion (λ (i : Item). slice_cmp nat_cmp (item_path i) key ≡ Less) items

abbrev pub IsBesideKey : List ℕ → Piece → Type 0
IsBesideKey key (piece.Entry e) = Unit {0}
IsBesideKey key (piece.Stub s) = Unit {0}
IsBesideKey key (piece.Siblings s) = IsBeside key (sibling_items s.end.items s.nodes.items)

-- siblings begin no key that is set, and none is between them
pub record AreAside (settings : List Setting) (items : List Item) : Type 0 where
  pub off : AllByRecursion (IsOff settings) items
  pub beside : AllByRecursion (λ (s : Setting). IsBeside s.path.items items) settings

abbrev pub IsAside : List Setting → Piece → Type 0
IsAside settings (piece.Entry e) = Unit {0}
IsAside settings (piece.Stub s) = Unit {0}
IsAside settings (piece.Siblings s) = AreAside settings (sibling_items s.end.items s.nodes.items)
