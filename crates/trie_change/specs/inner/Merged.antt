-- Items and what is set, merged from the last on.
use Rattle.std.specs.Prelude.{◌≡◌, ◌<◌, ℕ, All, IfSome, reverse, List, [], ◌∷◌, ◌++◌, Option, Some, None}
use Rattle.std.specs.Ordering.{nat_cmp}
use Rattle.std.specs.Cmp.Lexicographic.{slice_cmp}
use Rattle.std.specs.declared.cmp.Ordering.TheVariants.{Less, Greater}
use Rattle.trie_change.specs.Item.{Item}
use Rattle.trie_change.specs.Item as item
use Rattle.trie_change.specs.declared.settings.Setting.{Setting}
use Rattle.trie_change.specs.Frontier.{item_path}

-- an entry where a value is set, nothing where a key is deleted
abbrev pub set_item : Setting → Option (List ℕ) → List Item
set_item s None = []
set_item s (Some value) = item.Entry (record { path = s.path; value = value }) ∷ []

-- the first item, if there is one, is below the key that is set
abbrev pub IsBelowKey : Setting → List Item → Type 0
IsBelowKey s [] = Unit {0}
IsBelowKey s (i ∷ items) = slice_cmp nat_cmp (item_path i) s.path.items ≡ Less

-- items and settings, the last first, and what they make: an item above what is left to set stays, one of a key that is set is
-- left out, and a value that is set comes before the items below it
pub data IsMerged : List Item → List Setting → List Item → Type 0 where
  nothing_left : IsMerged [] [] []
  no_more_set : (i : Item) (items merged : List Item) → IsMerged items [] merged → IsMerged (i ∷ items) [] (i ∷ merged)
  stays_above : (i : Item) (items : List Item) (s : Setting) (settings : List Setting) (merged : List Item)
      → slice_cmp nat_cmp (item_path i) s.path.items ≡ Greater → IsMerged items (s ∷ settings) merged
      → IsMerged (i ∷ items) (s ∷ settings) (i ∷ merged)
  is_replaced : (i : Item) (items : List Item) (s : Setting) (settings : List Setting) (merged : List Item)
      → item_path i ≡ s.path.items → IsMerged items (s ∷ settings) merged → IsMerged (i ∷ items) (s ∷ settings) merged
  comes_in : (items : List Item) (s : Setting) (settings : List Setting) (merged : List Item)
      → IsBelowKey s items → IsMerged items settings merged → IsMerged items (s ∷ settings) (set_item s s.value ++ merged)

-- Items have been moved from the end of those found to those later, and what stays of both makes with a key that is set next
-- what all of them would.
pub record IsMovedDown (key : List ℕ) (found later found2 later2 : List Item) : Type 0 where
  pub moved : List Item
  pub later_is : later2 ≡ later ++ moved
  pub merges : (s : Setting) (settings : List Setting) (rest : List Item) → s.path.items ≡ key
      → IsMerged (reverse found2) (s ∷ settings) rest → IsMerged (reverse found) (s ∷ settings) (moved ++ rest)

-- a value of bytes
abbrev pub HasBytes : Setting → Type 0
HasBytes s = IfSome s.value (λ value. All (λ b. b < 256) value)
