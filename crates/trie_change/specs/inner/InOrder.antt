-- Items that are known of a trie, before and after the node that is wanted.
use Rattle.std.specs.Prelude.{T, ◌≡◌, ◌⊎◌, ℕ, ◌||◌, nat_eq, Bool, true, false, List, [], ◌∷◌, ◌++◌, length, map, reverse, take, Option, Some, None}
use Rattle.std.specs.Ordering.{nat_cmp}
use Rattle.std.specs.Cmp.Lexicographic.{slice_cmp}
use Rattle.std.specs.FinMap.{is_sorted}
use Rattle.std.specs.List.{AllByRecursion, flat_map, list_any, starts_with}
use Rattle.trie_change.specs.Item.{Item}
use Rattle.trie_change.specs.Item as item
use Rattle.trie_change.specs.declared.frontier.Stub.{Stub}
use Rattle.trie_change.specs.declared.settings.Setting.{Setting}
use Rattle.trie_change.specs.Frontier.{item_path}

abbrev pub next_item : Option Stub → List Item
next_item None = []
next_item (Some s) = item.Stub s ∷ []

-- the items that were found, the wanted node, and what comes after it, the last first
abbrev pub in_place : List Item → Option Stub → List Item → List Item
in_place found wanted later = found ++ (next_item wanted ++ reverse later)

abbrev pub stubs_in : Item → List Stub
stubs_in (item.Entry e) = []
stubs_in (item.Stub s) = s ∷ []

-- the stubs of items, in their order
abbrev pub stubs_of : List Item → List Stub
stubs_of items = flat_map stubs_in items

-- ---- keys that are set

-- whether a path begins a key that is set
abbrev pub begins_one : List Setting → List ℕ → Bool
begins_one settings path = list_any (λ (s : Setting). starts_with nat_eq s.path.items path) settings

abbrev pub IsOff : List Setting → Item → Type 0
IsOff settings (item.Entry e) = Unit {0}
IsOff settings (item.Stub s) = begins_one settings s.path.items ≡ false

-- what keys are set to, in nibbles
abbrev pub set_pair : Setting → List ℕ × Option (List ℕ)
set_pair s = (s.path.items, s.value)

abbrev pub set_pairs : List Setting → List (List ℕ × Option (List ℕ))
set_pairs settings = map set_pair settings

-- the keys rise
abbrev pub IsRising : List Setting → Type 0
IsRising settings = T (is_sorted (slice_cmp nat_cmp) (set_pairs settings))

-- ---- where a stub hangs

-- whether an item's path goes on with some nibbles
abbrev pub item_goes_on : List ℕ → Option Item → Bool
item_goes_on nibbles None = false
item_goes_on nibbles (Some i) = starts_with nat_eq (item_path i) nibbles

abbrev pub hangs_between : Option Item → List ℕ → Option Item → Bool
hangs_between before [] after = true
hangs_between before (x ∷ path) after = item_goes_on (take (length path) (x ∷ path)) before || item_goes_on (take (length path) (x ∷ path)) after

-- a stub of the root has no other items beside it
abbrev pub IsBelowRoot : Item → Type 0
IsBelowRoot (item.Entry e) = Unit {0}
IsBelowRoot (item.Stub s) = s.path.items ≡ [] → ⊥

abbrev pub RootIsAlone : List Item → Type 0
RootIsAlone items = (length items ≡ 1) ⊎ AllByRecursion IsBelowRoot items
