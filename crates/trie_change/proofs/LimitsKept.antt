-- The limits stay as items are moved.
use Rattle.std.proofs.Common.{◌≡◌, ℕ, List, [], ◌∷◌, ◌++◌, reverse, Option, Some, None, subst, sym}
use Rattle.std.specs.Prelude.{◌≤◌, IfSome, length}
use Rattle.std.specs.List.{AllByRecursion}
use Rattle.std.proofs.lemmas.List.{reverse-reverse}
use Rattle.trie_model.specs.Limits.{most_in_value}
use Rattle.trie_model.specs.Node.{IsPartial}
use Rattle.trie_root.proofs.ShapesBytes.{all_joined}
use Rattle.trie_read.proofs.OneFed.{all_split}
use Rattle.trie_change.specs.Changing.{IsLimitedSetting}
use Rattle.trie_change.specs.Frontier.{IsLimited}
use Rattle.trie_change.specs.Item.{Item}
use Rattle.trie_change.specs.declared.frontier.Stub.{Stub}
use Rattle.trie_change.specs.declared.settings.Setting.{Setting}
use Rattle.trie_change.specs.inner.InOrder.{in_place, next_item}
use Rattle.trie_change.specs.inner.Merged.{IsMerged, comes_in, is_replaced, no_more_set, nothing_left, set_item, stays_above}
use Rattle.trie_change.proofs.CarriedOver.{all_reversed}

pub reversed_back : {X : Type 0} (P : X → Type 0) (xs : List X) → AllByRecursion P (reverse xs) → AllByRecursion P xs
reversed_back P xs a = subst (AllByRecursion P) (reverse-reverse xs) (all_reversed P (reverse xs) a)

of_next : (next : Option Stub) → AllByRecursion IsLimited (next_item next) → IfSome next (λ s. IsPartial s.path.items)
of_next None a = tt
of_next (Some s) a = a.0

pub record AreLimited (found : List Item) (next : Option Stub) (later : List Item) : Type 0 where
  pub found_limited : AllByRecursion IsLimited found
  pub wanted_limited : IfSome next (λ (s : Stub). IsPartial s.path.items)
  pub later_limited : AllByRecursion IsLimited later

pub limits_moved : (found later found2 later2 : List Item) (next : Option Stub) → AllByRecursion IsLimited found → AllByRecursion IsLimited later
    → in_place found2 next later2 ≡ in_place found None later → AreLimited found2 next later2
limits_moved found later found2 later2 next a b e =
    let whole : AllByRecursion IsLimited (in_place found2 next later2) =
    subst (AllByRecursion IsLimited) (sym e) (all_joined IsLimited found (reverse later) a (all_reversed IsLimited later b)) in
    let one : AllByRecursion IsLimited found2 × AllByRecursion IsLimited (next_item next ++ reverse later2) = all_split IsLimited found2 (next_item next ++ reverse later2) whole in
    let two : AllByRecursion IsLimited (next_item next) × AllByRecursion IsLimited (reverse later2) = all_split IsLimited (next_item next) (reverse later2) one.1 in
    record { found_limited = one.0; wanted_limited = of_next next two.0; later_limited = reversed_back IsLimited later2 two.1 }

set_limited : (s : Setting) (v : Option (List ℕ)) → IsLimitedSetting s → IfSome v (λ x. length x ≤ most_in_value) → AllByRecursion IsLimited (set_item s v)
set_limited s None l h = tt
set_limited s (Some x) l h = ((l.path, h), tt)

pub limits_merged : (items : List Item) (settings : List Setting) (merged : List Item) → IsMerged items settings merged → AllByRecursion IsLimited items
    → AllByRecursion IsLimitedSetting settings → AllByRecursion IsLimited merged
limits_merged items settings merged nothing_left a b = tt
limits_merged items settings merged (no_more_set i rest made m) a b = (a.0, limits_merged rest [] made m a.1 b)
limits_merged items settings merged (stays_above i rest s others made above m) a b = (a.0, limits_merged rest (s ∷ others) made m a.1 b)
limits_merged items settings merged (is_replaced i rest s others made same m) a b = limits_merged rest (s ∷ others) made m a.1 b
limits_merged items settings merged (comes_in these s others made below m) a b =
    all_joined IsLimited (set_item s s.value) made (set_limited s s.value b.0 b.0.value) (limits_merged these others made m a b.1)
