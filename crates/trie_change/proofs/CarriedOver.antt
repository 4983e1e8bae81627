-- What is set is carried out on items that are all off the way.
use Rattle.std.proofs.Common.{◌≡◌, ℕ, Bool, false, List, [], ◌∷◌, ◌++◌, reverse, Option, T, refl, ap, ap₂, subst, sym, ◌∙◌, inl, inr}
use Rattle.std.specs.Prelude.{nat_eq}
use Rattle.std.specs.List.{AllByRecursion, list_any, starts_with}
use Rattle.std.specs.FinMap.{find, is_sorted}
use Rattle.std.specs.FinMap.Entries.{same_entries}
use Rattle.std.proofs.lemmas.Cmp.{nat_list_cmp_total}
use Rattle.std.proofs.lemmas.List.{reverse-reverse}
use Rattle.std.proofs.lemmas.List.Elements.{All-from_recursion, recursion_from_All}
use Rattle.std.proofs.lemmas.List.Sorted.{All-permutation, IsPermutation-reverse, list_any-IsPermutation}
use Rattle.sdb_base.specs.declared.Change.{Change}
use Rattle.sdb_blake2.specs.Blake2b.{H}
use Rattle.trie_model.specs.Fetches.{is_changed}
use Rattle.trie_model.specs.Node.{spelling}
use Rattle.trie_model.specs.Nodes.{is_stored}
use Rattle.trie_model.specs.State.{State, apply}
use Rattle.trie_model.specs.Trie.{Suffix, below, node_of_all, suffixes_of, with_prefix}
use Rattle.trie_root.proofs.ReadOffStates.{suffixes_sorted}
use Rattle.trie_change.specs.ChangedKeys.{keys_in_changes}
use Rattle.trie_change.specs.Frontier.{IsFrontier, IsItem, IsStub, is_at_stub}
use Rattle.trie_change.specs.Item.{Item}
use Rattle.trie_change.specs.Item as item
use Rattle.trie_change.specs.declared.frontier.Stub.{Stub}
use Rattle.trie_change.specs.declared.settings.Setting.{Setting}
use Rattle.trie_change.specs.inner.InOrder.{IsOff, begins_one, set_pairs, stubs_of}
use Rattle.trie_change.specs.inner.Merged.{IsMerged}
use Rattle.trie_change.proofs.HangingBetween.{neither_true}
use Rattle.trie_change.proofs.MergedSteps.{IsMergedWell, overlaid, same_key}
use Rattle.trie_change.proofs.MergedWell.{IsClear, merged_well}
use Rattle.trie_change.proofs.Neighbours.{all_for}
use Rattle.trie_change.proofs.OffWay.{at_path}
use Rattle.trie_change.proofs.Orders.{key_cmp}
use Rattle.trie_change.proofs.SetBy.{begins_changed, set_over, sorted_set}
use Rattle.trie_change.proofs.Unchanged.{below_stays}
use Rattle.trie_change.specs.Settings.{settings_of}

-- ---- what holds of the stubs of items

abbrev pub OfStub : (Stub → Type 0) → Item → Type 0
OfStub P (item.Entry e) = Unit {0}
OfStub P (item.Stub s) = P s

pub stubs_hold : (P : Stub → Type 0) (items : List Item) → AllByRecursion (OfStub P) items → AllByRecursion P (stubs_of items)
stubs_hold P [] a = tt
stubs_hold P (item.Entry e ∷ items) a = stubs_hold P items a.1
stubs_hold P (item.Stub s ∷ items) a = (a.0, stubs_hold P items a.1)

pub items_hold : (P : Stub → Type 0) (items : List Item) → AllByRecursion P (stubs_of items) → AllByRecursion (OfStub P) items
items_hold P [] a = tt
items_hold P (item.Entry e ∷ items) a = (tt, items_hold P items a)
items_hold P (item.Stub s ∷ items) a = (a.0, items_hold P items a.1)

pub same_stubs_hold : (P : Stub → Type 0) (items others : List Item) → stubs_of others ≡ stubs_of items → AllByRecursion (OfStub P) items → AllByRecursion (OfStub P) others
same_stubs_hold P items others e a = items_hold P others (subst (AllByRecursion P) (sym e) (stubs_hold P items a))

-- a stub off the way
abbrev pub IsOffStub : List (List ℕ) → Stub → Type 0
IsOffStub keys s = is_changed keys (at_path s.path.items) ≡ false

pub to_off_stubs : (settings : List Setting) (changes : List Change) (items : List Item) → set_pairs settings ≡ settings_of changes → AllByRecursion (IsOff settings) items
    → AllByRecursion (OfStub (IsOffStub (keys_in_changes changes))) items
to_off_stubs settings changes [] e a = tt
to_off_stubs settings changes (item.Entry k ∷ items) e a = (tt, to_off_stubs settings changes items e a.1)
to_off_stubs settings changes (item.Stub s ∷ items) e a = (sym (begins_changed settings changes s.path.items e) ∙ a.0, to_off_stubs settings changes items e a.1)

clear_of : (settings : List Setting) (s : Stub) → begins_one settings s.path.items ≡ false → IsClear settings (item.Stub s)
clear_of [] s e = tt
clear_of (k ∷ settings) s e =
    let parts : (starts_with nat_eq k.path.items s.path.items ≡ false) × (begins_one settings s.path.items ≡ false) =
    neither_true (starts_with nat_eq k.path.items s.path.items) (begins_one settings s.path.items) e in
    (parts.0, clear_of settings s parts.1)

clear_entry : (settings : List Setting) (i : Item) → ((k : Setting) → is_at_stub k.path.items i ≡ false) → IsClear settings i
clear_entry [] i f = tt
clear_entry (k ∷ settings) i f = (f k, clear_entry settings i f)

all_clear : (settings : List Setting) (items : List Item) → AllByRecursion (IsOff settings) items → AllByRecursion (IsClear settings) items
all_clear settings [] a = tt
all_clear settings (item.Entry e ∷ items) a = (clear_entry settings (item.Entry e) (λ k. refl), all_clear settings items a.1)
all_clear settings (item.Stub s ∷ items) a = (clear_of settings s a.0, all_clear settings items a.1)

-- ---- all turned round

pub all_reversed : {X : Type 0} (P : X → Type 0) (xs : List X) → AllByRecursion P xs → AllByRecursion P (reverse xs)
all_reversed P xs a = recursion_from_All P (reverse xs) (All-permutation P xs (reverse xs) (IsPermutation-reverse xs) (All-from_recursion P xs a))

-- ---- over both states the same

stub_after : (m : State) (changes : List Change) (s : Stub) → IsOffStub (keys_in_changes changes) s → IsStub (suffixes_of m) s → IsStub (suffixes_of (apply m changes)) s
stub_after m changes s off is =
    let same : below s.path.items (suffixes_of (apply m changes)) ≡ below s.path.items (suffixes_of m) = below_stays m changes (at_path s.path.items) off in record {
      is_hash = is.is_hash ∙ ap (λ (us : List Suffix). H (spelling (node_of_all us))) (sym same);
      stored = ap (λ (us : List Suffix). is_stored (record { path = s.path.items; bytes = spelling (node_of_all us) })) same ∙ is.stored;
      some = elim is.some [ inl root ↦ inl root | inr some ↦ inr (λ z. some (sym same ∙ z)) ];
    }

both_hold : (P Q R : Stub → Type 0) → ((s : Stub) → P s → Q s → R s) → (items : List Item) → AllByRecursion (OfStub P) items → AllByRecursion (OfStub Q) items
    → AllByRecursion (OfStub R) items
both_hold P Q R f [] a b = tt
both_hold P Q R f (item.Entry e ∷ items) a b = (tt, both_hold P Q R f items a.1 b.1)
both_hold P Q R f (item.Stub s ∷ items) a b = (f s a.0 b.0, both_hold P Q R f items a.1 b.1)

for_after : (m : State) (changes : List Change) (items : List Item) → AllByRecursion (OfStub (IsOffStub (keys_in_changes changes))) items
    → all_for (suffixes_of (apply m changes)) items ≡ all_for (suffixes_of m) items
for_after m changes [] a = refl
for_after m changes (item.Entry e ∷ items) a = ap (λ (us : List Suffix). (e.path.items, e.value) ∷ us) (for_after m changes items a.1)
for_after m changes (item.Stub s ∷ items) a =
    ap₂ (λ (us vs : List Suffix). us ++ vs) (ap (with_prefix s.path.items) (below_stays m changes (at_path s.path.items) a.0)) (for_after m changes items a.1)

to_stubs : (ss : List Suffix) (items : List Item) → AllByRecursion (IsItem ss) items → AllByRecursion (OfStub (IsStub ss)) items
to_stubs ss [] a = tt
to_stubs ss (item.Entry e ∷ items) a = (tt, to_stubs ss items a.1)
to_stubs ss (item.Stub s ∷ items) a = (a.0, to_stubs ss items a.1)

from_stubs : (ss : List Suffix) (items : List Item) → AllByRecursion (OfStub (IsStub ss)) items → AllByRecursion (IsItem ss) items
from_stubs ss [] a = tt
from_stubs ss (item.Entry e ∷ items) a = (tt, from_stubs ss items a.1)
from_stubs ss (item.Stub s ∷ items) a = (a.0, from_stubs ss items a.1)

-- ---- the items that come of both

module _ (m : State) (changes : List Change) (settings : List Setting) (found later : List Item) (set : set_pairs settings ≡ settings_of changes)
    (front : IsFrontier (suffixes_of m) found) (off : AllByRecursion (IsOff settings) found) (merged : IsMerged (reverse found) (reverse settings) later) where
  turned : reverse (reverse found) ≡ found
  turned = reverse-reverse found

  well : IsMergedWell (suffixes_of m) (reverse found) (reverse settings) later
  well =
      merged_well (suffixes_of m) (reverse found) (reverse settings) later merged
      (subst (λ (us : List Suffix). T (is_sorted key_cmp us)) (sym (ap (all_for (suffixes_of m)) turned ∙ front.whole)) (suffixes_sorted m))
      (subst (λ (ys : List (List ℕ × Option (List ℕ))). T (is_sorted key_cmp ys)) (sym (ap set_pairs (reverse-reverse settings) ∙ set)) (sorted_set changes))
      (all_reversed (IsItem (suffixes_of m)) found front.stubs)
      (all_reversed (IsClear (reverse settings)) found (all_clear (reverse settings) found (off_turned found off)))
    where
      any_reversed : (test : Setting → Bool) → list_any test settings ≡ false → list_any test (reverse settings) ≡ false
      any_reversed test e = sym (list_any-IsPermutation test settings (reverse settings) (IsPermutation-reverse settings)) ∙ e

      off_turned : (items : List Item) → AllByRecursion (IsOff settings) items → AllByRecursion (IsOff (reverse settings)) items
      off_turned [] a = tt
      off_turned (item.Entry e ∷ items) a = (tt, off_turned items a.1)
      off_turned (item.Stub s ∷ items) a = (any_reversed (λ (k : Setting). starts_with nat_eq k.path.items s.path.items) a.0, off_turned items a.1)

  pub stubs_stay : stubs_of (reverse later) ≡ stubs_of found
  stubs_stay = well.stubs ∙ ap stubs_of turned

  off_found : AllByRecursion (OfStub (IsOffStub (keys_in_changes changes))) found
  off_found = to_off_stubs settings changes found set off

  pub off_after : AllByRecursion (OfStub (IsOffStub (keys_in_changes changes))) (reverse later)
  off_after = same_stubs_hold (IsOffStub (keys_in_changes changes)) found (reverse later) stubs_stay off_found

  stands : all_for (suffixes_of m) (reverse later) ≡ suffixes_of (apply m changes)
  stands =
      same_entries key_cmp nat_list_cmp_total same_key (all_for (suffixes_of m) (reverse later)) (suffixes_of (apply m changes)) well.sorted (suffixes_sorted (apply m changes))
      (λ q. well.found q
      ∙ ap₂ (λ (ys : List (List ℕ × Option (List ℕ))) (us : List Suffix). overlaid (find key_cmp q ys) (find key_cmp q us))
      (ap set_pairs (reverse-reverse settings) ∙ set) (ap (all_for (suffixes_of m)) turned ∙ front.whole)
      ∙ sym (set_over changes m q))

  pub frontier_after : IsFrontier (suffixes_of (apply m changes)) (reverse later)
  frontier_after = record {
    stubs = from_stubs (suffixes_of (apply m changes)) (reverse later)
        (same_stubs_hold (IsStub (suffixes_of (apply m changes))) found (reverse later) stubs_stay
        (both_hold (IsOffStub (keys_in_changes changes)) (IsStub (suffixes_of m)) (IsStub (suffixes_of (apply m changes))) (λ s. stub_after m changes s) found off_found
        (to_stubs (suffixes_of m) found front.stubs)));
    whole = for_after m changes (reverse later) off_after ∙ stands;
  }
