-- What is known, as items.
use Rattle.std.proofs.Common.{◌≡◌, ℕ, Bool, true, false, eqb, eq-eqb, List, [], ◌∷◌, ◌++◌, refl, ap, ap₂, sym, ◌∙◌, inr}
use Rattle.std.specs.Prelude.{◌||◌, nat_eq}
use Rattle.std.specs.List.{AllByRecursion, flat_map, list_any, starts_with}
use Rattle.trie_model.specs.Nodes.{PathNode}
use Rattle.trie_model.specs.Trie.{Suffix}
use Rattle.trie_change.specs.Frontier.{IsItem, is_at_stub, suffixes_for}
use Rattle.trie_change.specs.Item.{Item}
use Rattle.trie_change.specs.Item as item
use Rattle.trie_change.specs.inner.InOrder.{IsBelowRoot}
use Rattle.trie_change.specs.inner.Known.{all_known, known_of}
use Rattle.trie_change.specs.inner.Stages.{all_under, stored_under}
use Rattle.trie_change.proofs.LongerPaths.{begins_longer, begins_through}
use Rattle.trie_change.proofs.KnownDeeper.{IsDeeper}
use Rattle.trie_change.proofs.Unfolds.{IsKnown, nodes_known, suffixes_known}

-- one item and what is known of it
one_for : (ss : List Suffix) (i : Item) → suffixes_known ss (known_of i) ≡ suffixes_for ss i
one_for ss (item.Entry e) = refl
one_for ss (item.Stub s) = refl

one_under : (ss : List Suffix) (i : Item) → nodes_known ss (known_of i) ≡ stored_under ss i
one_under ss (item.Entry e) = refl
one_under ss (item.Stub s) = refl

one_sound : (ss : List Suffix) (i : Item) → IsKnown ss (known_of i) → IsItem ss i
one_sound ss (item.Entry e) k = tt
one_sound ss (item.Stub s) k = record { is_hash = k.is_hash; stored = k.stored; some = inr k.some }

pub items_for : (ss : List Suffix) (items : List Item) → flat_map (suffixes_known ss) (all_known items) ≡ flat_map (suffixes_for ss) items
items_for ss [] = refl
items_for ss (i ∷ items) = ap₂ (λ (xs ys : List Suffix). xs ++ ys) (one_for ss i) (items_for ss items)

pub items_under : (ss : List Suffix) (items : List Item) → flat_map (nodes_known ss) (all_known items) ≡ all_under ss items
items_under ss [] = refl
items_under ss (i ∷ items) = ap₂ (λ (xs ys : List PathNode). xs ++ ys) (one_under ss i) (items_under ss items)

pub items_sound : (ss : List Suffix) (items : List Item) → AllByRecursion (IsKnown ss) (all_known items) → AllByRecursion (IsItem ss) items
items_sound ss [] a = tt
items_sound ss (i ∷ items) a = (one_sound ss i a.0, items_sound ss items a.1)

-- ---- items further down than a path

one_below_root : (p : List ℕ) (i : Item) → IsDeeper p (known_of i) → IsBelowRoot i
one_below_root p (item.Entry e) d = tt
one_below_root p (item.Stub s) d = λ root. nothing p d.0 (sym d.1 ∙ root) d.2
  where
    nothing : (p r : List ℕ) → p ++ r ≡ [] → (r ≡ [] → ⊥) → ⊥
    nothing [] r e some = some e
    nothing (x ∷ p) r e some = cc

pub items_below_root : (p : List ℕ) (items : List Item) → AllByRecursion (IsDeeper p) (all_known items) → AllByRecursion IsBelowRoot items
items_below_root p [] a = tt
items_below_root p (i ∷ items) a = (one_below_root p i a.0, items_below_root p items a.1)

-- a path that isn't at the path or below it is under none of them
off_one : (p x : List ℕ) (i : Item) → IsDeeper p (known_of i) → (starts_with nat_eq x p ≡ true → ⊥) → is_at_stub x i ≡ false
off_one p x (item.Entry e) d off = refl
off_one p x (item.Stub s) d off = by_test (starts_with nat_eq x s.path.items) refl
  where
    by_test : (b : Bool) → starts_with nat_eq x s.path.items ≡ b → b ≡ false
    by_test true e = absurd (off (begins_through p s.path.items x (begins_longer p d.0 s.path.items d.1) e))
    by_test false e = refl

pub off_all : (p x : List ℕ) (items : List Item) → AllByRecursion (IsDeeper p) (all_known items) → (starts_with nat_eq x p ≡ true → ⊥) → list_any (is_at_stub x) items ≡ false
off_all p x [] a off = refl
off_all p x (i ∷ items) a off = ap₂ (λ b c. b || c) (off_one p x i a.0 off) (off_all p x items a.1 off)

-- nor is the path itself
not_longer : (p r : List ℕ) → (r ≡ [] → ⊥) → starts_with nat_eq p (p ++ r) ≡ false
not_longer [] [] some = absurd (some refl)
not_longer [] (x ∷ r) some = refl
not_longer (x ∷ p) r some = let same : eqb x x ≡ true = eq-eqb x x refl in rw same (not_longer p r some)

itself_one : (p : List ℕ) (i : Item) → IsDeeper p (known_of i) → is_at_stub p i ≡ false
itself_one p (item.Entry e) d = refl
itself_one p (item.Stub s) d = ap (starts_with nat_eq p) d.1 ∙ not_longer p d.0 d.2

pub itself_all : (p : List ℕ) (items : List Item) → AllByRecursion (IsDeeper p) (all_known items) → list_any (is_at_stub p) items ≡ false
itself_all p [] a = refl
itself_all p (i ∷ items) a = ap₂ (λ b c. b || c) (itself_one p i a.0) (itself_all p items a.1)
