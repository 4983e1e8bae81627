-- One item after the other is looked at, from the first that is left.
use Rattle.std.proofs.Common.{◌≡◌, ℕ, ◌-◌, Bool, true, false, List, [], ◌∷◌, ◌++◌, length, reverse, Option, None, ap, ap₂, subst, sym, ◌∙◌, append_assoc}
use Rattle.std.specs.Prelude.{All}
use Rattle.std.specs.FinMap.{entries}
use Rattle.std.specs.List.{AllByRecursion, slice_get}
use Rattle.std.proofs.lemmas.List.{reverse-append}
use Rattle.trie_model.specs.State.{State}
use Rattle.trie_model.specs.Trie.{suffixes_of}
use Rattle.trie_root.specs.Suffixes.{IsEntry}
use Rattle.trie_root.proofs.ShapesBytes.{all_joined}
use Rattle.trie_read.specs.Paths.{Hangs}
use Rattle.trie_read.proofs.Binding.{sound_state}
use Rattle.trie_change.specs.Frontier.{IsFrontier, IsHanging}
use Rattle.trie_change.specs.Item.{Item}
use Rattle.trie_change.specs.Item as item
use Rattle.trie_change.specs.declared.frontier.Stub.{Stub}
use Rattle.trie_change.specs.inner.InOrder.{hangs_between, in_place}
use Rattle.trie_change.proofs.HangingBetween.{the_test}

pub taken : (found later less : List Item) (i : Item) → later ≡ less ++ i ∷ [] → found ++ (i ∷ reverse less) ≡ in_place found None later
taken found later less i e = ap (λ (xs : List Item). found ++ xs) (sym (ap reverse e ∙ reverse-append less (i ∷ [])))

pub moved : (found later less found2 : List Item) (i : Item) → later ≡ less ++ i ∷ [] → found2 ≡ found ++ i ∷ [] → in_place found2 None less ≡ in_place found None later
moved found later less found2 i e f =
    ap (λ (xs : List Item). xs ++ reverse less) f ∙ append_assoc found (i ∷ []) (reverse less) ∙ taken found later less i e

same_test : (before x after : Option Item) (p q : List ℕ) (y : Option Item) (b c : Bool) → b ≡ hangs_between x p y → x ≡ before → y ≡ after → p ≡ q → b ≡ c
    → hangs_between before q after ≡ c
same_test before x after p q y b c e f g h k =
    ap₂ (λ (o n : Option Item). hangs_between o q n) (sym f) (sym g) ∙ ap (λ (r : List ℕ). hangs_between x r y) (sym h) ∙ sym e ∙ k

pub stub_among : (m : State) (whole found later less : List Item) (i : Item) (s : Stub) → IsFrontier (suffixes_of m) whole → in_place found None later ≡ whole
    → later ≡ less ++ i ∷ [] → i ≡ item.Stub s → IsFrontier (suffixes_of m) (found ++ (item.Stub s ∷ reverse less))
stub_among m whole found later less i s f same e is =
    subst (λ (xs : List Item). IsFrontier (suffixes_of m) xs)
    (sym same ∙ sym (taken found later less i e) ∙ ap (λ (x : Item). found ++ (x ∷ reverse less)) is) f

module _ (m : State) (within : All IsEntry (entries m)) (found less : List Item) (s : Stub) (front : IsFrontier (suffixes_of m) (found ++ (item.Stub s ∷ reverse less)))
    (x y : Option Item) (p : List ℕ) (b : Bool) (is : b ≡ hangs_between x p y) (last : x ≡ slice_get found (length found - 1))
    (next : y ≡ slice_get less (length less - 1)) (path : p ≡ s.path.items) where
  pub hangs_here : b ≡ true → Hangs (suffixes_of m) s.path.items
  hangs_here e =
      (the_test (suffixes_of m) (sound_state m within) found less s front).0
      (same_test (slice_get found (length found - 1)) x (slice_get less (length less - 1)) p s.path.items y b true is last next path e)

  pub no_node_here : b ≡ false → Hangs (suffixes_of m) s.path.items → ⊥
  no_node_here e =
      (the_test (suffixes_of m) (sound_state m within) found less s front).1
      (same_test (slice_get found (length found - 1)) x (slice_get less (length less - 1)) p s.path.items y b false is last next path e)

pub hanging_too : (m : State) (found found2 : List Item) (s : Stub) → found2 ≡ found ++ item.Stub s ∷ [] → AllByRecursion (IsHanging (suffixes_of m)) found
    → Hangs (suffixes_of m) s.path.items → AllByRecursion (IsHanging (suffixes_of m)) found2
hanging_too m found found2 s e all h =
    subst (AllByRecursion (IsHanging (suffixes_of m))) (sym e) (all_joined (IsHanging (suffixes_of m)) found (item.Stub s ∷ []) all (h, tt))
