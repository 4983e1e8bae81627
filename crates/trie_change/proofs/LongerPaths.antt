-- The paths of items beside a stub, and the suffixes for which they stand.
use Rattle.std.proofs.Common.{◌≡◌, ℕ, true, false, List, [], ◌∷◌, ◌++◌, refl, ap, sym, ◌∙◌, inl, inr, append_assoc}
use Rattle.std.specs.Prelude.{nat_eq}
use Rattle.std.specs.List.{starts_with}
use Rattle.trie_model.specs.Trie.{Suffix, below, with_prefix}
use Rattle.trie_read.proofs.Among.{Among}
use Rattle.trie_change.specs.Frontier.{IsItem, is_at_stub, suffixes_for, item_path}
use Rattle.trie_change.specs.Item.{Item}
use Rattle.trie_change.specs.Item as item
use Rattle.trie_change.proofs.Disjoint.{begins, goes_on_from}
use Rattle.trie_change.proofs.SortedParts.{one_begins, there_some}

pub first_there : (p : List ℕ) (us : List Suffix) → (us ≡ [] → ⊥) → (v : Suffix) × Among v (with_prefix p us)
first_there p [] some = absurd (some refl)
first_there p (u ∷ us) some = ((p ++ u.0, u.1), inl refl)

pub goes_after : (p : List ℕ) (us : List Suffix) (v : Suffix) → Among v (with_prefix p us) → (r : List ℕ) × (v.0 ≡ p ++ r)
goes_after p [] v a = absurd a
goes_after p (u ∷ us) v (inl e) = (u.0, ap (λ (x : Suffix). x.0) (sym e))
goes_after p (u ∷ us) v (inr a) = goes_after p us v a

pub begins_longer : (q r x : List ℕ) → x ≡ q ++ r → starts_with nat_eq x q ≡ true
begins_longer q r x e = ap (λ (z : List ℕ). starts_with nat_eq z q) e ∙ begins q r

pub begins_through : (q p x : List ℕ) → starts_with nat_eq p q ≡ true → starts_with nat_eq x p ≡ true → starts_with nat_eq x q ≡ true
begins_through q p x h k =
    let one : (r : List ℕ) × (p ≡ q ++ r) = goes_on_from p q h in
    let two : (r : List ℕ) × (x ≡ p ++ r) = goes_on_from x p k in
    begins_longer q (one.0 ++ two.0) x (two.1 ∙ ap (λ (z : List ℕ). z ++ two.0) one.1 ∙ append_assoc q one.0 two.0)

module _ (ss : List Suffix) (p q : List ℕ) (y : ℕ) (path : p ≡ q ++ y ∷ []) where
  pub item_some : (a : Item) → IsItem ss a → is_at_stub p a ≡ false → (v : Suffix) × Among v (suffixes_for ss a)
  item_some (item.Entry e) is off = ((e.path.items, e.value), inl refl)
  item_some (item.Stub s) is off = elim is.some [
    | inl root ↦ let no : true ≡ false = ap (starts_with nat_eq p) (sym root) ∙ off in absurd cc
    | inr some ↦ first_there s.path.items (below s.path.items ss) some
  ]

  -- an item that stands for something that goes on with some nibbles short of the path does so itself
  pub item_goes_through : (a : Item) (v : Suffix) → Among v (suffixes_for ss a) → starts_with nat_eq v.0 q ≡ true → is_at_stub p a ≡ false
      → starts_with nat_eq (item_path a) q ≡ true
  item_goes_through (item.Entry e) v (inl same) h off = ap (λ (x : Suffix). starts_with nat_eq x.0 q) same ∙ h
  item_goes_through (item.Entry e) v (inr a) h off = absurd a
  item_goes_through (item.Stub s) v a h off =
      let further : (r : List ℕ) × (v.0 ≡ s.path.items ++ r) = goes_after s.path.items (below s.path.items ss) v a in
      elim (one_begins s.path.items q further.0 (ap (λ (x : List ℕ). starts_with nat_eq x q) (sym further.1) ∙ h)) [
        | inl does ↦ does
        | inr above ↦
            let at : true ≡ false = sym (begins_through s.path.items q p above (begins_longer q (y ∷ []) p path)) ∙ off in absurd cc
      ]

  pub item_there : (a : Item) → IsItem ss a → is_at_stub p a ≡ false → starts_with nat_eq (item_path a) q ≡ true → below q (suffixes_for ss a) ≡ [] → ⊥
  item_there (item.Entry e) is off h none = there_some q ((e.path.items, e.value) ∷ []) (e.path.items, e.value) (inl refl) h none
  item_there (item.Stub s) is off h none =
      let one : (v : Suffix) × Among v (with_prefix s.path.items (below s.path.items ss)) = item_some (item.Stub s) is off in
      let further : (r : List ℕ) × (one.0.0 ≡ s.path.items ++ r) = goes_after s.path.items (below s.path.items ss) one.0 one.1 in
      there_some q (with_prefix s.path.items (below s.path.items ss)) one.0 one.1
      (begins_through q s.path.items one.0.0 h (begins_longer s.path.items further.0 one.0.0 further.1)) none
