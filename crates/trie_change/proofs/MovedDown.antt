-- Items that are moved from the end of those found, and what they make with what is set.
use Rattle.std.proofs.Common.{◌≡◌, ℕ, List, [], ◌∷◌, ◌++◌, reverse, ap, subst, sym, ◌∙◌, append_assoc}
use Rattle.std.specs.Ordering.{nat_cmp}
use Rattle.std.specs.Cmp.Lexicographic.{slice_cmp}
use Rattle.std.specs.declared.cmp.Ordering.TheVariants.{Equal, Greater}
use Rattle.std.specs.FinMap.{nat_cmp-IsAntisymmetric, slice_cmp-IsAntisymmetric}
use Rattle.std.proofs.lemmas.List.{reverse-append}
use Rattle.trie_change.specs.Item.{Item}
use Rattle.trie_change.specs.inner.Merged.{IsMerged, IsMovedDown, is_replaced, stays_above}
use Rattle.trie_change.specs.Frontier.{item_path}

last_first : (found less : List Item) (i : Item) → found ≡ less ++ i ∷ [] → i ∷ reverse less ≡ reverse found
last_first found less i e = sym (ap reverse e ∙ reverse-append less (i ∷ []))

pub one_kept : (key : List ℕ) (found later found2 later2 less : List Item) (i : Item) → IsMovedDown key found later found2 later2 → found2 ≡ less ++ i ∷ []
    → slice_cmp nat_cmp (item_path i) key ≡ Greater → IsMovedDown key found later less (later2 ++ i ∷ [])
one_kept key found later found2 later2 less i d e above = record {
  moved = d.moved ++ i ∷ [];
  later_is = ap (λ (xs : List Item). xs ++ i ∷ []) d.later_is ∙ append_assoc later d.moved (i ∷ []);
  merges = λ s settings rest is m.
      subst (λ (xs : List Item). IsMerged (reverse found) (s ∷ settings) xs) (sym (append_assoc d.moved (i ∷ []) rest))
      (d.merges s settings (i ∷ rest) is
      (subst (λ (xs : List Item). IsMerged xs (s ∷ settings) (i ∷ rest)) (last_first found2 less i e)
      (stays_above i (reverse less) s settings rest (ap (slice_cmp nat_cmp (item_path i)) is ∙ above) m)));
}

pub one_dropped : (key : List ℕ) (found later found2 later2 less : List Item) (i : Item) → IsMovedDown key found later found2 later2 → found2 ≡ less ++ i ∷ []
    → slice_cmp nat_cmp (item_path i) key ≡ Equal → IsMovedDown key found later less later2
one_dropped key found later found2 later2 less i d e same = record {
  moved = d.moved;
  later_is = d.later_is;
  merges = λ s settings rest is m.
      d.merges s settings rest is
      (subst (λ (xs : List Item). IsMerged xs (s ∷ settings) rest) (last_first found2 less i e)
      (is_replaced i (reverse less) s settings rest (slice_cmp-IsAntisymmetric nat_cmp-IsAntisymmetric (item_path i) key same ∙ sym is) m));
}
