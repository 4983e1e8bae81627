-- A key that is set comes in after the items below it.
use Rattle.std.proofs.Common.{◌≡◌, ℕ, Bool, true, false, cond, List, [], ◌∷◌, ◌++◌, reverse, Option, Some, None, T, refl, ap, ap₂, subst, sym, ◌∙◌, inl, inr}
use Rattle.std.specs.Ordering.{eq_by_cmp, is_eq}
use Rattle.std.specs.declared.cmp.Ordering.TheVariants.{Less, Equal, Greater}
use Rattle.std.specs.FinMap.{find, is_sorted}
use Rattle.std.proofs.lemmas.List.{append-nil}
use Rattle.trie_model.specs.Trie.{Suffix}
use Rattle.trie_read.proofs.Among.{Among, among_either, among_left, among_right}
use Rattle.trie_change.specs.Item.{Item}
use Rattle.trie_change.specs.Item as item
use Rattle.trie_change.specs.declared.settings.Setting.{Setting}
use Rattle.trie_change.specs.inner.InOrder.{set_pair, stubs_of}
use Rattle.trie_change.specs.inner.Merged.{set_item}
use Rattle.trie_change.proofs.Orders.{found_joined, joined_sorted, key_cmp, not_found_below, or_else, precedes}
use Rattle.trie_change.proofs.MergedSteps.{IsMergedWell, Setted, or_not_set, or_nothing, overlaid, pairs_more, rising, rising_more, rising_pairs, same_key, stubs_more}

-- the suffix of a key that is set to a value
abbrev set_suffix : List ℕ → Option (List ℕ) → List Suffix
set_suffix k None = []
set_suffix k (Some v) = (k, v) ∷ []

equal_from : (a b : List ℕ) → eq_by_cmp key_cmp a b ≡ true → key_cmp a b ≡ Equal
equal_from a b e = elim (key_cmp a b) as (λ o. is_eq o ≡ true → o ≡ Equal) [ Less ↦ λ h. absurd cc | Equal ↦ λ h. refl | Greater ↦ λ h. absurd cc ] e

found_itself : (q k : List ℕ) (v : Option (List ℕ)) → eq_by_cmp key_cmp q k ≡ true → find key_cmp q (set_suffix k v) ≡ v
found_itself q k None e = refl
found_itself q k (Some x) e = ap (λ t. cond t (Some x) None) e

found_no_other : (q k : List ℕ) (v : Option (List ℕ)) → eq_by_cmp key_cmp q k ≡ false → find key_cmp q (set_suffix k v) ≡ None
found_no_other q k None e = refl
found_no_other q k (Some x) e = ap (λ t. cond t (Some x) None) e

sorted_one : (k : List ℕ) (v : Option (List ℕ)) → T (is_sorted key_cmp (set_suffix k v))
sorted_one k None = tt
sorted_one k (Some x) = tt

only_one : (k : List ℕ) (v : Option (List ℕ)) (e : Suffix) → Among e (set_suffix k v) → e.0 ≡ k
only_one k None e a = absurd a
only_one k (Some x) e (inl h) = ap (λ (y : Suffix). y.0) (sym h)
only_one k (Some x) e (inr a) = absurd a

module _ (ss : List Suffix) (s : Setting) (items : List Item) (settings : List Setting) (merged : List Item)
    (ordered : T (is_sorted key_cmp (rising_pairs (s ∷ settings)))) (lower : (e : Suffix) → Among e (rising ss items) → key_cmp e.0 s.path.items ≡ Less)
    (w : IsMergedWell ss items settings merged) where
  pairs : T (is_sorted key_cmp (rising_pairs settings ++ set_pair s ∷ []))
  pairs = subst (λ (ys : List Setted). T (is_sorted key_cmp ys)) (pairs_more s settings) ordered

  set_lower : (y : Setted) → Among y (rising_pairs settings) → key_cmp y.0 s.path.items ≡ Less
  set_lower y iy = precedes (rising_pairs settings) (set_pair s ∷ []) y (set_pair s) pairs iy (inl refl)

  its_items : (v : Option (List ℕ)) → rising ss (set_item s v ++ merged) ≡ rising ss merged ++ set_suffix s.path.items v
  its_items None = sym (append-nil (rising ss merged))
  its_items (Some x) = rising_more ss (item.Entry (record { path = s.path; value = x })) merged

  its_stubs : (v : Option (List ℕ)) → stubs_of (reverse (set_item s v ++ merged)) ≡ stubs_of (reverse merged)
  its_stubs None = refl
  its_stubs (Some x) = stubs_more (item.Entry (record { path = s.path; value = x })) merged ∙ append-nil (stubs_of (reverse merged))

  merged_lower : (e : Suffix) → Among e (rising ss merged) → key_cmp e.0 s.path.items ≡ Less
  merged_lower e ie = w.bounded s.path.items lower set_lower e ie

  pairs_found : (q : List ℕ) → find key_cmp q (rising_pairs (s ∷ settings)) ≡ or_else (find key_cmp q (rising_pairs settings)) (find key_cmp q (set_pair s ∷ []))
  pairs_found q = ap (find key_cmp q) (pairs_more s settings) ∙ found_joined q (rising_pairs settings) (set_pair s ∷ [])

  by_key : (q : List ℕ) (b : Bool) → eq_by_cmp key_cmp q s.path.items ≡ b
      → or_else (find key_cmp q (rising ss merged)) (find key_cmp q (set_suffix s.path.items s.value))
      ≡ overlaid (find key_cmp q (rising_pairs (s ∷ settings))) (find key_cmp q (rising ss items))
  by_key q true e =
      let is : q ≡ s.path.items = same_key q s.path.items (equal_from q s.path.items e) in
      let none : find key_cmp q (rising ss merged) ≡ None =
      not_found_below q (rising ss merged) (λ b ib. ap (key_cmp b.0) is ∙ merged_lower b ib) in
      let no_pair : find key_cmp q (rising_pairs settings) ≡ None =
      not_found_below q (rising_pairs settings) (λ y iy. ap (key_cmp y.0) is ∙ set_lower y iy) in
      let last : find key_cmp q (set_pair s ∷ []) ≡ Some s.value = ap (λ t. cond t (Some s.value) None) e in
      ap₂ or_else none (found_itself q s.path.items s.value e)
      ∙ ap (λ (o : Option (Option (List ℕ))). overlaid o (find key_cmp q (rising ss items))) (sym (pairs_found q ∙ ap₂ or_else no_pair last))
  by_key q false e =
      let last : find key_cmp q (set_pair s ∷ []) ≡ None = ap (λ t. cond t (Some s.value) None) e in
      ap (or_else (find key_cmp q (rising ss merged))) (found_no_other q s.path.items s.value e) ∙ or_nothing (find key_cmp q (rising ss merged)) ∙ w.found q
      ∙ ap (λ (o : Option (Option (List ℕ))). overlaid o (find key_cmp q (rising ss items)))
      (sym (pairs_found q ∙ ap (or_else (find key_cmp q (rising_pairs settings))) last ∙ or_not_set (find key_cmp q (rising_pairs settings))))

  pub comes : IsMergedWell ss items (s ∷ settings) (set_item s s.value ++ merged)
  comes = record {
    sorted = subst (λ (us : List Suffix). T (is_sorted key_cmp us)) (sym (its_items s.value))
        (joined_sorted (rising ss merged) (set_suffix s.path.items s.value) w.sorted (sorted_one s.path.items s.value)
        (λ a b ia ib. ap (key_cmp a.0) (only_one s.path.items s.value b ib) ∙ merged_lower a ia));
    found = λ q. ap (find key_cmp q) (its_items s.value) ∙ found_joined q (rising ss merged) (set_suffix s.path.items s.value)
        ∙ by_key q (eq_by_cmp key_cmp q s.path.items) refl;
    bounded = λ b f g e ie. elim (among_either e (rising ss merged) (set_suffix s.path.items s.value) (subst (Among e) (its_items s.value) ie)) [
      | inl a ↦ w.bounded b f (λ y iy. g y (subst (Among y) (sym (pairs_more s settings)) (among_left y (rising_pairs settings) (set_pair s ∷ []) iy))) e a
      | inr a ↦ ap (λ (k : List ℕ). key_cmp k b) (only_one s.path.items s.value e a)
          ∙ g (set_pair s) (subst (Among (set_pair s)) (sym (pairs_more s settings)) (among_right (set_pair s) (rising_pairs settings) (set_pair s ∷ []) (inl refl)))
    ];
    stubs = its_stubs s.value ∙ w.stubs;
  }
