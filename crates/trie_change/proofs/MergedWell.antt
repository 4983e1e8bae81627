-- Items and settings in order make items in order, which stand for what was there with what is set over it.
use Rattle.std.proofs.Common.{◌≡◌, ℕ, true, false, List, [], ◌∷◌, ◌++◌, T, refl, ap, subst, sym, ◌∙◌, inl, inr}
use Rattle.std.proofs.lemmas.List.{append-nil}
use Rattle.std.specs.Prelude.{nat_eq}
use Rattle.std.specs.List.{AllByRecursion, starts_with}
use Rattle.std.specs.declared.cmp.Ordering.TheVariants.{Less, Greater}
use Rattle.std.specs.FinMap.{is_sorted}
use Rattle.trie_model.specs.Trie.{Suffix, below}
use Rattle.trie_read.proofs.Among.{Among, among_either}
use Rattle.trie_read.proofs.Rising.{all_weaker}
use Rattle.trie_change.specs.Frontier.{IsItem, is_at_stub, suffixes_for, item_path}
use Rattle.trie_change.specs.Item.{Item}
use Rattle.trie_change.specs.Item as item
use Rattle.trie_change.specs.declared.settings.Setting.{Setting}
use Rattle.trie_change.specs.inner.InOrder.{set_pair}
use Rattle.trie_change.specs.inner.Merged.{IsBelowKey, IsMerged, comes_in, is_replaced, no_more_set, nothing_left, stays_above}
use Rattle.trie_change.proofs.LongerPaths.{begins_longer, first_there, goes_after}
use Rattle.trie_change.proofs.MergedComing.{comes}
use Rattle.trie_change.proofs.MergedSteps.{IsMergedWell, Setted, pairs_more, replaced, rising, rising_more, rising_pairs, stays}
use Rattle.trie_change.proofs.Orders.{below_longer, flipped, front_sorted, key_cmp, longer_below, precedes, through}

-- no key that is set goes on with a stub's path
abbrev pub IsClear : List Setting → Item → Type 0
IsClear settings i = AllByRecursion (λ (s : Setting). is_at_stub s.path.items i ≡ false) settings

begins_itself : (p q : List ℕ) → p ≡ q → starts_with nat_eq q p ≡ true
begins_itself p q e = begins_longer p [] q (sym e ∙ sym (append-nil p))

front_items : (ss : List Suffix) (i : Item) (items : List Item) → T (is_sorted key_cmp (rising ss (i ∷ items))) → T (is_sorted key_cmp (rising ss items))
front_items ss i items h = front_sorted (rising ss items) (suffixes_for ss i) (subst (λ (us : List Suffix). T (is_sorted key_cmp us)) (rising_more ss i items) h)

front_pairs : (s : Setting) (settings : List Setting) → T (is_sorted key_cmp (rising_pairs (s ∷ settings))) → T (is_sorted key_cmp (rising_pairs settings))
front_pairs s settings h = front_sorted (rising_pairs settings) (set_pair s ∷ []) (subst (λ (ys : List Setted). T (is_sorted key_cmp ys)) (pairs_more s settings) h)

-- an item above the greatest key that is set is above all
above_all : (ss : List Suffix) (i : Item) (s : Setting) (settings : List Setting) → T (is_sorted key_cmp (rising_pairs (s ∷ settings)))
    → key_cmp (item_path i) s.path.items ≡ Greater → (e : Suffix) → Among e (suffixes_for ss i) → (y : Setted) → Among y (rising_pairs (s ∷ settings)) → key_cmp y.0 e.0 ≡ Less
above_all ss i s settings h g e ie y iy =
    elim (among_either y (rising_pairs settings) (set_pair s ∷ []) (subst (Among y) (pairs_more s settings) iy)) [
      | inl earlier ↦
          through y.0 s.path.items e.0
          (precedes (rising_pairs settings) (set_pair s ∷ []) y (set_pair s) (subst (λ (ys : List Setted). T (is_sorted key_cmp ys)) (pairs_more s settings) h) earlier (inl refl))
          (over i g ie)
      | inr last ↦ elim last [ inl same ↦ ap (λ (z : Setted). key_cmp z.0 e.0) (sym same) ∙ over i g ie | inr none ↦ absurd none ]
    ]
  where
    over : (j : Item) → key_cmp (item_path j) s.path.items ≡ Greater → Among e (suffixes_for ss j) → key_cmp s.path.items e.0 ≡ Less
    over (item.Entry k) g (inl same) = ap (λ (z : Suffix). key_cmp s.path.items z.0) (sym same) ∙ flipped k.path.items s.path.items g
    over (item.Entry k) g (inr none) = absurd none
    over (item.Stub t) g a =
        let further : (r : List ℕ) × (e.0 ≡ t.path.items ++ r) = goes_after t.path.items (below t.path.items ss) e a in
        ap (key_cmp s.path.items) further.1 ∙ below_longer s.path.items t.path.items further.0 (flipped t.path.items s.path.items g)

-- where the last item is below a key, all are
lower_one : (ss : List Suffix) (i : Item) (s : Setting) → is_at_stub s.path.items i ≡ false → key_cmp (item_path i) s.path.items ≡ Less
    → (e : Suffix) → Among e (suffixes_for ss i) → key_cmp e.0 s.path.items ≡ Less
lower_one ss (item.Entry k) s off l e (inl same) = ap (λ (z : Suffix). key_cmp z.0 s.path.items) (sym same) ∙ l
lower_one ss (item.Entry k) s off l e (inr none) = absurd none
lower_one ss (item.Stub t) s off l e a =
    let further : (r : List ℕ) × (e.0 ≡ t.path.items ++ r) = goes_after t.path.items (below t.path.items ss) e a in
    ap (λ (z : List ℕ). key_cmp z s.path.items) further.1 ∙ longer_below t.path.items further.0 s.path.items l off

some_for : (ss : List Suffix) (i : Item) (s : Setting) → IsItem ss i → is_at_stub s.path.items i ≡ false → (v : Suffix) × Among v (suffixes_for ss i)
some_for ss (item.Entry k) s is off = ((k.path.items, k.value), inl refl)
some_for ss (item.Stub t) s is off = elim is.some [
  | inl root ↦ let no : true ≡ false = ap (starts_with nat_eq s.path.items) (sym root) ∙ off in absurd cc
  | inr some ↦ first_there t.path.items (below t.path.items ss) some
]

lower_all : (ss : List Suffix) (items : List Item) (s : Setting) → T (is_sorted key_cmp (rising ss items)) → AllByRecursion (IsItem ss) items
    → AllByRecursion (λ (i : Item). is_at_stub s.path.items i ≡ false) items → IsBelowKey s items → (e : Suffix) → Among e (rising ss items) → key_cmp e.0 s.path.items ≡ Less
lower_all ss [] s h are off b e a = absurd a
lower_all ss (i ∷ items) s h are off b e a =
    elim (among_either e (rising ss items) (suffixes_for ss i) (subst (Among e) (rising_more ss i items) a)) [
      | inr here ↦ lower_one ss i s off.0 b e here
      | inl earlier ↦
          let v : (v : Suffix) × Among v (suffixes_for ss i) = some_for ss i s are.0 off.0 in
          through e.0 v.0.0 s.path.items
          (precedes (rising ss items) (suffixes_for ss i) e v.0 (subst (λ (us : List Suffix). T (is_sorted key_cmp us)) (rising_more ss i items) h) earlier v.1)
          (lower_one ss i s off.0 b v.0 v.1)
    ]

not_a_stub : (ss : List Suffix) (i : Item) (items : List Item) (s : Setting) (settings : List Setting) (merged : List Item) → item_path i ≡ s.path.items
    → is_at_stub s.path.items i ≡ false → IsMergedWell ss items (s ∷ settings) merged → IsMergedWell ss (i ∷ items) (s ∷ settings) merged
not_a_stub ss (item.Entry k) items s settings merged e off w = replaced ss k items s settings merged e w
not_a_stub ss (item.Stub t) items s settings merged e off w =
    let no : true ≡ false = sym (begins_itself t.path.items s.path.items e) ∙ off in absurd cc

nothing_well : (ss : List Suffix) → IsMergedWell ss [] [] []
nothing_well ss = record { sorted = tt; found = λ q. refl; bounded = λ b f g e ie. f e ie; stubs = refl }

pub merged_well : (ss : List Suffix) (items : List Item) (settings : List Setting) (merged : List Item) → IsMerged items settings merged
    → T (is_sorted key_cmp (rising ss items)) → T (is_sorted key_cmp (rising_pairs settings)) → AllByRecursion (IsItem ss) items → AllByRecursion (IsClear settings) items
    → IsMergedWell ss items settings merged
merged_well ss items settings merged nothing_left h g are clear = nothing_well ss
merged_well ss items settings merged (no_more_set i rest made m) h g are clear =
    stays ss i rest [] made h (λ e ie y iy. absurd iy) (merged_well ss rest [] made m (front_items ss i rest h) g are.1 clear.1)
merged_well ss items settings merged (stays_above i rest s others made above m) h g are clear =
    stays ss i rest (s ∷ others) made h (above_all ss i s others g above) (merged_well ss rest (s ∷ others) made m (front_items ss i rest h) g are.1 clear.1)
merged_well ss items settings merged (is_replaced i rest s others made same m) h g are clear =
    not_a_stub ss i rest s others made same clear.0.0 (merged_well ss rest (s ∷ others) made m (front_items ss i rest h) g are.1 clear.1)
merged_well ss items settings merged (comes_in these s others made b m) h g are clear =
    comes ss s these others made g
    (lower_all ss these s h are (all_weaker (IsClear (s ∷ others)) (λ (i : Item). is_at_stub s.path.items i ≡ false) (λ i c. c.0) these clear) b)
    (merged_well ss these others made m h (front_pairs s others g) are (all_weaker (IsClear (s ∷ others)) (IsClear others) (λ i c. c.1) these clear))
