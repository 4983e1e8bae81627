-- Items that stand for sorted suffixes, in their order, come one before the other by their paths.
use Rattle.std.proofs.Common.{◌≡◌, ℕ, suc, ◌<◌, true, false, List, [], ◌∷◌, ◌++◌, length, Option, Some, None, T, refl, ap, subst, sym, ◌∙◌, inl, inr, length-append, arith}
use Rattle.std.specs.List.{AllByRecursion, cons_option, flat_map}
use Rattle.std.specs.Option.{option_map}
use Rattle.std.specs.Ordering.{is_lt, nat_cmp}
use Rattle.std.specs.Cmp.Lexicographic.{slice_cmp}
use Rattle.std.specs.FinMap.{is_sorted}
use Rattle.std.proofs.lemmas.Slice.Eq.{bytes_eq-Decides}
use Rattle.trie_model.specs.Trie.{Suffix, after_prefix, below, with_prefix}
use Rattle.trie_root.proofs.Ends.{below_all, first_of_and, second_of_and}
use Rattle.trie_root.proofs.Fronts.{is_sorted-back}
use Rattle.trie_read.proofs.Among.{Among, among_left, among_right}
use Rattle.trie_read.proofs.Hanging.{below-nil}
use Rattle.trie_read.proofs.Ways.{put_back}
use Rattle.trie_change.specs.Frontier.{IsItem, suffixes_for, item_path}
use Rattle.trie_change.specs.Item.{Item}
use Rattle.trie_change.specs.Item as item
use Rattle.trie_change.specs.inner.Built.{IsHere, IsPastPath, ItemBefore, ItemsRise, PathBefore}
use Rattle.trie_change.proofs.ItemPaths.{is_key}
use Rattle.trie_change.proofs.LowerNodes.{IsLower, lower_differs}
use Rattle.trie_change.proofs.ItemEnds.{FirstOf, first_of}
use Rattle.trie_change.proofs.ApartPaths.{apart_before}

-- ---- suffixes

lower_itself : (a : List ℕ) → IsLower a a → ⊥
lower_itself a h = let both : true ≡ false = sym ((bytes_eq-Decides a a).1 refl) ∙ lower_differs a a h in cc

all_among : (k : List ℕ) (ss : List Suffix) (s : Suffix) → T (below_all k ss) → Among s ss → IsLower k s.0
all_among k [] s b a = absurd a
all_among k (t ∷ ss) s b (inl e) = subst (λ (u : Suffix). IsLower k u.0) e (first_of_and _ (below_all k ss) b)
all_among k (t ∷ ss) s b (inr a) = all_among k ss s (second_of_and (is_lt (slice_cmp nat_cmp k t.0)) _ b) a

-- what stands before in a sorted list is lower
lower_joined : (xs ys : List Suffix) (s t : Suffix) → T (is_sorted (slice_cmp nat_cmp) (xs ++ ys)) → Among s xs → Among t ys → IsLower s.0 t.0
lower_joined [] ys s t h a b = absurd a
lower_joined (x ∷ xs) ys s t h (inl e) b =
    subst (λ (u : Suffix). IsLower u.0 t.0) e
    (all_among x.0 (xs ++ ys) t (first_of_and (below_all x.0 (xs ++ ys)) (is_sorted (slice_cmp nat_cmp) (xs ++ ys)) h) (among_right t xs ys b))
lower_joined (x ∷ xs) ys s t h (inr a) b = lower_joined xs ys s t (second_of_and (below_all x.0 (xs ++ ys)) (is_sorted (slice_cmp nat_cmp) (xs ++ ys)) h) a b

-- what goes on with a prefix stands among those that do
with_its_prefix : (p r : List ℕ) (s : Suffix) (ss : List Suffix) → after_prefix p s.0 ≡ Some r → Among s ss → Among s (with_prefix p (below p ss))
with_its_prefix p r s [] e a = absurd a
with_its_prefix p r s (t ∷ ss) e (inl same) =
    let found : after_prefix p t.0 ≡ Some r = ap (λ (u : Suffix). after_prefix p u.0) same ∙ e in
    let back : (let u : Suffix = (p ++ r, t.1) in u) ≡ s = ap (λ (ns : List ℕ). let u : Suffix = (ns, t.1) in u) (put_back p t.0 r found) ∙ same in
    subst (λ o. Among s (with_prefix p (cons_option (option_map (λ (rest : List ℕ). (rest, t.1)) o) (below p ss)))) (sym found) (inl back)
with_its_prefix p r s (t ∷ ss) e (inr a) = further (after_prefix p t.0) (with_its_prefix p r s ss e a)
  where
    further : (o : Option (List ℕ)) → Among s (with_prefix p (below p ss)) → Among s (with_prefix p (cons_option (option_map (λ (rest : List ℕ). (rest, t.1)) o) (below p ss)))
    further None a = a
    further (Some u) a = inr a

-- ---- items

abbrev IsBelowRoot : Item → Type 0
IsBelowRoot (item.Entry e) = Unit {0}
IsBelowRoot (item.Stub s) = s.path.items ≡ [] → ⊥

past_root : (i : Item) → IsBelowRoot i → IsPastPath [] i
past_root (item.Entry e) h = tt
past_root (item.Stub s) h = by_path s.path.items refl
  where
    by_path : (ns : List ℕ) → s.path.items ≡ ns → (n : ℕ) × (rest : List ℕ) × (s.path.items ≡ n ∷ rest)
    by_path [] e = absurd (h e)
    by_path (n ∷ ns) e = (n, ns, e)

one_before : (ss : List Suffix) (i j : Item) (later : List Suffix) → T (is_sorted (slice_cmp nat_cmp) (suffixes_for ss i ++ later))
    → ((s : Suffix) → Among s (suffixes_for ss i ++ later) → Among s ss) → ((s : Suffix) → Among s (suffixes_for ss j) → Among s later)
    → FirstOf ss i → FirstOf ss j → ItemBefore i j
one_before ss i j later sorted inside within f g =
    let s : Suffix = (item_path i ++ f.rest, f.value) in
    let t : Suffix = (item_path j ++ g.rest, g.value) in
    let here : Among s (suffixes_for ss i) = subst (λ (us : List Suffix). Among s us) (sym f.is) (inl refl) in
    let there : Among t (suffixes_for ss j) = subst (λ (us : List Suffix). Among t us) (sym g.is) (inl refl) in
    let order : IsLower s.0 t.0 = lower_joined (suffixes_for ss i) later s t sorted here (within t there) in
    by_kinds i (apart_before (is_key i) (is_key j) (item_path i) f.rest (item_path j) g.rest order f.ends g.ends
    (λ stub. λ r e. lower_itself t.0 (lower_joined (suffixes_for ss i) later t t sorted (stands i stub t r e (inside t (among_right t (suffixes_for ss i) later (within t there)))) (within t there)))
    (λ stub. λ r e. lower_itself s.0 (lower_joined (suffixes_for ss i) later s s sorted here (within s (stands j stub s r e (inside s (among_left s (suffixes_for ss i) later here)))))))
  where
    stands : (k : Item) → is_key k ≡ false → (u : Suffix) (r : List ℕ) → after_prefix (item_path k) u.0 ≡ Some r → Among u ss → Among u (suffixes_for ss k)
    stands (item.Entry e) stub u r w a = let both : true ≡ false = stub in absurd cc
    stands (item.Stub st) stub u r w a = with_its_prefix st.path.items r u ss w a

    by_kinds : (k : Item) → PathBefore (is_key k) (item_path k) (item_path j) → ItemBefore k j
    by_kinds (item.Entry e) h = h
    by_kinds (item.Stub st) h = h

all_before : (ss : List Suffix) (i : Item) (js : List Item) (later : List Suffix) → T (is_sorted (slice_cmp nat_cmp) (suffixes_for ss i ++ later))
    → ((s : Suffix) → Among s (suffixes_for ss i ++ later) → Among s ss) → ((s : Suffix) → Among s (flat_map (suffixes_for ss) js) → Among s later)
    → FirstOf ss i → AllByRecursion (IsItem ss) js → AllByRecursion IsBelowRoot js → AllByRecursion (ItemBefore i) js
all_before ss i [] later sorted inside within f a b = tt
all_before ss i (j ∷ js) later sorted inside within f a b = (
  one_before ss i j later sorted inside (λ s h. within s (among_left s (suffixes_for ss j) (flat_map (suffixes_for ss) js) h)) f (first_of ss [] j a.0 (past_root j b.0)),
  all_before ss i js later sorted inside (λ s h. within s (among_right s (suffixes_for ss j) (flat_map (suffixes_for ss) js) h)) f a.1 b.1,
)

rise_from : (ss : List Suffix) (is : List Item) → T (is_sorted (slice_cmp nat_cmp) (flat_map (suffixes_for ss) is)) → ((s : Suffix) → Among s (flat_map (suffixes_for ss) is) → Among s ss)
    → AllByRecursion (IsItem ss) is → AllByRecursion IsBelowRoot is → ItemsRise is
rise_from ss [] sorted inside a b = tt
rise_from ss (i ∷ is) sorted inside a b = (
  all_before ss i is (flat_map (suffixes_for ss) is) sorted inside (λ s h. h) (first_of ss [] i a.0 (past_root i b.0)) a.1 b.1,
  rise_from ss is (is_sorted-back (suffixes_for ss i) (flat_map (suffixes_for ss) is) sorted) (λ s h. inside s (among_right s (suffixes_for ss i) (flat_map (suffixes_for ss) is) h)) a.1 b.1,
)

-- ---- no root among others

length_with : (p : List ℕ) (ss : List Suffix) → length (with_prefix p ss) ≡ length ss
length_with p [] = refl
length_with p (s ∷ ss) = ap suc (length_with p ss)

none_is_root : (ss : List Suffix) (is : List Item) → length (flat_map (suffixes_for ss) is) < length ss → AllByRecursion IsBelowRoot is
none_is_root ss [] h = tt
none_is_root ss (i ∷ is) h = (
  not_root i (omega (arith, length-append (suffixes_for ss i) (flat_map (suffixes_for ss) is))),
  none_is_root ss is (omega (arith, length-append (suffixes_for ss i) (flat_map (suffixes_for ss) is))),
)
  where
    not_root : (k : Item) → length (suffixes_for ss k) < length ss → IsBelowRoot k
    not_root (item.Entry e) h = tt
    not_root (item.Stub s) h = λ e. omega (arith, ap (λ (p : List ℕ). length (with_prefix p (below p ss))) e, length_with [] (below [] ss), ap length (below-nil ss))

pub frontier_rises : (ss : List Suffix) (items : List Item) → T (is_sorted (slice_cmp nat_cmp) ss) → AllByRecursion (IsItem ss) items → flat_map (suffixes_for ss) items ≡ ss
    → (IsHere [] items → ⊥) → ItemsRise items
frontier_rises ss [] sorted a whole away = tt
frontier_rises ss (i ∷ is) sorted a whole away =
    let first : IsBelowRoot i = below_root i away in
    let f : FirstOf ss i = first_of ss [] i a.0 (past_root i first) in
    let fewer : length (flat_map (suffixes_for ss) is) < length ss =
    omega (arith, ap length whole, length-append (suffixes_for ss i) (flat_map (suffixes_for ss) is), ap length f.is) in
    rise_from ss (i ∷ is) (subst (λ (us : List Suffix). T (is_sorted (slice_cmp nat_cmp) us)) (sym whole) sorted) (λ s h. subst (λ (us : List Suffix). Among s us) whole h) a (first, none_is_root ss is fewer)
  where
    below_root : (k : Item) → (IsHere [] (k ∷ is) → ⊥) → IsBelowRoot k
    below_root (item.Entry e) h = tt
    below_root (item.Stub s) h = h
