-- Parts of a sorted list, and the suffixes that go on with one nibble.
use Rattle.std.proofs.Common.{◌≡◌, ℕ, ◌<◌, true, false, eqb, List, [], ◌∷◌, ◌++◌, map, None, T, refl, sym, ◌∙◌, inl, inr, arith, eq-eqb}
use Rattle.std.specs.Ordering.{nat_cmp, is_lt}
use Rattle.std.specs.Cmp.Lexicographic.{slice_cmp}
use Rattle.std.specs.FinMap.{is_sorted}
use Rattle.std.proofs.lemmas.Bool.{cases_lt}
use Rattle.trie_model.specs.Trie.{Suffix, after_prefix, below}
use Rattle.trie_root.proofs.Ends.{below_all, first_of_and, second_of_and}
use Rattle.trie_root.proofs.Prefixes.{Begins, begins_parts, without}
use Rattle.trie_root.proofs.Rows.{none_with_lower, unlike}
use Rattle.trie_root.proofs.Stripped.{AllBegin, and}

below_all-front : (k : List ℕ) (xs ys : List Suffix) → T (below_all k (xs ++ ys)) → T (below_all k xs)
below_all-front k [] ys h = tt
below_all-front k (x ∷ xs) ys h =
    and _ _ (first_of_and (is_lt (slice_cmp nat_cmp k x.0)) (below_all k (xs ++ ys)) h)
    (below_all-front k xs ys (second_of_and (is_lt (slice_cmp nat_cmp k x.0)) (below_all k (xs ++ ys)) h))

pub is_sorted-front : (xs ys : List Suffix) → T (is_sorted (slice_cmp nat_cmp) (xs ++ ys)) → T (is_sorted (slice_cmp nat_cmp) xs)
is_sorted-front [] ys h = tt
is_sorted-front (x ∷ xs) ys h =
    and _ _ (below_all-front x.0 xs ys (first_of_and (below_all x.0 (xs ++ ys)) (is_sorted (slice_cmp nat_cmp) (xs ++ ys)) h))
    (is_sorted-front xs ys (second_of_and (below_all x.0 (xs ++ ys)) (is_sorted (slice_cmp nat_cmp) (xs ++ ys)) h))

pub is_sorted-back : (xs ys : List Suffix) → T (is_sorted (slice_cmp nat_cmp) (xs ++ ys)) → T (is_sorted (slice_cmp nat_cmp) ys)
is_sorted-back [] ys h = h
is_sorted-back (x ∷ xs) ys h = is_sorted-back xs ys (second_of_and (below_all x.0 (xs ++ ys)) (is_sorted (slice_cmp nat_cmp) (xs ++ ys)) h)

pub all_with : (i : ℕ) (ss : List Suffix) → AllBegin (i ∷ []) ss → below (i ∷ []) ss ≡ map (without 1) ss
all_with i [] h = refl
all_with i (s ∷ ss) h = rw (h.0.rest, all_with i ss h.1)

other_next : (i j : ℕ) (ns : List ℕ) → (j ≡ i → ⊥) → Begins (i ∷ []) ns → after_prefix (j ∷ []) ns ≡ None
other_next i j [] h b = refl
other_next i j (n ∷ ns) h b = let e : eqb j n ≡ false = unlike j n (λ s. h (s ∙ sym (begins_parts i n [] ns b).0)) in rw e

pub none_with_other : (i j : ℕ) (ss : List Suffix) → (j ≡ i → ⊥) → AllBegin (i ∷ []) ss → below (j ∷ []) ss ≡ []
none_with_other i j [] h b = refl
none_with_other i j (s ∷ ss) h b = rw (other_next i j s.0 h b.0, none_with_other i j ss h b.1)

-- where the first goes on with another nibble, and none with a lower one, there is none with the nibble
pub none_after : (i n : ℕ) (ns v : List ℕ) (ss : List Suffix) → T (below_all (n ∷ ns) ss) → (n ≡ i → ⊥)
    → ((j : ℕ) → j < i → below (j ∷ []) ((n ∷ ns, v) ∷ ss) ≡ []) → below (i ∷ []) ((n ∷ ns, v) ∷ ss) ≡ []
none_after i n ns v ss b differ past =
    elim (cases_lt i n) [
      | inl lower ↦ let other : eqb i n ≡ false = unlike i n (λ s. differ (sym s)) in rw (other, none_with_lower i n ns ss lower b)
      | inr upper ↦
          let same : eqb n n ≡ true = eq-eqb n n refl in
          let lower : n < i = elim (cases_lt n i) [ inl l ↦ l | inr u ↦ absurd (differ (omega arith)) ] in
          let none = rw same at (past n lower) in absurd cc
    ]
