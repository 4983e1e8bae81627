-- What stays of a list below a prefix: the order, and what holds of each suffix.
use Rattle.std.proofs.Common.{◌≡◌, ℕ, true, false, eqb, cond, List, [], ◌∷◌, Option, Some, None, T, refl, subst, sym, inl, inr}
use Rattle.std.specs.Ordering.{nat_cmp, is_lt, ordering_then}
use Rattle.std.specs.Cmp.Lexicographic.{slice_cmp}
use Rattle.std.specs.FinMap.{is_sorted}
use Rattle.std.specs.List.{AllByRecursion, cons_option}
use Rattle.std.specs.Option.{option_map}
use Rattle.std.proofs.lemmas.Bool.Decides.{eqb_tells}
use Rattle.trie_model.specs.Trie.{Suffix, after_prefix, below}
use Rattle.trie_root.proofs.Ends.{below_all, first_of_and, second_of_and}
use Rattle.trie_root.proofs.Stripped.{and, tied}

lt_of_rest : (i m : ℕ) (ks ms : List ℕ) → i ≡ m → T (is_lt (slice_cmp nat_cmp (i ∷ ks) (m ∷ ms))) → T (is_lt (slice_cmp nat_cmp ks ms))
lt_of_rest i m ks ms e h =
    subst (λ o. T (is_lt (ordering_then o (slice_cmp nat_cmp ks ms)))) (tied i m e) h

-- a key is below what follows a nibble, where with the nibble it is below all
pub below_all-nibble : (i : ℕ) (ks : List ℕ) (ss : List Suffix) → T (below_all (i ∷ ks) ss) → T (below_all ks (below (i ∷ []) ss))
below_all-nibble i ks [] b = tt
below_all-nibble i ks (([], v) ∷ ss) b = absurd b
below_all-nibble i ks ((m ∷ ms, v) ∷ ss) b =
    let others : T (below_all ks (below (i ∷ []) ss)) = below_all-nibble i ks ss (second_of_and (is_lt (slice_cmp nat_cmp (i ∷ ks) (m ∷ ms))) _ b) in
    elim (eqb_tells i m) [
      | inl t ↦
          let same : eqb i m ≡ true = t.0 in
          rw same (and _ _ (lt_of_rest i m ks ms t.1 (first_of_and _ (below_all (i ∷ ks) ss) b)) others)
      | inr f ↦ let other : eqb i m ≡ false = f.0 in rw other others
    ]

-- a sorted list stays sorted below a nibble
pub is_sorted-nibble : (i : ℕ) (ss : List Suffix) → T (is_sorted (slice_cmp nat_cmp) ss) → T (is_sorted (slice_cmp nat_cmp) (below (i ∷ []) ss))
is_sorted-nibble i [] s = tt
is_sorted-nibble i (([], v) ∷ ss) s = is_sorted-nibble i ss (second_of_and (below_all [] ss) _ s)
is_sorted-nibble i ((m ∷ ms, v) ∷ ss) s =
    let others : T (is_sorted (slice_cmp nat_cmp) (below (i ∷ []) ss)) = is_sorted-nibble i ss (second_of_and (below_all (m ∷ ms) ss) _ s) in
    elim (eqb_tells i m) [
      | inl t ↦
          let same : eqb i m ≡ true = t.0 in
          let least : T (below_all (i ∷ ms) ss) = subst (λ (k : ℕ). T (below_all (k ∷ ms) ss)) (sym t.1) (first_of_and _ (is_sorted (slice_cmp nat_cmp) ss) s) in
          rw same (and _ _ (below_all-nibble i ms ss least) others)
      | inr f ↦ let other : eqb i m ≡ false = f.0 in rw other others
    ]

-- what holds of a suffix, and then of it without its first nibble
abbrev pub StaysShorter : (Suffix → Type 0) → Type 0
StaysShorter P = (n : ℕ) (ns v : List ℕ) → P (n ∷ ns, v) → P (ns, v)

after_keeps : (P : Suffix → Type 0) → StaysShorter P → (p ns v rest : List ℕ) → after_prefix p ns ≡ Some rest → P (ns, v) → P (rest, v)
after_keeps P shorter [] ns v rest e h = let same : ns ≡ rest = cc in subst (λ (k : List ℕ). P (k, v)) same h
after_keeps P shorter (x ∷ p) [] v rest e h = absurd cc
after_keeps P shorter (x ∷ p) (n ∷ ns) v rest e h =
    elim (eqb x n) as (λ b. (cond b (after_prefix p ns) None ≡ Some rest) → P (rest, v)) [
      | true ↦ λ found. after_keeps P shorter p ns v rest found (shorter n ns v h)
      | false ↦ λ found. absurd cc
    ] e

one_more : (P : Suffix → Type 0) (v : List ℕ) (rest : Option (List ℕ)) (others : List Suffix) → ((r : List ℕ) → rest ≡ Some r → P (r, v))
    → AllByRecursion P others → AllByRecursion P (cons_option (option_map (λ (r : List ℕ). (r, v)) rest) others)
one_more P v None others h k = k
one_more P v (Some r) others h k = (h r refl, k)

pub all_below : (P : Suffix → Type 0) → StaysShorter P → (q : List ℕ) (ss : List Suffix) → AllByRecursion P ss → AllByRecursion P (below q ss)
all_below P shorter q [] a = tt
all_below P shorter q (s ∷ ss) a =
    one_more P s.1 (after_prefix q s.0) (below q ss) (λ r e. after_keeps P shorter q s.0 s.1 r e a.0) (all_below P shorter q ss a.1)
