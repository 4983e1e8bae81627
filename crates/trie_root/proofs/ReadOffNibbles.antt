-- Sorted suffixes are the one of no nibbles, and those that go on with each nibble, one after another.
use Rattle.std.proofs.Common.{◌≡◌, ℕ, zero, suc, ◌+◌, ◌<◌, ◌≤◌, true, false, eqb, cond, List, [], ◌∷◌, ◌++◌, length, Option, Some, None, T, refl, ap, ◌∙◌, inl, inr, arith, eq-eqb}
use Rattle.std.specs.Ordering.{nat_cmp, is_lt}
use Rattle.std.specs.Cmp.Lexicographic.{slice_cmp}
use Rattle.std.specs.FinMap.{is_sorted}
use Rattle.std.specs.List.{AllByRecursion, flat_map}
use Rattle.std.proofs.lemmas.Bool.{cases_lt}
use Rattle.trie_model.specs.Trie.{Suffix, with_prefix, below, own_value, every_nibble, value_here}
use Rattle.trie_root.proofs.Ends.{below_all, first_of_and, second_of_and}
use Rattle.trie_root.proofs.ReadOffOrder.{StaysShorter}
use Rattle.trie_root.proofs.Rows.{none_with_lower, unlike}
use Rattle.trie_root.proofs.Stripped.{value_first}

-- a suffix of nibbles
abbrev pub InNibbles : Suffix → Type 0
InNibbles s = AllByRecursion (λ n. n < 16) s.0

pub shorter_in_nibbles : StaysShorter InNibbles
shorter_in_nibbles n ns v h = h.1

-- so many numbers from one on
abbrev pub from : ℕ → ℕ → List ℕ
from i zero = []
from i (suc k) = i ∷ from (suc i) k

-- the suffixes that go on with a nibble, with it
abbrev pub going_on : List Suffix → ℕ → List Suffix
going_on ss i = with_prefix (i ∷ []) (below (i ∷ []) ss)

not_empty : (n : ℕ) → eqb (suc n) 0 ≡ false
not_empty n = unlike (suc n) 0 (λ e. omega arith)

going_on_other : (n i : ℕ) (ns v : List ℕ) (ss : List Suffix) → (i ≡ n → ⊥) → going_on ((n ∷ ns, v) ∷ ss) i ≡ going_on ss i
going_on_other n i ns v ss differ = let e : eqb i n ≡ false = unlike i n differ in rw e

going_on_same : (n i : ℕ) (ns v : List ℕ) (ss : List Suffix) → i ≡ n → going_on ((n ∷ ns, v) ∷ ss) i ≡ (n ∷ ns, v) ∷ going_on ss i
going_on_same n i ns v ss same =
    let e : eqb i n ≡ true = eq-eqb i n same in
    rw e (ap (λ (k : ℕ). (k ∷ ns, v) ∷ going_on ss i) same)

above : (n i k : ℕ) (ns v : List ℕ) (ss : List Suffix) → n < i → flat_map (going_on ((n ∷ ns, v) ∷ ss)) (from i k) ≡ flat_map (going_on ss) (from i k)
above n i zero ns v ss h = refl
above n i (suc k) ns v ss h =
    let one : going_on ((n ∷ ns, v) ∷ ss) i ≡ going_on ss i = going_on_other n i ns v ss (λ e. omega arith) in
    let others : flat_map (going_on ((n ∷ ns, v) ∷ ss)) (from (suc i) k) ≡ flat_map (going_on ss) (from (suc i) k) = above n (suc i) k ns v ss (omega arith) in
    cc

-- a suffix below all others stands at the front of those that go on with a nibble, taken nibble by nibble
front : (n i k : ℕ) (ns v : List ℕ) (ss : List Suffix) → T (below_all (n ∷ ns) ss) → i ≤ n → n < i + k
    → flat_map (going_on ((n ∷ ns, v) ∷ ss)) (from i k) ≡ (n ∷ ns, v) ∷ flat_map (going_on ss) (from i k)
front n i zero ns v ss b low high = absurd (omega arith)
front n i (suc k) ns v ss b low high =
    elim (cases_lt i n) [
      | inl lower ↦
          let other : going_on ((n ∷ ns, v) ∷ ss) i ≡ going_on ss i = going_on_other n i ns v ss (λ e. omega arith) in
          let none : going_on ss i ≡ [] = ap (with_prefix (i ∷ [])) (none_with_lower i n ns ss lower b) in
          let rest : flat_map (going_on ((n ∷ ns, v) ∷ ss)) (from (suc i) k) ≡ (n ∷ ns, v) ∷ flat_map (going_on ss) (from (suc i) k) = front n (suc i) k ns v ss b lower (omega arith) in
          rw (other, none) rest
      | inr reached ↦
          let here : going_on ((n ∷ ns, v) ∷ ss) i ≡ (n ∷ ns, v) ∷ going_on ss i = going_on_same n i ns v ss (omega arith) in
          let rest : flat_map (going_on ((n ∷ ns, v) ∷ ss)) (from (suc i) k) ≡ flat_map (going_on ss) (from (suc i) k) = above n (suc i) k ns v ss (omega arith) in
          rw (here, rest)
    ]

-- sorted suffixes of nibbles above some key are those that go on with each nibble, one after another
nibble_by_nibble : (x : List ℕ) (ss : List Suffix) → T (below_all x ss) → T (is_sorted (slice_cmp nat_cmp) ss) → AllByRecursion InNibbles ss
    → flat_map (going_on ss) (from 0 16) ≡ ss
nibble_by_nibble x [] b s a = refl
nibble_by_nibble x ((ns, v) ∷ ss) b s a = next x ns v ss (first_of_and _ (below_all x ss) b) (first_of_and _ (is_sorted (slice_cmp nat_cmp) ss) s) a.0
    (nibble_by_nibble ns ss (first_of_and _ (is_sorted (slice_cmp nat_cmp) ss) s) (second_of_and (below_all ns ss) _ s) a.1)
  where
    next : (x ns v : List ℕ) (ss : List Suffix) → T (is_lt (slice_cmp nat_cmp x ns)) → T (below_all ns ss) → AllByRecursion (λ n. n < 16) ns
        → flat_map (going_on ss) (from 0 16) ≡ ss → flat_map (going_on ((ns, v) ∷ ss)) (from 0 16) ≡ (ns, v) ∷ ss
    next [] [] v ss lt b a e = absurd lt
    next (y ∷ x) [] v ss lt b a e = absurd lt
    next x (n ∷ ns) v ss lt b a e = front n 0 16 ns v ss b (omega arith) (omega arith) ∙ ap (λ (ts : List Suffix). (n ∷ ns, v) ∷ ts) e

-- sorted suffixes of nibbles are the one of no nibbles, and those that go on with each nibble
pub parts_in_order : (ss : List Suffix) → T (is_sorted (slice_cmp nat_cmp) ss) → AllByRecursion InNibbles ss
    → own_value (value_here ss) ++ flat_map (going_on ss) every_nibble ≡ ss
parts_in_order [] s a = refl
parts_in_order (([], v) ∷ ss) s a =
    ap (λ (ts : List Suffix). ([], v) ∷ ts) (nibble_by_nibble [] ss (first_of_and _ (is_sorted (slice_cmp nat_cmp) ss) s) (second_of_and (below_all [] ss) _ s) a.1)
parts_in_order ((n ∷ ns, v) ∷ ss) s a =
    let least : T (below_all (n ∷ ns) ss) = first_of_and _ (is_sorted (slice_cmp nat_cmp) ss) s in
    let longer : eqb (suc (length ns)) 0 ≡ false = not_empty (length ns) in
    let none : value_here ((n ∷ ns, v) ∷ ss) ≡ None = value_first (n ∷ ns, v) ss s ∙ ap (λ b. cond b (Some v) None) longer in
    ap (λ (o : Option (List ℕ)). own_value o ++ flat_map (going_on ((n ∷ ns, v) ∷ ss)) every_nibble) none
    ∙ front n 0 16 ns v ss least (omega arith) (omega (arith, a.0.0))
    ∙ ap (λ (ts : List Suffix). (n ∷ ns, v) ∷ ts) (nibble_by_nibble (n ∷ ns) ss least (second_of_and (below_all (n ∷ ns) ss) _ s) a.1)
