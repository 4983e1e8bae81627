-- Keys that rise, rise in nibbles.
use Rattle.std.proofs.Common.{◌≡◌, ℕ, ◌<◌, ◌/◌, ◌%◌, List, [], ◌∷◌, T, refl, subst, sym, arith}
use Rattle.std.specs.Ordering.{nat_cmp, is_lt, ordering_then}
use Rattle.std.specs.declared.cmp.Ordering.TheVariants.{Less, Equal, Greater}
use Rattle.std.specs.Cmp.Lexicographic.{slice_cmp}
use Rattle.std.proofs.lemmas.Cmp.{ranked, nat_cmp_total, tied_itself}
use Rattle.sdb_base.specs.Nibbles.{nibbles_of}

lesser : (x y : ℕ) → x < y → nat_cmp x y ≡ Less
lesser x y h = elim (nat_cmp x y) as (λ r. r ≡ nat_cmp x y → r ≡ Less) [
  | Less ↦ λ e. refl
  | Equal ↦ λ e. absurd (omega (arith, ranked x y Equal e))
  | Greater ↦ λ e. absurd (omega (arith, ranked x y Greater e))
] refl

halves_rise : (x y : ℕ) (n m : List ℕ) → x < y
    → T (is_lt (slice_cmp nat_cmp ((x / 16) ∷ ((x % 16) ∷ n)) ((y / 16) ∷ ((y % 16) ∷ m))))
halves_rise x y n m h =
    elim (nat_cmp (x / 16) (y / 16)) as (λ r. r ≡ nat_cmp (x / 16) (y / 16)
    → T (is_lt (ordering_then r (slice_cmp nat_cmp ((x % 16) ∷ n) ((y % 16) ∷ m))))) [
      | Less ↦ λ e. tt
      | Equal ↦ λ e.
          let same : x / 16 ≡ y / 16 = ranked (x / 16) (y / 16) Equal e in
          subst (λ o. T (is_lt (ordering_then o (slice_cmp nat_cmp n m)))) (sym (lesser (x % 16) (y % 16) (omega arith))) tt
      | Greater ↦ λ e. let more : y / 16 < x / 16 = ranked (x / 16) (y / 16) Greater e in absurd (omega arith)
    ] refl

halves_tie : (x y : ℕ) (n m : List ℕ) → x ≡ y → T (is_lt (slice_cmp nat_cmp n m))
    → T (is_lt (slice_cmp nat_cmp ((x / 16) ∷ ((x % 16) ∷ n)) ((y / 16) ∷ ((y % 16) ∷ m))))
halves_tie x y n m e h =
    subst (λ (k : ℕ). T (is_lt (slice_cmp nat_cmp ((x / 16) ∷ ((x % 16) ∷ n)) ((k / 16) ∷ ((k % 16) ∷ m))))) e
    (subst (λ o. T (is_lt (ordering_then o (slice_cmp nat_cmp ((x % 16) ∷ n) ((x % 16) ∷ m))))) (sym (tied_itself nat_cmp_total (x / 16)))
    (subst (λ o. T (is_lt (ordering_then o (slice_cmp nat_cmp n m)))) (sym (tied_itself nat_cmp_total (x % 16))) h))

pub nibbles_rise : (a b : List ℕ) → T (is_lt (slice_cmp nat_cmp a b)) → T (is_lt (slice_cmp nat_cmp (nibbles_of a) (nibbles_of b)))
nibbles_rise [] [] h = absurd h
nibbles_rise [] (y ∷ ys) h = tt
nibbles_rise (x ∷ xs) [] h = absurd h
nibbles_rise (x ∷ xs) (y ∷ ys) h =
    elim (nat_cmp x y) as (λ r. r ≡ nat_cmp x y → T (is_lt (ordering_then r (slice_cmp nat_cmp xs ys)))
    → T (is_lt (slice_cmp nat_cmp (nibbles_of (x ∷ xs)) (nibbles_of (y ∷ ys))))) [
      | Less ↦ λ e t. halves_rise x y (nibbles_of xs) (nibbles_of ys) (ranked x y Less e)
      | Equal ↦ λ e t. halves_tie x y (nibbles_of xs) (nibbles_of ys) (ranked x y Equal e) (nibbles_rise xs ys t)
      | Greater ↦ λ e t. absurd t
    ] refl h
