-- Where the constants come from, as tests that compute.
use Rattle.std.specs.Prelude.{ℕ, zero, suc, ◌+◌, ◌*◌, ◌^◌, ◌==◌, ◌&&◌, nat_le, nat_lt, Bool, true, false, List, [], ◌∷◌, count_by, if◌then◌else◌}
use Rattle.std.specs.List.{list_all}

-- the first eight primes
abbrev pub first_primes : List ℕ
first_primes = 2 ∷ 3 ∷ 5 ∷ 7 ∷ 11 ∷ 13 ∷ 17 ∷ 19 ∷ []

-- how many of 1, …, n have a square of at most p: the whole part of the square root of p < (n + 1) ^ 2
abbrev pub whole_root : ℕ → ℕ → ℕ
whole_root p zero = 0
whole_root p (suc n) = (if nat_le ((n + 1) ^ 2) p then 1 else 0) + whole_root p n

-- k is the first 64 bits of the fractional part of the square root of p
abbrev pub is_root_fraction : ℕ → ℕ → Bool
is_root_fraction p k =
    nat_le ((whole_root p 8 * 2 ^ 64 + k) ^ 2) (p * 2 ^ 128)
    && nat_lt (p * 2 ^ 128) ((whole_root p 8 * 2 ^ 64 + k + 1) ^ 2)
    && nat_lt k (2 ^ 64)

-- each word is the root fraction of the prime at its place, and there are as many
abbrev pub are_root_fractions : List ℕ → List ℕ → Bool
are_root_fractions [] [] = true
are_root_fractions (p ∷ ps) (k ∷ ks) = is_root_fraction p k && are_root_fractions ps ks
are_root_fractions _ _ = false

-- 0, …, 15
abbrev pub zero_to_fifteen : List ℕ
zero_to_fifteen = 0 ∷ 1 ∷ 2 ∷ 3 ∷ 4 ∷ 5 ∷ 6 ∷ 7 ∷ 8 ∷ 9 ∷ 10 ∷ 11 ∷ 12 ∷ 13 ∷ 14 ∷ 15 ∷ []

-- the row has each of 0 to 15 just once
abbrev pub is_permutation : List ℕ → Bool
is_permutation row = list_all (λ n. count_by (λ k. k == n) row == 1) zero_to_fifteen && (count_by (λ k. true) row == 16)
