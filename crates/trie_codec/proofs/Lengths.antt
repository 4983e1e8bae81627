-- A compact number and a byte string are read as what they spell.
use Rattle.std.proofs.Common.{◌≡◌, ℕ, ◌+◌, ◌*◌, ◌/◌, ◌%◌, ◌^◌, ◌<◌, ◌≤◌, false, List, ◌∷◌, ◌++◌, length, inl, inr, Ok, refl, append_assoc, arith}
use Rattle.std.specs.Prelude.{nat_lt, ◌⊎◌}
use Rattle.std.specs.Int.{w16, w32, to_le_bytes, from_le_bytes}
use Rattle.std.proofs.lemmas.Bool.{cases_lt, lt-ltb, le-ltb}
use Rattle.std.proofs.lemmas.Bool.Decides.{nat_tests}
use Rattle.std.proofs.lemmas.Nat.{from_le_bytes-to_le_bytes_2, from_le_bytes-to_le_bytes_4}
use Rattle.sdb_scale.specs.Compact.{compact, string}
use Rattle.trie_codec.specs.Reading.{first_length, first_string}
use Rattle.trie_codec.proofs.Unpacked.{front_read}

length_of_one : (n : ℕ) (rest : List ℕ) → n < 64 → first_length ((4 * n) ∷ rest) ≡ Ok (n, rest)
unfolding first_length
length_of_one n rest lt =
    let mode : (4 * n) % 4 ≡ 0 = omega arith in
    let number : 4 * n / 4 ≡ n = omega arith in
    rw (mode, number) refl

length_of_two : (n : ℕ) (rest : List ℕ) → 64 ≤ n → n < 2 ^ 14 → first_length (to_le_bytes w16 (4 * n + 1) ++ rest) ≡ Ok (n, rest)
unfolding first_length
length_of_two n rest le lt =
    let mode : (4 * n + 1) % 256 % 4 ≡ 1 = omega arith in
    let number : from_le_bytes w16 (to_le_bytes w16 (4 * n + 1)) / 4 ≡ n = omega (arith, from_le_bytes-to_le_bytes_2 (4 * n + 1) (omega arith)) in
    let shortest : nat_lt n 64 ≡ false = grind (arith, nat_tests) in
    rw (mode, front_read (to_le_bytes w16 (4 * n + 1)) rest 2 refl, number, shortest) refl

length_of_four : (n : ℕ) (rest : List ℕ) → 2 ^ 14 ≤ n → n < 2 ^ 30 → first_length (to_le_bytes w32 (4 * n + 2) ++ rest) ≡ Ok (n, rest)
unfolding first_length
length_of_four n rest le lt =
    let mode : (4 * n + 2) % 256 % 4 ≡ 2 = omega arith in
    let number : from_le_bytes w32 (to_le_bytes w32 (4 * n + 2)) / 4 ≡ n = omega (arith, from_le_bytes-to_le_bytes_4 (4 * n + 2) (omega arith)) in
    let shortest : nat_lt n 16384 ≡ false = grind (arith, nat_tests) in
    rw (mode, front_read (to_le_bytes w32 (4 * n + 2)) rest 4 refl, number, shortest) refl

length_by : (n : ℕ) (rest : List ℕ) → n < 2 ^ 30 → (n < 64) ⊎ (64 ≤ n) → (n < 2 ^ 14) ⊎ (2 ^ 14 ≤ n) → first_length (compact n ++ rest) ≡ Ok (n, rest)
unfolding compact
length_by n rest lt (inl one) by = rw (lt-ltb n 64 one) (length_of_one n rest one)
length_by n rest lt (inr le) (inl two) = rw (le-ltb n 64 le, lt-ltb n (2 ^ 14) two) (length_of_two n rest le two)
length_by n rest lt (inr le) (inr four) = rw (le-ltb n 64 le, le-ltb n (2 ^ 14) four) (length_of_four n rest four lt)

pub length_read : (n : ℕ) (rest : List ℕ) → n < 2 ^ 30 → first_length (compact n ++ rest) ≡ Ok (n, rest)
length_read n rest lt = length_by n rest lt (cases_lt n 64) (cases_lt n (2 ^ 14))

pub string_read : (s rest : List ℕ) → length s < 2 ^ 30 → first_string (string s ++ rest) ≡ Ok (s, rest)
unfolding first_string
string_read s rest short = rw (append_assoc (compact (length s)) s rest, length_read (length s) (s ++ rest) short) (front_read s rest (length s) refl)
