-- What is no compact number in front is read as the same fault.
use Rattle.std.proofs.Common.{◌≡◌, ℕ, ◌+◌, ◌*◌, ◌/◌, ◌%◌, ◌<◌, true, List, [], ◌∷◌, ◌++◌, length, Err, refl, arith}
use Rattle.std.specs.Prelude.{nat_lt}
use Rattle.std.specs.Int.{w16, w32, to_le_bytes, from_le_bytes}
use Rattle.std.proofs.lemmas.Bool.Decides.{nat_tests}
use Rattle.std.proofs.lemmas.Nat.{from_le_bytes-to_le_bytes_2, from_le_bytes-to_le_bytes_4}
use Rattle.sdb_scale.specs.Compact.{EndsEarly, IsNotShortest, IsTooLarge, Mode, one, two, four, mode_len, mode_limit, mode_of, spelled_in}
use Rattle.trie_codec.specs.declared.fault.CodecFault.TheVariants.{Short, BadLength}
use Rattle.trie_codec.specs.Reading.{first_length}
use Rattle.trie_codec.proofs.Unpacked.{front_read}

pub short_length : (bytes : List ℕ) → EndsEarly bytes → first_length bytes ≡ Err Short
unfolding first_length
short_length [] h = refl
short_length (b ∷ bs) (one, mode, few) = absurd (omega arith)
short_length (b ∷ bs) (two, mode, few) =
    let short : nat_lt (length (b ∷ bs)) 2 ≡ true = grind (arith, nat_tests) in
    rw (mode, short) refl
short_length (b ∷ bs) (four, mode, few) =
    let short : nat_lt (length (b ∷ bs)) 4 ≡ true = grind (arith, nat_tests) in
    rw (mode, short) refl

pub large_length : (bytes : List ℕ) → IsTooLarge bytes → first_length bytes ≡ Err BadLength
unfolding first_length
large_length [] h = absurd h
large_length (b ∷ bs) h = rw h refl

-- a number that one byte could spell, in two, and one that two could, in four
long_in_two : (n : ℕ) (rest : List ℕ) → n < 64 → first_length (to_le_bytes w16 (4 * n + 1) ++ rest) ≡ Err BadLength
unfolding first_length
long_in_two n rest small =
    let mode : (4 * n + 1) % 256 % 4 ≡ 1 = omega arith in
    let number : from_le_bytes w16 (to_le_bytes w16 (4 * n + 1)) / 4 ≡ n = omega (arith, from_le_bytes-to_le_bytes_2 (4 * n + 1) (omega arith)) in
    let longer : nat_lt n 64 ≡ true = grind (arith, nat_tests) in
    rw (mode, front_read (to_le_bytes w16 (4 * n + 1)) rest 2 refl, number, longer) refl

long_in_four : (n : ℕ) (rest : List ℕ) → n < 16384 → first_length (to_le_bytes w32 (4 * n + 2) ++ rest) ≡ Err BadLength
unfolding first_length
long_in_four n rest small =
    let mode : (4 * n + 2) % 256 % 4 ≡ 2 = omega arith in
    let number : from_le_bytes w32 (to_le_bytes w32 (4 * n + 2)) / 4 ≡ n = omega (arith, from_le_bytes-to_le_bytes_4 (4 * n + 2) (omega arith)) in
    let longer : nat_lt n 16384 ≡ true = grind (arith, nat_tests) in
    rw (mode, front_read (to_le_bytes w32 (4 * n + 2)) rest 4 refl, number, longer) refl

long_spelling : (mode : Mode) (n : ℕ) (rest : List ℕ) → n < mode_limit mode → mode_len (mode_of n) < mode_len mode
    → first_length (spelled_in mode n ++ rest) ≡ Err BadLength
long_spelling one n rest fits longer = absurd (grind (arith, nat_tests))
long_spelling two n rest fits longer = long_in_two n rest (grind (arith, nat_tests))
long_spelling four n rest fits longer = long_in_four n rest (grind (arith, nat_tests))

pub long_length : (bytes : List ℕ) → IsNotShortest bytes → first_length bytes ≡ Err BadLength
long_length bytes (mode, n, rest, fits, longer, e) = rw e (long_spelling mode n rest fits longer)
