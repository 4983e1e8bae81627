-- A child that is a hash is 32 bytes after the byte that says so.
use Rattle.std.proofs.Common.{◌≡◌, ℕ, ◌+◌, ◌-◌, ◌<◌, ◌≤◌, Bool, false, List, [], ◌∷◌, length, get_or, take, drop, Ok, refl, arith}
use Rattle.std.specs.Prelude.{nat_lt}
use Rattle.std.proofs.lemmas.Bool.Decides.{nat_tests}
use Rattle.std.proofs.lemmas.List.{length-drop, length-take-le, take_all}
use Rattle.sdb_scale.specs.Compact.{compact, string}
use Rattle.trie_codec.specs.Reading.{first_child, first_length}

-- the hash and what follows it, as code cuts them out
abbrev pub hash_in : List ℕ → List ℕ
hash_in bytes = take 32 (drop 1 bytes)

abbrev pub after_hash : List ℕ → List ℕ
after_hash bytes = take (length bytes - 33) (drop 33 bytes)

after_first_byte : (reads : List ℕ → Bool) (rest : List ℕ) → 32 ≤ length rest → first_child reads (128 ∷ rest) ≡ Ok (take 32 rest, drop 32 rest)
unfolding first_length
after_first_byte reads rest enough =
    let there : nat_lt (length rest) 32 ≡ false = grind (arith, nat_tests) in
    rw there refl

pub hash_read : (reads : List ℕ → Bool) (bytes : List ℕ) → 32 < length bytes → get_or bytes 0 0 ≡ 128 → first_child reads bytes ≡ Ok (hash_in bytes, after_hash bytes)
hash_read reads [] enough first = absurd (omega arith)
hash_read reads (b ∷ bs) enough first =
    let is : b ≡ 128 = first in
    let all : after_hash (b ∷ bs) ≡ drop 32 bs = take_all (length (b ∷ bs) - 33) (drop 32 bs) (omega (arith, length-drop 32 bs)) in
    rw (all, is) (after_first_byte reads bs (omega arith))

-- the hash takes 33 bytes with its length
pub hash_took : (bytes : List ℕ) → 32 < length bytes → length bytes ≡ length (string (hash_in bytes)) + length (after_hash bytes)
unfolding compact
hash_took bytes enough =
    let from : length (drop 1 bytes) ≡ length bytes - 1 = length-drop 1 bytes in
    let len : length (hash_in bytes) ≡ 32 = length-take-le 32 (drop 1 bytes) (omega arith) in
    let rest : length (after_hash bytes) ≡ length bytes - 33 = length-take-le (length bytes - 33) (drop 33 bytes) (omega (arith, length-drop 33 bytes)) in
    let spelled : length (string (hash_in bytes)) ≡ 33 = rw len (omega (arith, len)) in
    omega arith
