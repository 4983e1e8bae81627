-- What a key has from a nibble on, in bytes.
use Rattle.std.proofs.Common.{◌≡◌, ℕ, zero, suc, ◌+◌, ◌-◌, ◌*◌, ◌/◌, ◌%◌, ◌<◌, ◌≤◌, List, [], ◌∷◌, length, get_or, drop, refl, ap, ◌∙◌, arith, length-drop, add-one}
use Rattle.std.proofs.Math.ListN.{drop_of_length-le}
use Rattle.sdb_base.specs.Nibbles.{nibbles_of}
use Rattle.trie_model.specs.Nibbles.{packed}
use Rattle.trie_codec.proofs.Partial.{length-nibbles_of}
use Rattle.trie_codec.proofs.ReadPartial.{packed_even, packed_odd, paired-nibbles_of}

pub length_from : (key : List ℕ) (from : ℕ) → length (drop from (nibbles_of key)) ≡ 2 * length key - from
length_from key from = omega (arith, length-drop from (nibbles_of key), length-nibbles_of key)

from_high : (key : List ℕ) (k : ℕ) → drop (2 * k) (nibbles_of key) ≡ nibbles_of (drop k key)
from_high key zero = refl
from_high [] (suc k) = drop_of_length-le [] (omega arith)
from_high (b ∷ bs) (suc k) = let e : 2 * suc k ≡ suc (suc (2 * k)) = omega arith in rw e (from_high bs k)

from_low : (key : List ℕ) (k : ℕ) → k < length key → drop (suc (2 * k)) (nibbles_of key) ≡ (get_or key k 0 % 16) ∷ nibbles_of (drop (suc k) key)
from_low [] k h = absurd (omega arith)
from_low (b ∷ bs) zero h = refl
from_low (b ∷ bs) (suc k) h = let e : suc (2 * suc k) ≡ suc (suc (suc (2 * k))) = omega arith in rw e (from_low bs k (omega arith))

pub packed_from_high : (key : List ℕ) (from : ℕ) → from % 2 ≡ 0 → packed (drop from (nibbles_of key)) ≡ drop (from / 2) key
packed_from_high key from even =
    let k = from / 2 in
    let at : from ≡ 2 * k = omega arith in
    let rest : List ℕ = drop k key in
    let count : length (nibbles_of rest) % 2 ≡ 0 = omega (arith, length-nibbles_of rest) in
    ap (λ (n : ℕ). packed (drop n (nibbles_of key))) at ∙ ap packed (from_high key k) ∙ packed_even (nibbles_of rest) count ∙ paired-nibbles_of rest

pub packed_from_low : (key : List ℕ) (from : ℕ) → from % 2 ≡ 1 → from ≤ 2 * length key
    → packed (drop from (nibbles_of key)) ≡ (get_or key (from / 2) 0 % 16) ∷ drop (from / 2 + 1) key
packed_from_low key from odd fits =
    let k = from / 2 in
    let at : from ≡ suc (2 * k) = omega arith in
    let rest : List ℕ = drop (suc k) key in
    let low : ℕ = get_or key k 0 % 16 in
    let one : 16 * 0 + low ≡ low = omega arith in
    let count : length (low ∷ nibbles_of rest) % 2 ≡ 1 = omega (arith, length-nibbles_of rest) in
    ap (λ (n : ℕ). packed (drop n (nibbles_of key))) at ∙ ap packed (from_low key k (omega arith)) ∙ packed_odd (low ∷ nibbles_of rest) count
    ∙ rw (one, add-one, paired-nibbles_of rest) refl

pub ruleset key_bytes = (packed_from_high, packed_from_low)
