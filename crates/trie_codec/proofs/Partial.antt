-- The nibbles of a partial key by the bytes that hold them.
use Rattle.std.proofs.Common.{◌≡◌, ℕ, zero, suc, ◌+◌, ◌*◌, ◌/◌, ◌%◌, List, [], ◌∷◌, length, get_or, drop, refl, ap, ◌∙◌, arith, length-drop}
use Rattle.std.proofs.lemmas.List.{get_or-drop}
use Rattle.sdb_base.specs.Nibbles.{nibbles_of}

pub length-nibbles_of : (bytes : List ℕ) → length (nibbles_of bytes) ≡ 2 * length bytes
length-nibbles_of [] = refl
length-nibbles_of (b ∷ bs) = omega (arith, length-nibbles_of bs)

-- as many nibbles as are counted, where the bytes are as many as those need
pub partial_lengths : (n : ℕ) (bytes : List ℕ) → length bytes ≡ (n + 1) / 2 → length (drop (n % 2) (nibbles_of bytes)) ≡ n
partial_lengths n bytes e = omega (arith, length-drop (n % 2) (nibbles_of bytes), length-nibbles_of bytes)

high_half : (bytes : List ℕ) (k : ℕ) → get_or (nibbles_of bytes) (2 * k) 0 ≡ get_or bytes k 0 / 16
high_half [] k = refl
high_half (b ∷ bs) zero = refl
high_half (b ∷ bs) (suc k) =
    let e : 2 * suc k ≡ suc (suc (2 * k)) = omega arith in
    rw e (high_half bs k)

low_half : (bytes : List ℕ) (k : ℕ) → get_or (nibbles_of bytes) (suc (2 * k)) 0 ≡ get_or bytes k 0 % 16
low_half [] k = refl
low_half (b ∷ bs) zero = refl
low_half (b ∷ bs) (suc k) =
    let e : 2 * suc k ≡ suc (suc (2 * k)) = omega arith in
    rw e (low_half bs k)

-- a nibble in the high half of a byte, and one in the low half
pub nibble_high : (bytes : List ℕ) (odd i : ℕ) → (odd + i) % 2 ≡ 0 → get_or (drop odd (nibbles_of bytes)) i 0 ≡ get_or bytes ((odd + i) / 2) 0 / 16
nibble_high bytes odd i even =
    let e : odd + i ≡ 2 * ((odd + i) / 2) = omega arith in
    get_or-drop odd (nibbles_of bytes) i 0 ∙ ap (λ j. get_or (nibbles_of bytes) j 0) e ∙ high_half bytes ((odd + i) / 2)

pub nibble_low : (bytes : List ℕ) (odd i : ℕ) → (odd + i) % 2 ≡ 1 → get_or (drop odd (nibbles_of bytes)) i 0 ≡ get_or bytes ((odd + i) / 2) 0 % 16
nibble_low bytes odd i is_odd =
    let e : odd + i ≡ suc (2 * ((odd + i) / 2)) = omega arith in
    get_or-drop odd (nibbles_of bytes) i 0 ∙ ap (λ j. get_or (nibbles_of bytes) j 0) e ∙ low_half bytes ((odd + i) / 2)

pub ruleset partial_key = (partial_lengths, nibble_high, nibble_low)
