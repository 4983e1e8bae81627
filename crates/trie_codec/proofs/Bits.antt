-- How many bits of a bitmap are set.
use Rattle.std.proofs.Common.{◌≡◌, ℕ, zero, suc, ◌+◌, ◌*◌, ◌/◌, ◌%◌, ◌^◌, ◌<◌, ◌≤◌, false, List, length, take, drop, Ok, refl, sym, ap, ◌∙◌, arith}
use Rattle.std.specs.Prelude.{nat_lt, ◌==◌, ◌&&◌, ◌||◌}
use Rattle.std.specs.Int.{w16, from_le_bytes}
use Rattle.std.proofs.lemmas.Bool.Decides.{nat_tests}
use Rattle.std.proofs.lemmas.Nat.{ones_cat}
use Rattle.std.specs.Int.Count.{ones, ones_in}
use Rattle.std.proofs.Math.Nat.{pow-suc}
use Rattle.trie_codec.specs.Reading.{first_bitmap, bits_set}

ones-zero : ones 0 ≡ 0
unfolding ones ones_in
ones-zero = refl

ones-one : ones 1 ≡ 1
unfolding ones ones_in
ones-one = refl

ones-bit : (b : ℕ) → b < 2 → ones b ≡ b
ones-bit zero lt = ones-zero
ones-bit (suc zero) lt = ones-one
ones-bit (suc (suc b)) lt = absurd (omega arith)

-- the lowest bit, and the others
ones-halves : (n : ℕ) → ones n ≡ n % 2 + ones (n / 2)
ones-halves n =
    let e : n ≡ n / 2 * 2 ^ 1 + n % 2 = omega arith in
    let lt : n % 2 < 2 ^ 1 = omega arith in
    let both = ones_cat 1 (n / 2) (n % 2) lt in
    omega (arith, ap ones e, both, ones-bit (n % 2) (omega arith))

pub bits_set-ones : (d n : ℕ) → n < 2 ^ d → bits_set n d ≡ ones n
bits_set-ones zero n lt =
    let none : n ≡ 0 = omega arith in
    sym (ap ones none ∙ ones-zero)
bits_set-ones (suc d) n lt =
    let half : n / 2 < 2 ^ d = omega (arith, pow-suc 2 d) in
    ap (λ k. n % 2 + k) (bits_set-ones d (n / 2) half) ∙ sym (ones-halves n)

pub bits_set_of_16 : (n : ℕ) → n < 2 ^ 16 → ones n ≡ bits_set n 16
bits_set_of_16 n lt = sym (bits_set-ones 16 n lt)

pub unmarked : (kind map count : ℕ) → (map ≡ 0 → ⊥) → (count ≡ 1 → kind ≡ 2 → ⊥) → ((map == 0) || ((count == 1) && (kind == 2))) ≡ false
unmarked kind map count some enough = grind (arith, nat_tests)

-- a bitmap that is no fault
pub bitmap_found : (kind map : ℕ) (bytes : List ℕ) → 2 ≤ length bytes → map ≡ from_le_bytes w16 (take 2 bytes) → map < 2 ^ 16 → (map ≡ 0 → ⊥) → (ones map ≡ 1 → kind ≡ 2 → ⊥)
    → first_bitmap kind bytes ≡ Ok (map, drop 2 bytes)
bitmap_found kind map bytes long is lt some enough =
    let there : nat_lt (length bytes) 2 ≡ false = grind (arith, nat_tests) in
    let count : bits_set map 16 ≡ ones map = bits_set-ones 16 map lt in
    let test : ((map == 0) || ((bits_set map 16 == 1) && (kind == 2))) ≡ false = unmarked kind map (bits_set map 16) some (λ one two. enough (sym count ∙ one) two) in
    rw (there, ← is, test) refl
