-- A key's nibbles, one by one.
use Rattle.std.proofs.Common.{◌≡◌, ℕ, zero, suc, ◌/◌, ◌%◌, List, [], ◌∷◌, get_or, refl, arith}
use Rattle.sdb_base.specs.Nibbles.{nibbles_of}
pub use Rattle.trie_codec.proofs.Partial.{length-nibbles_of}

pub high_half : (k : List ℕ) (i : ℕ) → i % 2 ≡ 0 → get_or k (i / 2) 0 / 16 ≡ get_or (nibbles_of k) i 0
high_half [] i e = refl
high_half (b ∷ bs) zero e = refl
high_half (b ∷ bs) (suc zero) e = absurd (omega arith)
high_half (b ∷ bs) (suc (suc i)) e =
    let halved : suc (suc i) / 2 ≡ suc (i / 2) = omega arith in rw halved (high_half bs i (omega arith))

pub low_half : (k : List ℕ) (i : ℕ) → i % 2 ≡ 1 → get_or k (i / 2) 0 % 16 ≡ get_or (nibbles_of k) i 0
low_half [] i e = refl
low_half (b ∷ bs) zero e = absurd (omega arith)
low_half (b ∷ bs) (suc zero) e = refl
low_half (b ∷ bs) (suc (suc i)) e =
    let halved : suc (suc i) / 2 ≡ suc (i / 2) = omega arith in rw halved (low_half bs i (omega arith))
