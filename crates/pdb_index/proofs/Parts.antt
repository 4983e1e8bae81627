-- The parts of an entry.
use Rattle.std.proofs.Common.{◌≡◌, ◌≢◌, ◌+◌, ◌*◌, ◌/◌, ◌%◌, ◌<◌, ◌≤◌, ◌^◌, ℕ, List, refl, arith}
use Rattle.pdb_model.specs.Chunks.{CarriesKey, bits_at, entry_of, entry_slot, entry_tier}

bits_of : (b t s e : ℕ) → t < 2 ^ 8 → s < 2 ^ 32 → e ≡ b * 2 ^ 40 + (t * 2 ^ 32 + s) → e / 2 ^ 40 ≡ b
bits_of b t s e tier slot is = omega arith

tier_of : (b t s e : ℕ) → t < 2 ^ 8 → s < 2 ^ 32 → e ≡ b * 2 ^ 40 + (t * 2 ^ 32 + s) → e / 2 ^ 32 % 2 ^ 8 ≡ t
tier_of b t s e tier slot is = let front : e / 2 ^ 32 ≡ b * 2 ^ 8 + t = omega arith in omega arith

slot_of : (b t s e : ℕ) → t < 2 ^ 8 → s < 2 ^ 32 → e ≡ b * 2 ^ 40 + (t * 2 ^ 32 + s) → e % 2 ^ 32 ≡ s
slot_of b t s e tier slot is = let front : e / 2 ^ 32 ≡ b * 2 ^ 8 + t = omega arith in omega arith

pub parts_of_entry : (base tier slot : ℕ) (key : List ℕ) → tier < 2 ^ 8 → slot < 2 ^ 32
    → CarriesKey base key (entry_of base key tier slot) × (entry_tier (entry_of base key tier slot) ≡ tier)
    × (entry_slot (entry_of base key tier slot) ≡ slot)
parts_of_entry base tier slot key low short =
    let b = bits_at base 24 key in
    let e = entry_of base key tier slot in
    (bits_of b tier slot e low short refl, tier_of b tier slot e low short refl, slot_of b tier slot e low short refl)

pub entry_is_full : (base tier slot : ℕ) (key : List ℕ) → 1 ≤ slot → entry_of base key tier slot ≢ 0
entry_is_full base tier slot key some e = omega arith

pub entry_fits : (base tier slot : ℕ) (key : List ℕ) → tier < 2 ^ 8 → slot < 2 ^ 32 → entry_of base key tier slot < 2 ^ 64
entry_fits base tier slot key low short = let b : bits_at base 24 key < 2 ^ 24 = omega arith in omega arith
