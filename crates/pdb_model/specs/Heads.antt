-- Head cells: one for each column, 256 bytes.
use Rattle.std.specs.Prelude.{◌≡◌, ℕ, ◌+◌, ◌*◌, ◌^◌, ◌<◌, ◌≤◌, List, [], ◌∷◌, ◌++◌, length, take, drop, replicate, slice_range}
use Rattle.std.specs.Int.{w32, to_le_bytes}

-- a tier's first free slot, 0 for none, and its end, the highest slot that was ever used
pub record Ends : Type 0 where
  pub free : ℕ
  pub end : ℕ

-- What a head cell says: the bits that its entries leave out at the front, the bits of its newest index, whether the
-- index before that is still in use, and the ends of each tier.
pub record Head : Type 0 where
  pub base : ℕ
  pub bits : ℕ
  pub growing : ℕ
  pub ends : ℕ → Ends

-- 4 bytes each, low byte first
abbrev pub ends_bytes : Ends → List ℕ
ends_bytes e = to_le_bytes w32 e.free ++ to_le_bytes w32 e.end

-- the bytes of a tier's ends
abbrev pub ends_place : ℕ → ℕ
ends_place tier = 4 + 8 * tier

abbrev pub ends_at : ℕ → List ℕ → List ℕ
ends_at tier cell = slice_range cell (ends_place tier) (ends_place tier + 8)

-- The cell spells this head: 1, base, bits, growing; the ends of the sixteen tiers; zeros.
pub record SpellsHead (cell : List ℕ) (h : Head) : Type 0 where
  pub len : length cell ≡ 256
  pub front : take 4 cell ≡ 1 ∷ (h.base ∷ (h.bits ∷ (h.growing ∷ [])))
  pub tiers : (tier : ℕ) → tier < 16 → ends_at tier cell ≡ ends_bytes (h.ends tier)
  pub zeros : drop 132 cell ≡ replicate 124 0

-- The rules of a head: an index has at most 14 bits more than the base, which is at most 16; a growing one has more than
-- the base; no free slot is above its tier's end.
pub record IsHead (h : Head) : Type 0 where
  pub base : h.base ≤ 16
  pub from_base : h.base ≤ h.bits
  pub bits : h.bits ≤ h.base + 14
  pub growing : h.growing ≤ 1
  pub doubled : h.growing ≡ 1 → h.base < h.bits
  pub free : (tier : ℕ) → tier < 16 → (h.ends tier).free ≤ (h.ends tier).end
  pub narrow : (tier : ℕ) → tier < 16 → (h.ends tier).end < 2 ^ 32

-- the cell is a head cell that keeps the rules
abbrev pub IsHeadCell : List ℕ → Type 0
IsHeadCell cell = (h : Head) × SpellsHead cell h × IsHead h
