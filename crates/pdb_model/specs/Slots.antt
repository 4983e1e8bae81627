-- Slots: cells of the value tables. Slot i of a tier is cell i of its file, and slots start at 1.
use Rattle.std.specs.Prelude.{◌≡◌, ℕ, ◌+◌, ◌-◌, ◌^◌, ◌<◌, ◌≤◌, List, [], ◌∷◌, ◌++◌, length, replicate, All}
use Rattle.std.specs.Int.{w16, w32, w64, to_le_bytes}
use Rattle.pdb_model.specs.Tiers.{before_value, in_head, in_part, most_stored, parts_tier, slot_size, tier_of}

-- zeros up to the end of a cell of this size that begins with these bytes
abbrev pub padded : ℕ → List ℕ → List ℕ
padded size bytes = bytes ++ replicate (size - length bytes) 0

-- kind 1, a whole value: its length, its count, its key, its bytes
unfoldable pub whole_bytes : List ℕ → ℕ → List ℕ → List ℕ
whole_bytes key count value =
    1 ∷ (0 ∷ (to_le_bytes w16 (length value) ++ (to_le_bytes w64 count ++ (key ++ value))))

-- kind 2, the head of a value in parts: how many of the value's bytes stand here, its count, its key, its whole length,
-- the slot of the next part, its first bytes
unfoldable pub head_bytes : List ℕ → ℕ → ℕ → ℕ → List ℕ → List ℕ
head_bytes key count whole next value =
    2 ∷ (0 ∷ (to_le_bytes w16 in_head ++ (to_le_bytes w64 count ++ (key ++ (to_le_bytes w32 whole ++ (to_le_bytes w32 next ++ value))))))

-- kind 3, a further part: how many bytes stand here, the slot of the next part or 0 at the last, the bytes
unfoldable pub part_bytes : ℕ → List ℕ → List ℕ
part_bytes next value = 3 ∷ (0 ∷ (to_le_bytes w16 (length value) ++ (to_le_bytes w32 next ++ value)))

-- kind 4, a free slot: the next free slot or 0
unfoldable pub free_bytes : ℕ → List ℕ
free_bytes next = 4 ∷ (0 ∷ (0 ∷ (0 ∷ to_le_bytes w32 next)))

-- a key of 32 bytes and a count that is at least 1
pub record IsCounted (key : List ℕ) (count : ℕ) : Type 0 where
  pub key_len : length key ≡ 32
  pub some : 1 ≤ count
  pub narrow : count < 2 ^ 64

-- The cell of a tier spells this whole value. A value stands in the lowest tier that holds it.
pub record IsWhole (tier : ℕ) (cell key : List ℕ) (count : ℕ) (value : List ℕ) : Type 0 where
  pub spelled : cell ≡ padded (slot_size tier) (whole_bytes key count value)
  pub counted : IsCounted key count
  pub lowest : tier ≡ tier_of (length value)
  pub not_parts : tier < parts_tier

-- the cell spells this head of a value in parts, which fits no other tier
pub record IsHeadOfParts (cell key : List ℕ) (count whole next : ℕ) (value : List ℕ) : Type 0 where
  pub spelled : cell ≡ head_bytes key count whole next value
  pub counted : IsCounted key count
  pub full : length value ≡ in_head
  pub long : tier_of whole ≡ parts_tier
  pub not_too_long : whole ≤ most_stored
  pub narrow : next < 2 ^ 32

-- the cell spells this further part
pub record IsPart (cell : List ℕ) (next : ℕ) (value : List ℕ) : Type 0 where
  pub spelled : cell ≡ padded (slot_size parts_tier) (part_bytes next value)
  pub fits : length value ≤ in_part
  pub narrow : next < 2 ^ 32

-- the cell of a tier spells a free slot with this next one
pub record IsFree (tier : ℕ) (cell : List ℕ) (next : ℕ) : Type 0 where
  pub spelled : cell ≡ padded (slot_size tier) (free_bytes next)
  pub narrow : next < 2 ^ 32
