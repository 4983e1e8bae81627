-- Index chunks: 64 entries of 8 bytes each, in the chunk that the first bits of their keys name.
use Rattle.std.specs.Prelude.{◌≡◌, ◌⊎◌, ℕ, ◌+◌, ◌-◌, ◌*◌, ◌/◌, ◌%◌, ◌^◌, ◌<◌, ◌≤◌, ◌==◌, List, [], ◌∷◌, ◌++◌, length, take, slice_set, if◌then◌else◌, Option, Some, None, position, All}
use Rattle.std.specs.Option.{option_map}
use Rattle.std.specs.Int.{w64, to_le_bytes, from_be_bytes}
use Rattle.std.specs.List.{flat_map}

-- the first 64 bits of a key as a number: bit 0 is the high bit of byte 0
abbrev pub front_of : List ℕ → ℕ
front_of key = from_be_bytes w64 (take 8 key)

-- so many of these bits as a number, from a bit on
abbrev pub bits_at : ℕ → ℕ → List ℕ → ℕ
bits_at from count key = front_of key / 2 ^ (64 - (from + count)) % 2 ^ count

-- the number of a key's chunk in an index of so many bits
abbrev pub chunk_number : ℕ → List ℕ → ℕ
chunk_number bits key = bits_at 0 bits key

-- An entry: 24 bits of the key behind the first `base` ones, 8 bits of the tier, 32 bits of the slot. Entry 0 is empty.
abbrev pub entry_of : ℕ → List ℕ → ℕ → ℕ → ℕ
entry_of base key tier slot = bits_at base 24 key * 2 ^ 40 + (tier * 2 ^ 32 + slot)

abbrev pub entry_bits : ℕ → ℕ
entry_bits entry = entry / 2 ^ 40

abbrev pub entry_tier : ℕ → ℕ
entry_tier entry = entry / 2 ^ 32 % 2 ^ 8

abbrev pub entry_slot : ℕ → ℕ
entry_slot entry = entry % 2 ^ 32

-- an entry carries this key's bits
abbrev pub CarriesKey : ℕ → List ℕ → ℕ → Type 0
CarriesKey base key entry = entry_bits entry ≡ bits_at base 24 key

-- 64 places for entries, each of 64 bits
pub record IsChunk (entries : List ℕ) : Type 0 where
  pub places : length entries ≡ 64
  pub narrow : All (λ e. e < 2 ^ 64) entries

-- a chunk's bytes: its entries one after the other, low byte first
abbrev pub chunk_bytes : List ℕ → List ℕ
chunk_bytes entries = flat_map (to_le_bytes w64) entries

-- the rule of an entry: it is empty, or names a tier and one of its slots, up to the tier's end
abbrev pub IsIndexEntry : (ℕ → ℕ) → ℕ → Type 0
IsIndexEntry end_of entry = (entry ≡ 0)
    ⊎ ((entry_tier entry ≤ 15) × (1 ≤ entry_slot entry) × (entry_slot entry ≤ end_of (entry_tier entry)))

-- the first empty place of a chunk
abbrev pub empty_place : List ℕ → Option ℕ
empty_place entries = position (λ e. e == 0) entries

-- the chunk with an entry at its first empty place, if it has one
abbrev pub with_entry : List ℕ → ℕ → Option (List ℕ)
with_entry entries entry = option_map (λ place. slice_set entries place entry) (empty_place entries)
