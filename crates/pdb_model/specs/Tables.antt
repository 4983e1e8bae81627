-- The value tables of a column as a picture, in which no layout occurs: what each slot is, and the free lists.
use Rattle.std.specs.Prelude.{◌≡◌, ◌<◌, ◌≤◌, ◌+◌, ◌-◌, ◌*◌, ◌/◌, ◌==◌, ◌^◌, ℕ, zero, suc, List, [], ◌∷◌, ◌++◌, length, take, drop, slice_index, slice_get, position, if◌then◌else◌, Option, Some, None, min}
use Rattle.pdb_model.specs.Tiers.{in_head, in_part, most_stored, parts_tier, tier_of}
use Rattle.pdb_model.specs.Slots.{IsCounted, IsFree, IsHeadOfParts, IsPart, IsWhole}
use Rattle.pdb_model.specs.Heads.{Ends, ends_at, ends_bytes}

pub data Slot : Type 0 where
  -- a whole value, with its key and its count
  Whole : (key : List ℕ) (count : ℕ) (value : List ℕ) → Slot
  -- the head of a value in parts: the value is the whole one, and the slots are those of its further parts in order
  Parted : (key : List ℕ) (count : ℕ) (value : List ℕ) (parts : List ℕ) → Slot
  -- a further part: the slot of its head, its place among the parts, its bytes, the next part's slot or 0
  Part : (head place : ℕ) (bytes : List ℕ) (next : ℕ) → Slot
  Free : Slot
  -- between the steps of a change: of no value and on no free list
  Loose : Slot
  -- no slot of the table
  Outside : Slot

-- a tier's slots, its free list in order, and the highest slot that was ever used
pub record Table : Type 0 where
  pub slot : ℕ → Slot
  pub free : List ℕ
  pub end : ℕ

-- ---- lists of slots

-- how often a number is on a list
abbrev pub times : ℕ → List ℕ → ℕ
times i [] = 0
times i (s ∷ rest) = (if i == s then 1 else 0) + times i rest

-- the first of a list, 0 for none
abbrev pub first : List ℕ → ℕ
first [] = 0
first (s ∷ rest) = s

-- what follows a number on a list, 0 for none
abbrev pub after : ℕ → List ℕ → ℕ
after i [] = 0
after i (s ∷ rest) = if i == s then first rest else after i rest

-- ---- parts of a value

-- how many further parts a value of so many bytes has, where it is one in parts
abbrev pub part_count : ℕ → ℕ
part_count len = (len - in_head + (in_part - 1)) / in_part

-- the bytes of a value's further part at a place: all parts but the last are full
abbrev pub bytes_of_part : List ℕ → ℕ → List ℕ
bytes_of_part value place = take in_part (drop (in_head + in_part * place) value)

-- ---- consistency

-- how often a slot has to be on the free list
abbrev pub times_free : Slot → ℕ
times_free (Whole key count value) = 0
times_free (Parted key count value parts) = 0
times_free (Part head place bytes next) = 0
times_free Free = 1
times_free Loose = 0
times_free Outside = 0

-- this slot is a head that lists that slot at this place
abbrev pub Lists : Slot → ℕ → ℕ → Type 0
Lists (Whole key count value) place i = ⊥
Lists (Parted key count value parts) place i = slice_get parts place ≡ Some i
Lists (Part head at bytes next) place i = ⊥
Lists Free place i = ⊥
Lists Loose place i = ⊥
Lists Outside place i = ⊥

-- A table where each number is on the free list just as often as it is free, a head's list names its parts, and each part
-- is listed by its head. The slots are those from 1 to the end.
pub record IsTable (t : Table) : Type 0 where
  pub once : (i : ℕ) → times i t.free ≡ times_free (t.slot i)
  pub above : (i : ℕ) → t.end < i → t.slot i ≡ Outside
  pub from_one : t.slot 0 ≡ Outside
  pub narrow : t.end < 2 ^ 32
  pub within : (i : ℕ) → t.slot i ≡ Outside → 0 < i → t.end < i
  pub parts : (h : ℕ) (key : List ℕ) (count : ℕ) (value parts : List ℕ) → t.slot h ≡ Parted key count value parts
      → (j : ℕ) (s : ℕ) → slice_get parts j ≡ Some s → t.slot s ≡ Part h j (bytes_of_part value j) (slice_index parts (j + 1))
  pub all_parts : (h : ℕ) (key : List ℕ) (count : ℕ) (value parts : List ℕ) → t.slot h ≡ Parted key count value parts
      → length parts ≡ part_count (length value)
  pub owned : (i h j : ℕ) (bytes : List ℕ) (next : ℕ) → t.slot i ≡ Part h j bytes next → Lists (t.slot h) j i

-- no slot is between the steps of a change
abbrev pub IsSettled : Table → Type 0
IsSettled t = (i : ℕ) → t.slot i ≡ Loose → ⊥

-- ---- which cells spell a table

-- A cell of a tier spells this slot, whose next one on the free list is given.
abbrev pub IsSlot : ℕ → Slot → ℕ → List ℕ → Type 0
IsSlot tier (Whole key count value) next cell = IsWhole tier cell key count value
IsSlot tier (Parted key count value parts) next cell =
    (tier ≡ parts_tier) × IsHeadOfParts cell key count (length value) (first parts) (take in_head value)
IsSlot tier (Part head place bytes further) next cell = (tier ≡ parts_tier) × IsPart cell further bytes
IsSlot tier Free next cell = IsFree tier cell next
IsSlot tier Loose next cell = Unit {0}
IsSlot tier Outside next cell = Unit {0}

-- The head cell and the tier's cells spell this table of the tier.
pub record SpellsTable (tier : ℕ) (head : List ℕ) (cells : ℕ → List ℕ) (t : Table) : Type 0 where
  pub is : IsTable t
  pub ends : ends_at tier head ≡ ends_bytes (record { free = first t.free; end = t.end })
  pub slots : (i : ℕ) → IsSlot tier (t.slot i) (after i t.free) (cells i)

-- ---- steps

-- the slots with one of them another
abbrev pub with_slot : (ℕ → Slot) → ℕ → Slot → ℕ → Slot
with_slot slot i s = λ j. if j == i then s else slot j

-- the slot that is taken next: the first free one, else the end plus one
abbrev pub next_slot : List ℕ → ℕ → ℕ
next_slot [] end = end + 1
next_slot (s ∷ rest) end = s

abbrev pub free_after : List ℕ → List ℕ
free_after [] = []
free_after (s ∷ rest) = rest

abbrev pub end_after : List ℕ → ℕ → ℕ
end_after [] end = end + 1
end_after (s ∷ rest) end = end

-- a slot is taken
abbrev pub taken : Table → Table
taken t = record {
  slot = with_slot t.slot (next_slot t.free t.end) Loose;
  free = free_after t.free;
  end = end_after t.free t.end;
}

-- so many slots are taken, one after the other
abbrev pub taken_many : ℕ → Table → Table
taken_many zero t = t
taken_many (suc n) t = taken_many n (taken t)

-- these slots, in the order in which they are taken
abbrev pub slots_taken : ℕ → Table → List ℕ
slots_taken zero t = []
slots_taken (suc n) t = next_slot t.free t.end ∷ slots_taken n (taken t)

-- how many slots can be taken
abbrev pub room_of : Table → ℕ
room_of t = length t.free + (2 ^ 32 - 1 - t.end)

-- a slot gets a whole value
abbrev pub holding : Table → ℕ → List ℕ → ℕ → List ℕ → Table
holding t i key count value = record t { slot = with_slot t.slot i (Whole key count value) }

-- the part at a place of a value whose parts lie in these slots, if the place is one of them
abbrev pub part_at : ℕ → List ℕ → List ℕ → Slot → Option ℕ → Slot
part_at head value parts else_slot None = else_slot
part_at head value parts else_slot (Some j) = Part head j (bytes_of_part value j) (slice_index parts (j + 1))

-- a slot gets the head of a value in parts, and these slots its further parts
abbrev pub holding_parts : Table → ℕ → List ℕ → ℕ → List ℕ → List ℕ → Table
holding_parts t h key count value parts = record t {
  slot = λ i. if i == h then Parted key count value parts
      else part_at h value parts (t.slot i) (position (λ s. s == i) parts);
}

-- how many slots a value of so many bytes takes
abbrev pub slots_of : ℕ → ℕ
slots_of len = if tier_of len == parts_tier then 1 + part_count len else 1

-- A value is placed in its tier's table: its slots are taken, the head's first, and hold it then.
abbrev pub placed_in : Table → List ℕ → ℕ → List ℕ → List ℕ → Table
placed_in t key count value [] = t
placed_in t key count value (h ∷ parts) =
    if tier_of (length value) == parts_tier then holding_parts t h key count value parts else holding t h key count value

abbrev pub placed : Table → List ℕ → ℕ → List ℕ → Table
placed t key count value =
    let n = slots_of (length value) in placed_in (taken_many n t) key count value (slots_taken n t)

-- a slot is freed: it becomes the first free one
abbrev pub freed : Table → ℕ → Table
freed t i = record t { slot = with_slot t.slot i Free; free = i ∷ t.free }

abbrev pub freed_all : Table → List ℕ → Table
freed_all t [] = t
freed_all t (s ∷ rest) = freed_all (freed t s) rest

-- the further parts of what a slot holds
abbrev pub parts_of : Slot → List ℕ
parts_of (Whole key count value) = []
parts_of (Parted key count value parts) = parts
parts_of (Part head place bytes next) = []
parts_of Free = []
parts_of Loose = []
parts_of Outside = []

-- A value is removed: its slots are freed from the head to the last part.
abbrev pub removed : Table → ℕ → Table
removed t i = freed_all t (i ∷ parts_of (t.slot i))

-- ---- what a slot holds

-- a key's count and value
pub record Held : Type 0 where
  pub key : List ℕ
  pub count : ℕ
  pub value : List ℕ

-- what a slot holds, where it is a value's first one
abbrev pub held : Slot → Option Held
held (Whole key count value) = Some (record { key = key; count = count; value = value })
held (Parted key count value parts) = Some (record { key = key; count = count; value = value })
held (Part head place bytes next) = None
held Free = None
held Loose = None
held Outside = None

-- the same with another count
abbrev pub with_count : Slot → ℕ → Slot
with_count (Whole key count value) n = Whole key n value
with_count (Parted key count value parts) n = Parted key n value parts
with_count (Part head place bytes next) n = Part head place bytes next
with_count Free n = Free
with_count Loose n = Loose
with_count Outside n = Outside

abbrev pub recounted : Table → ℕ → ℕ → Table
recounted t i n = record t { slot = with_slot t.slot i (with_count (t.slot i) n) }
