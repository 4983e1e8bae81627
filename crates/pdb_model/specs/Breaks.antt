-- Cells that break the rules, in any bytes whatever.
use Rattle.std.specs.Prelude.{◌≡◌, ◌≢◌, ◌⊎◌, ◌<◌, ◌≤◌, ◌+◌, ◌-◌, ◌*◌, ◌==◌, ℕ, List, length, min}
use Rattle.pdb_cells.specs.Content.{Content}
use Rattle.pdb_cells.specs.Sizes.{head_file}
use Rattle.pdb_model.specs.Tiers.{in_head, in_part, parts_tier}
use Rattle.pdb_model.specs.Heads.{Head, IsHead, IsHeadCell, SpellsHead}
use Rattle.pdb_model.specs.Slots.{IsFree, IsHeadOfParts, IsPart, IsWhole}
use Rattle.pdb_model.specs.Files.{head_cell, table_file}

-- the column's head cell says this end of a tier
abbrev pub HasEnd : Content → ℕ → ℕ → ℕ → Type 0
HasEnd cells column tier end = (h : Head) × SpellsHead (head_cell cells column) h × IsHead h × ((h.ends tier).end ≡ end)

-- the cell is the column's head cell, and breaks the rules
pub record IsBrokenHead (cells : Content) (column file cell : ℕ) : Type 0 where
  pub is_file : file ≡ head_file
  pub is_cell : cell ≡ column
  pub broken : IsHeadCell (head_cell cells column) → ⊥

-- a slot of a tier with an end that isn't a free slot, or whose next free slot is above the end
abbrev pub IsNotFree : ℕ → ℕ → List ℕ → Type 0
IsNotFree tier end cell = (next : ℕ) → IsFree tier cell next → end < next

-- A slot that isn't a value's first one: neither a whole value, nor the head of one in parts, whose next slot is one of
-- the tier.
pub record IsNoValue (tier end : ℕ) (cell : List ℕ) : Type 0 where
  pub not_whole : (key : List ℕ) (count : ℕ) (value : List ℕ) → IsWhole tier cell key count value → ⊥
  pub not_head : (key : List ℕ) (count whole next : ℕ) (value : List ℕ) → tier ≡ parts_tier
      → IsHeadOfParts cell key count whole next value → (next ≡ 0) ⊎ (end < next)

-- how many bytes the next further part has where so many are left, and whether it is the last
abbrev pub part_len : ℕ → ℕ
part_len left = min in_part left

-- A slot that isn't the further part that a value needs of which so many bytes are left: it has another number of bytes,
-- is the last one too early or not at the end, or its next slot is above the end.
abbrev pub IsNoPart : ℕ → ℕ → List ℕ → Type 0
IsNoPart left end cell = (next : ℕ) (bytes : List ℕ) → IsPart cell next bytes
    → (length bytes ≢ part_len left) ⊎ (((left ≤ in_part) × (next ≢ 0)) ⊎ (((in_part < left) × (next ≡ 0)) ⊎ (end < next)))

-- A slot of a column's tier that breaks the rules where a free list or an entry names it, or as a further part of a value
-- of which so many bytes are left.
abbrev pub IsBrokenSlot : Content → ℕ → ℕ → ℕ → ℕ → Type 0
IsBrokenSlot cells column tier file cell = (file ≡ table_file column tier) × ((end : ℕ) × HasEnd cells column tier end
    × (IsNotFree tier end (cells file cell) ⊎ (IsNoValue tier end (cells file cell)
    ⊎ ((left : ℕ) × (1 ≤ left) × (tier ≡ parts_tier) × IsNoPart left end (cells file cell)))))
