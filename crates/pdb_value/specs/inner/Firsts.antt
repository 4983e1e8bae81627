-- What is read of a value's first slot.
use Rattle.std.specs.Prelude.{◌≡◌, ◌⊎◌, ◌+◌, ◌≤◌, ◌<◌, ℕ, List, length}
use Rattle.pdb_cells.specs.Content.{Content}
use Rattle.pdb_model.specs.Breaks.{HasEnd, IsBrokenHead, IsNoValue}
use Rattle.pdb_model.specs.Files.{table_cells, table_file}
use Rattle.pdb_model.specs.Slots.{IsHeadOfParts, IsWhole}
use Rattle.pdb_model.specs.Tiers.{parts_tier, slot_size, tier_of}

-- the cell of a tier with an end spells the first slot of a value of so many bytes, whose next slot is given, 0 for none
abbrev pub IsFirst : ℕ → ℕ → List ℕ → List ℕ → ℕ → ℕ → ℕ → Type 0
IsFirst tier end cell key count len next =
    ((value : List ℕ) × IsWhole tier cell key count value × (len ≡ length value) × (next ≡ 0))
    ⊎ ((tier ≡ parts_tier) × ((value : List ℕ) × IsHeadOfParts cell key count len next value × (1 ≤ next) × (next ≤ end)))

-- the head cell breaks the rules, or this slot is no value's first one
abbrev pub BreaksFirst : Content → ℕ → ℕ → ℕ → ℕ → ℕ → Type 0
BreaksFirst cells column tier slot file cell = IsBrokenHead cells column file cell
    ⊎ ((file ≡ table_file column tier) × (cell ≡ slot) × ((end : ℕ) × HasEnd cells column tier end × IsNoValue tier end (table_cells cells column tier slot)))

-- the length and the next slot that a value's first slot may have
pub record FitsFirst (tier end len next : ℕ) : Type 0 where
  pub whole : tier < 15 → 44 + len ≤ slot_size tier
  pub parted : tier ≡ 15 → (32724 < len) × (1 ≤ next) × (next ≤ end)
  pub most : len ≤ 8388608
  pub lowest : tier ≡ tier_of len
