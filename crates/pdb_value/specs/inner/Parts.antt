-- What is read of a further part.
use Rattle.std.specs.Prelude.{◌≡◌, ◌≤◌, ◌<◌, ℕ}
use Rattle.pdb_cells.specs.Content.{Content}
use Rattle.pdb_model.specs.Breaks.{IsNoPart}
use Rattle.pdb_model.specs.Files.{table_cells, table_file}
use Rattle.pdb_model.specs.Tiers.{in_part, parts_tier}

-- the next slot of a part fits the bytes that are left with it
pub record IsPartAfter (left end next : ℕ) : Type 0 where
  pub last : left ≤ in_part → next ≡ 0
  pub more : in_part < left → 1 ≤ next
  pub within : next ≤ end

-- this slot is not the part that is needed
abbrev pub IsBrokenPart : Content → ℕ → ℕ → ℕ → ℕ → ℕ → ℕ → Type 0
IsBrokenPart cells column slot left end file cell =
    (file ≡ table_file column parts_tier) × (cell ≡ slot) × IsNoPart left end (table_cells cells column parts_tier slot)
