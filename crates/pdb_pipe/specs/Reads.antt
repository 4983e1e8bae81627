-- What a look-up in a column costs, and of which faults it tells.
use Rattle.std.specs.Prelude.{◌≡◌, ◌+◌, ℕ, List, length, Option, Some, None}
use Rattle.sdb_base.specs.declared.numbers.KeepFault.{KeepFault}
use Rattle.sdb_base.specs.declared.numbers.KeepFault.TheVariants.{Damaged}
use Rattle.pdb_cells.specs.Content.{Content}
use Rattle.pdb_model.specs.Tables.{slots_of}
use Rattle.pdb_model.specs.Tiers.{most_stored}
use Rattle.pdb_column.specs.Damages.{BreaksColumn}

-- at most so many cells are read to find these bytes, or that there are none: a chunk, a slot for each of its 64 entries, and the
-- further parts of the value
abbrev pub reads_for : Option (List ℕ) → ℕ
reads_for None = 65
reads_for (Some bytes) = 64 + slots_of (length bytes)

-- at most so many, whatever is found
abbrev pub most_reads : ℕ
most_reads = 64 + slots_of most_stored

-- a cell of this column is named that breaks the rules, where the cells are observable
abbrev pub NamesDamage : Option Content → ℕ → KeepFault → Type 0
NamesDamage seen column fault = (file : ℕ) × (cell : ℕ) × (fault ≡ Damaged file cell)
    × ((cells : Content) → seen ≡ Some cells → BreaksColumn cells column file cell)
