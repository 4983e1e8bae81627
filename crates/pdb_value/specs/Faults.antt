-- What the faults of calls on values say.
use Rattle.std.specs.Prelude.{◌≡◌, ◌⊎◌, ℕ, ◌-◌, ◌^◌, Bool, true, false, List, Option, Some, Result, Ok, Err}
use Rattle.pdb_cells.specs.Content.{Content}
use Rattle.pdb_cells.specs.Puts.{drafted}
use Rattle.pdb_cells.specs.declared.puts.Put.{Put}
use Rattle.pdb_model.specs.Breaks.{HasEnd, IsBrokenHead, IsNotFree}
use Rattle.pdb_model.specs.Files.{head_cell, table_cells, table_file}
use Rattle.pdb_model.specs.Heads.{ends_at, ends_bytes}
use Rattle.pdb_model.specs.Tables.{SpellsTable, Table}
use Rattle.pdb_value.specs.declared.fault.ValueFault.{ValueFault}
use Rattle.pdb_value.specs.declared.fault.ValueFault.TheVariants.{Damaged, Disk, OutOfMemory, TierFull}

-- the content of a draft with these puts, over cells of which this is observable
abbrev pub Drafts : List Put → Option Content → Content → Type 0
Drafts puts below cells = drafted puts below ≡ Some cells

-- the disk failed
abbrev pub disk_fails : {T : Type 0} → Result T ValueFault → Bool
disk_fails (Ok t) = false
disk_fails (Err OutOfMemory) = false
disk_fails (Err Disk) = true
disk_fails (Err (Damaged file cell)) = false
disk_fails (Err (TierFull tier)) = false

-- of which cells a fault says that they are damaged, and of which tiers that they are full
abbrev pub FaultSays : (ℕ → ℕ → Type 0) → (ℕ → Type 0) → ValueFault → Type 0
FaultSays IsDamaged IsFull OutOfMemory = Unit {0}
FaultSays IsDamaged IsFull Disk = Unit {0}
FaultSays IsDamaged IsFull (Damaged file cell) = IsDamaged file cell
FaultSays IsDamaged IsFull (TierFull tier) = IsFull tier

-- no cell and no tier
abbrev pub NoCell : ℕ → ℕ → Type 0
NoCell file cell = ⊥

abbrev pub NoTier : ℕ → Type 0
NoTier tier = ⊥

-- A cell that breaks the rules where slots of a column's tier are taken: the head cell, or a slot on the free list that
-- isn't a free one.
abbrev pub BreaksFreeList : ℕ → ℕ → Content → ℕ → ℕ → Type 0
BreaksFreeList column tier cells file cell = IsBrokenHead cells column file cell
    ⊎ ((file ≡ table_file column tier) × ((end : ℕ) × HasEnd cells column tier end × IsNotFree tier end (cells file cell)))

-- no slot of a tier is left, as the column's head cell says
abbrev pub IsFullTier : Content → ℕ → ℕ → Type 0
IsFullTier cells column tier = ends_at tier (head_cell cells column) ≡ ends_bytes (record { free = 0; end = 2 ^ 32 - 1 })

-- a column's tier spells this table
abbrev pub HasTable : Content → ℕ → ℕ → Table → Type 0
HasTable cells column tier t = SpellsTable tier (head_cell cells column) (table_cells cells column tier) t
