-- What planning a commit's operations over cells comes to.
use Rattle.std.specs.Prelude.{◌≡◌, ◌≤◌, ℕ, List, Option, Some}
use Rattle.sdb_base.specs.declared.op.Op.{Op}
use Rattle.sdb_base.specs.declared.numbers.KeepFault.{KeepFault}
use Rattle.sdb_base.specs.declared.numbers.KeepFault.TheVariants.{OutOfMemory, Disk, Stopped, ValueTooLong, IndexFull, TierFull, Damaged, NumbersEnd}
use Rattle.pdb_cells.specs.Content.{Content}
use Rattle.pdb_cells.specs.Puts.{laid}
use Rattle.pdb_cells.specs.declared.puts.Put.{Put}
use Rattle.pdb_value.specs.Faults.{IsFullTier}
use Rattle.pdb_column.specs.Damages.{BreaksColumn, IsFullChunk}
use Rattle.pdb_column.specs.Maps.{ColumnMap, FillsChunk}
use Rattle.pdb_column.specs.Storing.{FillsTier, HasPlaced}

-- no chunk is without room for an operation that comes to it
abbrev pub HasRoomFor : (ℕ → ℕ) → (ℕ → ColumnMap) → List Op → Type 0
HasRoomFor bases contents ops = (column bits chunk : ℕ) → column ≤ 1 → FillsChunk (bases column) (contents column) ops column bits chunk → ⊥

-- the operations come to one for which this chunk has no room, and its slots were taken before
abbrev pub IsCrowdedAt : Content → (ℕ → ℕ) → (ℕ → ColumnMap) → List Op → ℕ → ℕ → ℕ → Type 0
IsCrowdedAt cells bases contents ops column bits chunk = (puts : List Put) × HasPlaced (laid puts cells) (bases column) (contents column) ops column bits chunk

-- Why operations couldn't be planned over cells that hold these contents: for want of memory, by the disk, at a chunk or a tier
-- without room. No cell is damaged.
abbrev pub PlanEnds : Content → (ℕ → ℕ) → (ℕ → ColumnMap) → List Op → KeepFault → Type 0
PlanEnds cells bases contents ops OutOfMemory = Unit {0}
PlanEnds cells bases contents ops Disk = Unit {0}
PlanEnds cells bases contents ops (Stopped call) = ⊥
PlanEnds cells bases contents ops (ValueTooLong len) = ⊥
PlanEnds cells bases contents ops (IndexFull column bits chunk) = IsCrowdedAt cells bases contents ops column bits chunk
PlanEnds cells bases contents ops (TierFull column tier) = FillsTier (bases column) (contents column) ops column tier
PlanEnds cells bases contents ops (Damaged file cell) = ⊥
PlanEnds cells bases contents ops (NumbersEnd which) = ⊥

-- Why operations couldn't be planned, whatever the cells hold: as planning came to it, after some puts, a cell breaks the rules,
-- a chunk has 64 entries, or a tier has no slot.
abbrev pub IsPlanFault : Option Content → KeepFault → Type 0
IsPlanFault seen OutOfMemory = ⊥
IsPlanFault seen Disk = ⊥
IsPlanFault seen (Stopped call) = ⊥
IsPlanFault seen (ValueTooLong len) = ⊥
IsPlanFault seen (IndexFull column bits chunk) = (cells : Content) → seen ≡ Some cells → (puts : List Put) × IsFullChunk (laid puts cells) column bits chunk
IsPlanFault seen (TierFull column tier) = (cells : Content) → seen ≡ Some cells → (puts : List Put) × IsFullTier (laid puts cells) column tier
IsPlanFault seen (Damaged file cell) = (cells : Content) → seen ≡ Some cells
    → (puts : List Put) × (column : ℕ) × (column ≤ 1) × BreaksColumn (laid puts cells) column file cell
IsPlanFault seen (NumbersEnd which) = ⊥
