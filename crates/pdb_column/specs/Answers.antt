-- What the answers of calls on a column say.
use Rattle.std.specs.Prelude.{◌≡◌, ◌≤◌, ℕ, Bool, true, false, List, length, Option, Some, None, Result, Ok, Err}
use Rattle.sdb_base.specs.Content.{Counted}
use Rattle.sdb_base.specs.declared.op.Op.{Op}
use Rattle.sdb_base.specs.declared.op.Op.TheVariants.{AddRef, DropRef, Put, Erase}
use Rattle.pdb_model.specs.Tiers.{most_stored}
use Rattle.pdb_column.specs.declared.fault.ColumnFault.{ColumnFault}
use Rattle.pdb_column.specs.declared.fault.ColumnFault.TheVariants as column
use Rattle.pdb_column.specs.declared.fault.PlanFault.{PlanFault}
use Rattle.pdb_column.specs.declared.fault.PlanFault.TheVariants as plan

-- the operation's value isn't too long to be stored
abbrev pub IsStorable : Op → Type 0
IsStorable (AddRef key bytes) = length bytes ≤ most_stored
IsStorable (DropRef key) = Unit {0}
IsStorable (Put key bytes) = length bytes ≤ most_stored
IsStorable (Erase key) = Unit {0}

-- What a look-up of a key leaves: its value where it has one, and else what was there before.
abbrev pub IsGot : Option Counted → List ℕ → List ℕ → Bool → Type 0
IsGot None before after found = (found ≡ false) × (after ≡ before)
IsGot (Some held) before after found = (found ≡ true) × (after ≡ held.bytes)

-- the disk failed
abbrev pub look_up_disk_fails : {T : Type 0} → Result T ColumnFault → Bool
look_up_disk_fails (Ok t) = false
look_up_disk_fails (Err column.OutOfMemory) = false
look_up_disk_fails (Err column.Disk) = true
look_up_disk_fails (Err (column.Damaged file cell)) = false

abbrev pub plan_disk_fails : {T : Type 0} → Result T PlanFault → Bool
plan_disk_fails (Ok t) = false
plan_disk_fails (Err plan.OutOfMemory) = false
plan_disk_fails (Err plan.Disk) = true
plan_disk_fails (Err (plan.Damaged file cell)) = false
plan_disk_fails (Err (plan.ChunkFull column bits chunk)) = false
plan_disk_fails (Err (plan.TierFull column tier)) = false

-- of which cells a fault says that they are damaged
abbrev pub LookUpSays : (ℕ → ℕ → Type 0) → ColumnFault → Type 0
LookUpSays IsDamaged column.OutOfMemory = Unit {0}
LookUpSays IsDamaged column.Disk = Unit {0}
LookUpSays IsDamaged (column.Damaged file cell) = IsDamaged file cell

-- of which cells a fault says that they are damaged, and of which chunks and tiers that they are full
abbrev pub PlanSays : (ℕ → ℕ → Type 0) → (ℕ → ℕ → ℕ → Type 0) → (ℕ → ℕ → Type 0) → PlanFault → Type 0
PlanSays IsDamaged IsFull IsFullOf plan.OutOfMemory = Unit {0}
PlanSays IsDamaged IsFull IsFullOf plan.Disk = Unit {0}
PlanSays IsDamaged IsFull IsFullOf (plan.Damaged file cell) = IsDamaged file cell
PlanSays IsDamaged IsFull IsFullOf (plan.ChunkFull column bits chunk) = IsFull column bits chunk
PlanSays IsDamaged IsFull IsFullOf (plan.TierFull column tier) = IsFullOf column tier
