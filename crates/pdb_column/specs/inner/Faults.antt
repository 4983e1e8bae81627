-- The faults of calls on values, and of steps of a plan, as those of calls on a column.
use Rattle.std.specs.Prelude.{ℕ, Bool, false, Result, Ok, Err}
use Rattle.pdb_value.specs.Faults.{FaultSays, disk_fails}
use Rattle.pdb_value.specs.declared.fault.ValueFault.{ValueFault}
use Rattle.pdb_value.specs.declared.fault.ValueFault.TheVariants as value
use Rattle.pdb_column.specs.declared.fault.ColumnFault.{ColumnFault}
use Rattle.pdb_column.specs.declared.fault.ColumnFault.TheVariants as column
use Rattle.pdb_column.specs.declared.fault.PlanFault.{PlanFault}
use Rattle.pdb_column.specs.declared.fault.PlanFault.TheVariants as plan
use Rattle.pdb_column.specs.declared.fault.StepFault.{StepFault}
use Rattle.pdb_column.specs.declared.fault.StepFault.TheVariants as step

-- A look-up takes no slot, so that no tier is full for it.
abbrev pub as_look_up : ValueFault → ColumnFault
as_look_up value.OutOfMemory = column.OutOfMemory
as_look_up value.Disk = column.Disk
as_look_up (value.Damaged file cell) = column.Damaged file cell
as_look_up (value.TierFull tier) = column.OutOfMemory

-- the fault of a step in a column as one of a plan
abbrev pub value_planned : ℕ → ValueFault → PlanFault
value_planned c value.OutOfMemory = plan.OutOfMemory
value_planned c value.Disk = plan.Disk
value_planned c (value.Damaged file cell) = plan.Damaged file cell
value_planned c (value.TierFull tier) = plan.TierFull c tier

abbrev pub as_planned : ℕ → StepFault → PlanFault
as_planned c (step.Value fault) = value_planned c fault
as_planned c (step.ChunkFull bits chunk) = plan.ChunkFull c bits chunk

-- the disk failed
abbrev pub step_disk_fails : {T : Type 0} → Result T StepFault → Bool
step_disk_fails (Ok t) = false
step_disk_fails (Err (step.Value fault)) = disk_fails {T = ℕ} (Err fault)
step_disk_fails (Err (step.ChunkFull bits chunk)) = false

-- of which cells the fault of a step says that they are damaged, and of which chunks and tiers that they are full
abbrev pub StepSays : (ℕ → ℕ → Type 0) → (ℕ → Type 0) → (ℕ → ℕ → Type 0) → StepFault → Type 0
StepSays IsDamaged IsFullOf IsFull (step.Value fault) = FaultSays IsDamaged IsFullOf fault
StepSays IsDamaged IsFullOf IsFull (step.ChunkFull bits chunk) = IsFull bits chunk

-- any tier
abbrev pub AnyTier : ℕ → Type 0
AnyTier tier = Unit {0}

-- any cell
abbrev pub AnyCell : ℕ → ℕ → Type 0
AnyCell file cell = Unit {0}

-- any chunk
abbrev pub AnyChunk : ℕ → ℕ → Type 0
AnyChunk bits chunk = Unit {0}
