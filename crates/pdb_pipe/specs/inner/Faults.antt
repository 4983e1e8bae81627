-- Faults of the layers below as a keeper's.
use Rattle.sdb_base.specs.declared.numbers.KeepFault.{KeepFault}
use Rattle.sdb_base.specs.declared.numbers.KeepFault.TheVariants as keep
use Rattle.pdb_column.specs.declared.fault.ColumnFault.{ColumnFault}
use Rattle.pdb_column.specs.declared.fault.ColumnFault.TheVariants as column
use Rattle.pdb_column.specs.declared.fault.PlanFault.{PlanFault}
use Rattle.pdb_column.specs.declared.fault.PlanFault.TheVariants as plan
use Rattle.pdb_redo.specs.declared.fault.RedoFault.{RedoFault}
use Rattle.pdb_redo.specs.declared.fault.RedoFault.TheVariants as redo

abbrev pub look_up_as : ColumnFault → KeepFault
look_up_as column.OutOfMemory = keep.OutOfMemory
look_up_as column.Disk = keep.Disk
look_up_as (column.Damaged file cell) = keep.Damaged file cell

abbrev pub plan_as : PlanFault → KeepFault
plan_as plan.OutOfMemory = keep.OutOfMemory
plan_as plan.Disk = keep.Disk
plan_as (plan.Damaged file cell) = keep.Damaged file cell
plan_as (plan.ChunkFull column bits chunk) = keep.IndexFull column bits chunk
plan_as (plan.TierFull column tier) = keep.TierFull column tier

abbrev pub redo_as : RedoFault → KeepFault
redo_as redo.OutOfMemory = keep.OutOfMemory
redo_as (redo.Disk fault) = keep.Disk
redo_as (redo.Stopped call) = keep.Stopped call
redo_as (redo.NumbersEnd which) = keep.NumbersEnd which
