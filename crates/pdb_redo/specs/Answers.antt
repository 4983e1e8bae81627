-- What the answers of calls on a redo say.
use Rattle.std.specs.Prelude.{◌≡◌, ◌⊎◌, ℕ, Bool, true, false, Option, Some, None, Result, Ok, Err}
use Rattle.pdb_disk.specs.Files.{Image}
use Rattle.pdb_model.specs.Logs.{HasGate, gate_file}
use Rattle.pdb_model.specs.declared.gate_slot.GateSlot.{GateSlot}
use Rattle.sdb_base.specs.declared.Counter.TheVariants.{Gates, LogBytes, Records}
use Rattle.pdb_redo.specs.declared.fault.CreateCause.{CreateCause}
use Rattle.pdb_redo.specs.declared.fault.CreateCause.TheVariants as create
use Rattle.pdb_redo.specs.declared.fault.CreateFault.{CreateFault}
use Rattle.pdb_redo.specs.declared.fault.RedoFault.{RedoFault}
use Rattle.pdb_redo.specs.declared.fault.RedoFault.TheVariants as redo
use Rattle.pdb_redo.specs.declared.redo_log.Redo.{Redo}

-- the disk failed
abbrev pub is_redo_disk : RedoFault → Bool
is_redo_disk redo.OutOfMemory = false
is_redo_disk (redo.Stopped call) = false
is_redo_disk (redo.NumbersEnd which) = false
is_redo_disk (redo.Disk fault) = true

abbrev pub redo_disk_fails : {T : Type 0} → Result T RedoFault → Bool
redo_disk_fails (Ok t) = false
redo_disk_fails (Err e) = is_redo_disk e

abbrev pub is_create_disk : CreateCause → Bool
is_create_disk create.OutOfMemory = false
is_create_disk create.Occupied = false
is_create_disk (create.Disk fault) = true

abbrev pub create_disk_fails : {D : Type 0} → Result (Redo D) (CreateFault D) → Bool
create_disk_fails (Ok r) = false
create_disk_fails (Err e) = is_create_disk e.fault

-- the disk, however the call ended
abbrev pub created_disk : {D : Type 0} → Result (Redo D) (CreateFault D) → D
created_disk (Ok r) = r.log.disk
created_disk (Err e) = e.disk

-- causes of a call that reads
abbrev pub IsOfRedoRead : RedoFault → Type 0
IsOfRedoRead redo.OutOfMemory = ⊥
IsOfRedoRead (redo.Stopped call) = ⊥
IsOfRedoRead (redo.NumbersEnd which) = ⊥
IsOfRedoRead (redo.Disk fault) = Unit {0}

-- causes of `append`
abbrev pub IsOfAppending : RedoFault → Type 0
IsOfAppending redo.OutOfMemory = Unit {0}
IsOfAppending (redo.Stopped call) = Unit {0}
IsOfAppending (redo.NumbersEnd which) = (which ≡ Records) ⊎ (which ≡ LogBytes)
IsOfAppending (redo.Disk fault) = Unit {0}

-- causes of `flush` and `enact`
abbrev pub IsOfFlushing : RedoFault → Type 0
IsOfFlushing redo.OutOfMemory = ⊥
IsOfFlushing (redo.Stopped call) = Unit {0}
IsOfFlushing (redo.NumbersEnd which) = ⊥
IsOfFlushing (redo.Disk fault) = Unit {0}

-- causes of `clean`
abbrev pub IsOfCleaning : RedoFault → Type 0
IsOfCleaning redo.OutOfMemory = ⊥
IsOfCleaning (redo.Stopped call) = Unit {0}
IsOfCleaning (redo.NumbersEnd which) = which ≡ Gates
IsOfCleaning (redo.Disk fault) = Unit {0}

-- A call of a session in which none failed before: it stops just where the disk failed, by the number of that call.
abbrev pub StopsAt : {T : Type 0} → ℕ → Option ℕ → Result T RedoFault → Type 0
StopsAt now stopped (Ok t) = stopped ≡ None
StopsAt now stopped (Err redo.OutOfMemory) = stopped ≡ None
StopsAt now stopped (Err (redo.Stopped call)) = ⊥
StopsAt now stopped (Err (redo.NumbersEnd which)) = stopped ≡ None
StopsAt now stopped (Err (redo.Disk fault)) = stopped ≡ Some now

-- what each cause of creating says of the files as they read before
abbrev pub CreateSays : Image → CreateCause → Type 0
CreateSays x create.OutOfMemory = Unit {0}
CreateSays x create.Occupied = (g : GateSlot) × HasGate (x gate_file) g
CreateSays x (create.Disk fault) = Unit {0}
