-- What the answers of recovery say.
use Rattle.std.specs.Prelude.{◌≡◌, ◌-◌, ◌<◌, ◌+◌, ◌^◌, ℕ, Bool, true, false, Result, Ok, Err}
use Rattle.pdb_cells.specs.Sizes.{head_file}
use Rattle.pdb_disk.specs.Files.{Image}
use Rattle.pdb_model.specs.Files.{head_cell}
use Rattle.pdb_model.specs.Logs.{HasGate, IsFound, IsGate, gate_file}
use Rattle.pdb_model.specs.Records.{Record}
use Rattle.pdb_model.specs.Recovery.{Laid, Row}
use Rattle.pdb_model.specs.declared.gate_slot.GateSlot.{GateSlot}
use Rattle.sdb_base.specs.declared.Counter.TheVariants.{Gates}
use Rattle.pdb_recover.specs.Heads.{AreSteadyHeads, IsSteadyHead}
use Rattle.pdb_recover.specs.declared.cause.OpenCause.{OpenCause}
use Rattle.pdb_recover.specs.declared.cause.OpenCause.TheVariants.{Damaged, Disk, NoDatabase, NumbersEnd, OutOfMemory}
use Rattle.pdb_recover.specs.declared.cause.OpenFault.{OpenFault}
use Rattle.pdb_recover.specs.declared.pending_puts.Pending.{Pending}
use Rattle.pdb_recover.specs.declared.recovery.Recovered.{Recovered}

-- the disk failed
abbrev pub is_open_disk : OpenCause → Bool
is_open_disk OutOfMemory = false
is_open_disk (Disk fault) = true
is_open_disk NoDatabase = false
is_open_disk (NumbersEnd which) = false
is_open_disk (Damaged file cell) = false

abbrev pub open_disk_fails : {T : Type 0} → Result T OpenCause → Bool
open_disk_fails (Ok t) = false
open_disk_fails (Err e) = is_open_disk e

abbrev pub recover_disk_fails : {D : Type 0} → Result (Recovered D) (OpenFault D) → Bool
recover_disk_fails (Ok r) = false
recover_disk_fails (Err e) = is_open_disk e.fault

-- the disk, however recovery ended
abbrev pub disk_left : {D : Type 0} → Result (Recovered D) (OpenFault D) → D
disk_left (Ok r) = r.disk
disk_left (Err e) = e.disk

-- the gate that is in force after it
abbrev pub gate_left : {D : Type 0} → Recovered D → GateSlot
gate_left r = record { sequence = r.sequence; number = r.number; commits = r.commits }

-- causes of a call that reads a log file
abbrev pub IsOfReading : OpenCause → Type 0
IsOfReading OutOfMemory = Unit {0}
IsOfReading (Disk fault) = Unit {0}
IsOfReading NoDatabase = ⊥
IsOfReading (NumbersEnd which) = ⊥
IsOfReading (Damaged file cell) = ⊥

-- causes of `pending`
abbrev pub IsOfPending : Image → OpenCause → Type 0
IsOfPending x OutOfMemory = Unit {0}
IsOfPending x (Disk fault) = Unit {0}
IsOfPending x NoDatabase = (g : GateSlot) → HasGate (x gate_file) g → ⊥
IsOfPending x (NumbersEnd which) = ⊥
IsOfPending x (Damaged file cell) = ⊥

-- there is no database, or the disk failed
abbrev pub FindsNothing : {T : Type 0} → Result T OpenCause → Type 0
FindsNothing (Ok t) = ⊥
FindsNothing (Err OutOfMemory) = ⊥
FindsNothing (Err (Disk fault)) = Unit {0}
FindsNothing (Err NoDatabase) = Unit {0}
FindsNothing (Err (NumbersEnd which)) = ⊥
FindsNothing (Err (Damaged file cell)) = ⊥

-- causes of writing cells and gate
abbrev pub IsOfPassing : OpenCause → Type 0
IsOfPassing OutOfMemory = ⊥
IsOfPassing (Disk fault) = Unit {0}
IsOfPassing NoDatabase = ⊥
IsOfPassing (NumbersEnd which) = which ≡ Gates
IsOfPassing (Damaged file cell) = ⊥

-- causes of checking head cells; a damaged one has this
abbrev pub IsOfHeads : (ℕ → Type 0) → OpenCause → Type 0
IsOfHeads P OutOfMemory = ⊥
IsOfHeads P (Disk fault) = Unit {0}
IsOfHeads P NoDatabase = ⊥
IsOfHeads P (NumbersEnd which) = ⊥
IsOfHeads P (Damaged file cell) = (file ≡ head_file) × P cell

-- a record was found, and the gate in force has the last sequence
abbrev pub EndsGates : Pending → Type 0
EndsGates p = (p.gate.number < p.number) × (p.gate.sequence ≡ 2 ^ 64 - 1)

-- a record is to be passed, and the gate in force has the last sequence
abbrev pub GatesEnd : Image → Type 0
GatesEnd x = (g : GateSlot) × (r : Record) × IsGate (x gate_file) g × (g.sequence ≡ 2 ^ 64 - 1) × IsFound x r × (r.number ≡ g.number + 1)

-- what each cause of recovery says of the files as they read before
abbrev pub OpenSays : Image → OpenCause → Type 0
OpenSays x OutOfMemory = Unit {0}
OpenSays x (Disk fault) = Unit {0}
OpenSays x NoDatabase = (g : GateSlot) → HasGate (x gate_file) g → ⊥
OpenSays x (NumbersEnd which) = (which ≡ Gates) × GatesEnd x
OpenSays x (Damaged file cell) = (file ≡ head_file) × (cell < 2) × (¬ GatesEnd x) × ((row : Row) × Laid x row)
    × ((row : Row) → Laid x row → AreSteadyHeads row.cells cell × ¬ IsSteadyHead (head_cell row.cells cell))
