-- Which faults are due for a call on a database.
use Rattle.std.specs.Prelude.{◌≡◌, ◌≢◌, ◌⊎◌, ◌<◌, ◌+◌, ◌-◌, ◌^◌, ℕ, All, Bool, List, length, if◌then◌else◌, Option, Some, None, Result, Ok, Err}
use Rattle.sdb_base.specs.Keeping.{Commits}
use Rattle.sdb_base.specs.declared.Counter.TheVariants as counters
use Rattle.sdb_base.specs.declared.numbers.KeeperCall.{KeeperCall}
use Rattle.sdb_base.specs.declared.numbers.KeeperCall.TheVariants as calls
use Rattle.sdb_base.specs.declared.numbers.KeepFault.{KeepFault}
use Rattle.sdb_base.specs.declared.numbers.Logged.{Logged}
use Rattle.sdb_base.specs.declared.numbers.KeepFault.TheVariants.{OutOfMemory, Disk, Stopped, ValueTooLong, IndexFull, TierFull, Damaged, NumbersEnd}
use Rattle.sdb_base.specs.declared.op.Op.{Op}
use Rattle.pdb_cells.specs.Content.{Content}
use Rattle.pdb_cells.specs.Puts.{IsWholeCell, NoCellTwice}
use Rattle.pdb_cells.specs.declared.puts.Put.{Put}
use Rattle.pdb_column.specs.Storing.{FillsTier}
use Rattle.pdb_disk.specs.Files.{Files}
use Rattle.pdb_log.specs.Standing.{end_of_log}
use Rattle.pdb_model.specs.Logs.{most_in_log}
use Rattle.pdb_model.specs.Records.{record_bytes}
use Rattle.pdb_redo.specs.Reaches.{reach_of}
use Rattle.pdb_redo.specs.Standing.{KeepsRedo, cells_under_records}
use Rattle.pdb_pipe.specs.Commits.{contents_of}
use Rattle.pdb_pipe.specs.Planning.{IsCrowdedAt, IsPlanFault}
use Rattle.pdb_pipe.specs.Reads.{NamesDamage}
use Rattle.pdb_pipe.specs.Stages.{IsNextCommit, logged_of}
use Rattle.pdb_pipe.specs.Standing.{StandsFor, bases_of}
use Rattle.pdb_pipe.specs.declared.database.Database.{Database}

-- the cells after all records, where the disk tells its content
abbrev pub seen_cells : {D : Type 0} → (D → Bool) → (D → ℕ) → (D → ℕ → Files) → Database D → Option Content
seen_cells tells clock past db = if tells db.redo.log.disk then Some (cells_under_records clock past db.redo) else None

-- an earlier write, cut or sync failed, the call of this number
abbrev pub IsStoppedBy : {D : Type 0} → Database D → KeepFault → Type 0
IsStoppedBy db fault = (call : ℕ) × (fault ≡ Stopped call) × (db.redo.stopped ≡ Some call)

-- the accepted commits can't be one more
abbrev pub EndsCommits : {D : Type 0} → Database D → KeepFault → Type 0
EndsCommits db fault = (fault ≡ NumbersEnd counters.Commits) × (db.accepted ≡ 2 ^ 64 - 1)

-- a log file of so many bytes would pass its most bytes by some record of this number with so many commits
abbrev pub PassesLog : ℕ → ℕ → ℕ → Type 0
PassesLog bytes number commits = (puts : List Put) × All IsWholeCell puts × NoCellTwice puts
    × (most_in_log < bytes + length (record_bytes (record { number = number; commits = commits; puts = puts })))

-- the records can't be one more, or the log file would pass its most bytes by the next one
abbrev pub EndsLog : {D : Type 0} → Database D → KeepFault → Type 0
EndsLog db fault = ((fault ≡ NumbersEnd counters.Records) × ((db.redo.appended.number ≡ 2 ^ 64 - 1) ⊎ (db.redo.log.number ≡ 2 ^ 64 - 1)))
    ⊎ ((fault ≡ NumbersEnd counters.LogBytes)
    × PassesLog (end_of_log db.redo.log) (db.redo.appended.number + 1) ((reach_of db.redo).logged + 1))

-- records were enacted since the gate was last moved, and it can't be moved once more
abbrev pub IsAtLastGate : {D : Type 0} → Database D → KeepFault → Type 0
IsAtLastGate db fault = (fault ≡ NumbersEnd counters.Gates) × (db.redo.enacted.number ≢ db.redo.log.gate.number) × (db.redo.log.gate.sequence ≡ 2 ^ 64 - 1)

-- the next commit comes to a chunk without room, where the database stands for commits
abbrev pub IsCrowdedNext : {D : Type 0} → (D → Bool) → (D → ℕ) → (D → ℕ → Files) → Database D → KeepFault → Type 0
IsCrowdedNext tells clock past db fault = (column bits chunk : ℕ) (commits : Commits) (ops : List Op) → fault ≡ IndexFull column bits chunk
    → StandsFor tells clock past db commits → IsNextCommit db commits ops
    → IsCrowdedAt (cells_under_records clock past db.redo) (bases_of db) (contents_of (logged_of db commits)) ops column bits chunk

-- the next commit comes to a tier with too few slots, where the database stands for commits
abbrev pub IsFullNext : {D : Type 0} → (D → Bool) → (D → ℕ) → (D → ℕ → Files) → Database D → KeepFault → Type 0
IsFullNext tells clock past db fault = (column tier : ℕ) (commits : Commits) (ops : List Op) → fault ≡ TierFull column tier
    → StandsFor tells clock past db commits → IsNextCommit db commits ops
    → FillsTier (bases_of db column) (contents_of (logged_of db commits) column) ops column tier

-- a cell is damaged only where the database stands for no commits
abbrev pub IsNoDamage : {D : Type 0} → (D → Bool) → (D → ℕ) → (D → ℕ → Files) → Database D → KeepFault → Type 0
IsNoDamage tells clock past db fault = (file cell : ℕ) (commits : Commits) → fault ≡ Damaged file cell → StandsFor tells clock past db commits → ⊥

-- the operations of the next commit can't be planned over the cells
abbrev pub CannotBePlanned : {D : Type 0} → (D → Bool) → (D → ℕ) → (D → ℕ → Files) → Database D → KeepFault → Type 0
CannotBePlanned tells clock past db fault = IsPlanFault (seen_cells tells clock past db) fault
    × IsCrowdedNext tells clock past db fault × IsFullNext tells clock past db fault × IsNoDamage tells clock past db fault

-- a cell of a column is damaged, which is so only where the database stands for no commits
abbrev pub IsDamaged : {D : Type 0} → (D → Bool) → (D → ℕ) → (D → ℕ → Files) → Database D → ℕ → KeepFault → Type 0
IsDamaged tells clock past db column fault = NamesDamage (seen_cells tells clock past db) column fault × IsNoDamage tells clock past db fault

-- The fault is due for this call, as the database now is. Want of memory and the disk's own faults aren't meant here.
abbrev pub IsDue : {D : Type 0} → (D → Bool) → (D → ℕ) → (D → ℕ → Files) → Database D → KeeperCall → KeepFault → Type 0
IsDue tells clock past db calls.Node fault = IsDamaged tells clock past db 0 fault
IsDue tells clock past db calls.Meta fault = IsDamaged tells clock past db 1 fault
IsDue tells clock past db calls.Commit fault = IsStoppedBy db fault ⊎ EndsCommits db fault
IsDue tells clock past db calls.Log fault = IsStoppedBy db fault ⊎ (EndsLog db fault ⊎ CannotBePlanned tells clock past db fault)
IsDue tells clock past db calls.Flush fault = IsStoppedBy db fault
IsDue tells clock past db calls.Enact fault = IsStoppedBy db fault
IsDue tells clock past db calls.Clean fault = IsStoppedBy db fault ⊎ IsAtLastGate db fault
IsDue tells clock past db calls.Grow fault = IsStoppedBy db fault

-- A call of a database that wasn't stopped: it is stopped after it just where a write, cut or sync failed, by the number of that call,
-- and then it answered that the disk failed.
abbrev pub StopsWith : {T : Type 0} → ℕ → Option ℕ → Result T KeepFault → Type 0
StopsWith now stopped (Ok t) = stopped ≡ None
StopsWith now stopped (Err Disk) = stopped ≡ Some now
StopsWith now stopped (Err OutOfMemory) = stopped ≡ None
StopsWith now stopped (Err (Stopped call)) = ⊥
StopsWith now stopped (Err (ValueTooLong len)) = stopped ≡ None
StopsWith now stopped (Err (IndexFull column bits chunk)) = stopped ≡ None
StopsWith now stopped (Err (TierFull column tier)) = stopped ≡ None
StopsWith now stopped (Err (Damaged file cell)) = stopped ≡ None
StopsWith now stopped (Err (NumbersEnd which)) = stopped ≡ None

-- A `log` of a database that wasn't stopped: where it answered that the disk failed, either nothing but reads happened, or it is
-- stopped after it, by the number of the write that failed. After any other answer it isn't stopped.
abbrev pub LogStops : {D : Type 0} → (D → Bool) → (D → ℕ) → (D → ℕ → Files) → (D → ℕ) → Database D → Result Logged KeepFault → Database D → Type 0
LogStops tells clock past fault_count old (Ok answer) new = new.redo.stopped ≡ None
LogStops tells clock past fault_count old (Err Disk) new =
    KeepsRedo tells clock past fault_count old.redo new.redo ⊎ (new.redo.stopped ≡ Some (clock new.redo.log.disk))
LogStops tells clock past fault_count old (Err OutOfMemory) new = new.redo.stopped ≡ None
LogStops tells clock past fault_count old (Err (Stopped call)) new = ⊥
LogStops tells clock past fault_count old (Err (ValueTooLong len)) new = new.redo.stopped ≡ None
LogStops tells clock past fault_count old (Err (IndexFull column bits chunk)) new = new.redo.stopped ≡ None
LogStops tells clock past fault_count old (Err (TierFull column tier)) new = new.redo.stopped ≡ None
LogStops tells clock past fault_count old (Err (Damaged file cell)) new = new.redo.stopped ≡ None
LogStops tells clock past fault_count old (Err (NumbersEnd which)) new = new.redo.stopped ≡ None
