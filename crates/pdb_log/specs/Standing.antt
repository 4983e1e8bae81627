-- What a log's fields say of the files.
use Rattle.std.specs.Prelude.{IsTrue, ◌≡◌, ◌≤◌, ◌==◌, ◌&&◌, ℕ, ◌+◌, ◌*◌, Bool, List, ◌++◌, Contains, if◌then◌else◌, length, nat_le, slice_index}
use Rattle.pdb_cells.specs.declared.Put.{Put}
use Rattle.pdb_disk.specs.Files.{Files}
use Rattle.pdb_model.specs.Logs.{IsLogFile, gate_file, most_in_log}
use Rattle.pdb_model.specs.Records.{Record}
use Rattle.pdb_model.specs.Recovery.{Row}
use Rattle.pdb_model.specs.declared.gate_slot.GateSlot.{GateSlot}
use Rattle.pdb_log.specs.Ledger.{AreRows, IsKeptGate, IsSegment, Ledger, StandsInFiles, emptied, file_of, records_of, spelled_records}
use Rattle.pdb_log.specs.declared.log.Log.{Log}

-- The log stands for these rows, the one at place f being that of the last flushed record, and its records lie in the files as
-- the ledger says.
pub record IsLog {D : Type 0} (tells : D → Bool) (clock : D → ℕ) (past : D → ℕ → Files) (log : Log D) (l : Ledger) (rows : List Row) (f : ℕ) : Type 0 where
  pub told : IsTrue (tells log.disk)
  pub stands : StandsInFiles (past log.disk (clock log.disk)) l
  pub gate : IsKeptGate (past log.disk (clock log.disk) gate_file) l.gate
  pub gate_read : (past log.disk (clock log.disk) gate_file).read ≡ (past log.disk (clock log.disk) gate_file).kept
  pub segments : (j : ℕ) → IsLogFile j → IsSegment (past log.disk (clock log.disk) j) (l.segments j)
  pub are : AreRows rows f (past log.disk (clock log.disk)) l
  pub len : length rows ≡ f + length l.rest + 1
  pub read : (j : ℕ) → IsLogFile j → (past log.disk (clock log.disk) j).read ≡ file_of (spelled_records (records_of (l.segments j)))
  -- the fields
  pub gate_is : log.gate ≡ l.gate
  pub ends : (j : ℕ) → IsLogFile j → slice_index log.ends j ≡ length (spelled_records (records_of (l.segments j)))
  pub within : (j : ℕ) → IsLogFile j → length (spelled_records (records_of (l.segments j))) ≤ most_in_log
  pub synced : (j : ℕ) → IsLogFile j → slice_index log.synced j ≡ length (spelled_records (l.segments j).kept)
  pub lasts : (j : ℕ) → IsLogFile j → slice_index log.last j + 1 ≡ (l.segments j).first + length (records_of (l.segments j))
  -- what isn't synced in its file isn't flushed
  pub unflushed : (j : ℕ) (r : Record) → IsLogFile j → Contains (l.segments j).pending r → Contains l.rest r
  pub in_file : log.number + 1 ≡ (l.segments log.file.number).first + length (records_of (l.segments log.file.number))
  pub in_log : log.number ≡ l.gate.number + length (l.flushed ++ l.rest)

-- the record that comes next, and where the current file ends
abbrev pub next_record : {D : Type 0} → Log D → ℕ → List Put → Record
next_record log commits puts = record { number = log.number + 1; commits = commits; puts = puts }

abbrev pub end_of_log : {D : Type 0} → Log D → ℕ
end_of_log log = slice_index log.ends log.file.number

-- the gate that comes next
abbrev pub next_gate : {D : Type 0} → Log D → ℕ → ℕ → GateSlot
next_gate log number commits = record { sequence = log.gate.sequence + 1; number = number; commits = commits }

-- the log file after this one
abbrev pub next_in_ring : ℕ → ℕ
next_in_ring file = if file == 4 then 1 else file + 1

-- the current file has its bytes, and the next one is empty
abbrev pub turns : {D : Type 0} → Log D → Bool
turns log = nat_le 262144 (end_of_log log) && (slice_index log.ends (next_in_ring log.file.number) == 0)

-- the next file becomes current where that is so
abbrev pub turned : {D : Type 0} → Log D → Ledger → Ledger
turned log l = if turns log then emptied l (next_in_ring log.file.number) (log.number + 1) else l

-- these bytes at this place of a file are the cell that is put
pub record IsCellAt (p : Put) (file at : ℕ) (bytes : List ℕ) : Type 0 where
  pub here : p.name.file ≡ file
  pub place : p.name.index * length p.bytes ≡ at
  pub same : p.bytes ≡ bytes

-- A disk before and after a call for the log: it goes on to tell its content, and the files with cells are as they were.
pub record LeavesCells {D : Type 0} (tells : D → Bool) (clock : D → ℕ) (past : D → ℕ → Files) (old new : D) : Type 0 where
  pub told : IsTrue (tells old) → IsTrue (tells new)
  pub cells : IsTrue (tells old) → (j : ℕ) → 9 ≤ j → past new (clock new) j ≡ past old (clock old) j
