-- What a redo's fields say of the files, and the rows for which it stands.
use Rattle.std.specs.Prelude.{◌≡◌, ◌≤◌, ◌+◌, ℕ, Bool, false, List, [], ◌++◌, Some, None, IsSome, IsTrue, drop, length, slice_get, take, unwrap_or}
use Rattle.pdb_cells.specs.Content.{Content}
use Rattle.pdb_cells.specs.Sizes.{size_of}
use Rattle.pdb_cells.specs.declared.Put.{Put}
use Rattle.pdb_disk.specs.Files.{Files, IsSynced, reads_of}
use Rattle.pdb_log.specs.Ledger.{Ledger, records_of}
use Rattle.pdb_log.specs.Standing.{IsLog}
use Rattle.pdb_model.specs.Logs.{IsLogFile}
use Rattle.pdb_model.specs.Records.{Record}
use Rattle.pdb_model.specs.Recovery.{Row, cells_of_files, commits_after, laid_over}
use Rattle.pdb_redo.specs.Backlogs.{records_in}
use Rattle.pdb_redo.specs.Heads.{head_in}
use Rattle.pdb_redo.specs.Places.{newest}
use Rattle.pdb_redo.specs.declared.redo_log.Redo.{Redo}

-- the bytes of a cell in the newest record that puts it, else in its file
abbrev pub below_heads : {D : Type 0} → (D → ℕ) → (D → ℕ → Files) → Redo D → ℕ → ℕ → List ℕ
below_heads clock past redo file index =
    unwrap_or (newest (records_in redo.backlog) (record { file = file; index = index })) (cells_of_files (reads_of (past redo.log.disk (clock redo.log.disk))) file index)

-- the cells after all records; the head cells are kept beside the others
abbrev pub cells_under_records : {D : Type 0} → (D → ℕ) → (D → ℕ → Files) → Redo D → Content
cells_under_records clock past redo file index = unwrap_or (head_in redo.heads (record { file = file; index = index })) (below_heads clock past redo file index)

-- The row at a place has the cells of the files, as they read, under some records.
pub record IsReadRow (rows : List Row) (k : ℕ) (fs : Files) (records : List Record) : Type 0 where
  pub row : Row
  pub there : slice_get rows k ≡ Some row
  pub cells : (file index : ℕ) → row.cells file index ≡ laid_over records (cells_of_files (reads_of fs)) file index

-- A redo stands for these rows, the one at place f being that of the last flushed record, and its log stands as a ledger says.
pub record IsRedo {D : Type 0} (tells : D → Bool) (clock : D → ℕ) (past : D → ℕ → Files) (redo : Redo D) (l : Ledger) (rows : List Row) (f : ℕ) : Type 0 where
  pub log : IsLog tells clock past redo.log l rows f
  pub running : redo.stopped ≡ None
  -- how many of the flushed records after the gate are enacted, and what waits
  pub done : ℕ
  pub flushed_first : done ≤ length l.flushed
  pub waiting : records_in redo.backlog ≡ drop done (l.flushed ++ l.rest)
  -- the marks
  pub appended : redo.appended ≡ record { number = l.gate.number + length (l.flushed ++ l.rest); commits = commits_after l.gate.commits (l.flushed ++ l.rest) }
  pub flushed : redo.flushed ≡ record { number = l.gate.number + length l.flushed; commits = commits_after l.gate.commits l.flushed }
  pub enacted : redo.enacted ≡ record { number = l.gate.number + done; commits = commits_after l.gate.commits (take done l.flushed) }
  -- the cells as they read, under the records that wait, are the rows
  pub read : (k : ℕ) → k ≤ length l.rest → IsReadRow rows (f + k) (past redo.log.disk (clock redo.log.disk)) (drop done (l.flushed ++ take k l.rest))
  pub last : (row : Row) → slice_get rows (f + length l.rest) ≡ Some row → (file index : ℕ) → cells_under_records clock past redo file index ≡ row.cells file index
  -- a file that isn't marked is synced
  pub settled : (j : ℕ) → IsSome (size_of j) → slice_get redo.written j ≡ Some false → IsSynced (past redo.log.disk (clock redo.log.disk) j)
  -- where the gate has passed all records, the log files have none
  pub empty : l.flushed ++ l.rest ≡ [] → (j : ℕ) → IsLogFile j → records_of (l.segments j) ≡ []

-- a redo stands for these rows
abbrev pub IsStanding : {D : Type 0} → (D → Bool) → (D → ℕ) → (D → ℕ → Files) → Redo D → List Row → ℕ → Type 0
IsStanding tells clock past redo rows f = (l : Ledger) × IsRedo tells clock past redo l rows f

-- the record that comes next
abbrev pub next_redo_record : {D : Type 0} → Redo D → ℕ → List Put → Record
next_redo_record redo commits puts = record { number = redo.appended.number + 1; commits = commits; puts = puts }

-- the cells are as they were
abbrev pub KeepsCells : {D : Type 0} → (D → ℕ) → (D → ℕ → Files) → Redo D → Redo D → Type 0
KeepsCells clock past old new = (file index : ℕ) → cells_under_records clock past new file index ≡ cells_under_records clock past old file index

-- A redo before and after calls that only read: all is as it was, but for the counts of faults and reads, which didn't fall.
pub record KeepsRedo {D : Type 0} (tells : D → Bool) (clock : D → ℕ) (past : D → ℕ → Files) (fault_count : D → ℕ) (old new : Redo D) : Type 0 where
  pub log : new.log ≡ record old.log { disk = new.log.disk }
  pub rest : new ≡ record old { log = new.log; reads = new.reads }
  pub time : clock new.log.disk ≡ clock old.log.disk
  pub unchanged : past new.log.disk ≡ past old.log.disk
  pub told : IsTrue (tells old.log.disk) → IsTrue (tells new.log.disk)
  pub untold : IsTrue (tells new.log.disk) → IsTrue (tells old.log.disk)
  pub faults : fault_count old.log.disk ≤ fault_count new.log.disk
  pub reads : old.reads ≤ new.reads
