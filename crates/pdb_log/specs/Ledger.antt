-- The log as it lies in its files: which records stand where, which of them a sync has kept, and which the gate has passed.
use Rattle.std.specs.Prelude.{◌≡◌, ◌⊎◌, ◌&&◌, Bool, ℕ, ◌+◌, ◌<◌, ◌≤◌, ◌==◌, nat_le, nat_lt, List, [], ◌∷◌, ◌++◌, length, take, get_or, slice_get, Some, Contains, if◌then◌else◌}
use Rattle.std.specs.List.{flat_map}
use Rattle.pdb_disk.specs.Files.{FileBytes, FileState, Files, Image, IsFileImage, IsImage, Step}
use Rattle.pdb_disk.specs.Files.{Step as step}
use Rattle.pdb_model.specs.Logs.{IsGate, IsLogFile, IsScanned, StandsWhole, AreInARow}
use Rattle.pdb_model.specs.Records.{IsRecord, Record, record_bytes}
use Rattle.pdb_model.specs.Recovery.{Row, StoodThere, cells_of_files, commits_after, laid_over}
use Rattle.pdb_model.specs.declared.gate_slot.GateSlot.{GateSlot}

-- the bytes of records, one after the other
abbrev pub spelled_records : List Record → List ℕ
spelled_records records = flat_map record_bytes records

-- the file of some bytes, with zeros after them
abbrev pub file_of : List ℕ → FileBytes
file_of bytes = λ i. get_or bytes i 0

-- the writes of records, one after the other from a place on
abbrev pub writes_of : ℕ → List Record → List Step
writes_of at [] = []
writes_of at (r ∷ rs) = step.Write at (record_bytes r) ∷ writes_of (at + length (record_bytes r)) rs

-- records with these numbers, one after the other
abbrev pub AreNumbered : ℕ → List Record → Type 0
AreNumbered n [] = Unit {0}
AreNumbered n (r ∷ rs) = IsRecord r × (r.number ≡ n) × AreNumbered (n + 1) rs

-- The records of one log file, which begin with this number: those that its last sync has kept, and those written after it.
pub record Segment : Type 0 where
  pub first : ℕ
  pub kept : List Record
  pub pending : List Record

abbrev pub records_of : Segment → List Record
records_of g = g.kept ++ g.pending

-- a file has just these records
pub record IsSegment (s : FileState) (g : Segment) : Type 0 where
  pub kept_bytes : s.kept ≡ file_of (spelled_records g.kept)
  pub since : s.since ≡ writes_of (length (spelled_records g.kept)) g.pending
  pub numbers : AreNumbered g.first (records_of g)

-- The log: the gate; the records after it that are flushed, and those that aren't; and the records of each log file.
pub record Ledger : Type 0 where
  pub gate : GateSlot
  pub flushed : List Record
  pub rest : List Record
  pub segments : ℕ → Segment

-- each record that stands whole where a scan of the file looks stood there after some of the steps since its last sync
abbrev pub ScanClear : FileState → FileBytes → Type 0
ScanClear s c = (number : ℕ) (before : List Record) (end : ℕ) (r : Record) → AreInARow c 0 number before end → StandsWhole c end r
    → StoodThere s end (record_bytes r)

-- Whatever a crash leaves of the file, a scan of it comes to no record after this number: it was cut, and that isn't synced yet.
abbrev pub IsSpent : FileState → ℕ → Type 0
IsSpent s n = (c : FileBytes) → IsFileImage s c → ScanClear s c → (r : Record) → IsScanned c r → r.number ≤ n

-- the gate is in force, and its file is synced
pub record IsKeptGate (s : FileState) (g : GateSlot) : Type 0 where
  pub whole : IsGate s.kept g
  pub synced : s.since ≡ []

-- how a ledger stands in the log files
pub record StandsInFiles (fs : Files) (l : Ledger) : Type 0 where
  pub segments : (j : ℕ) → IsLogFile j → IsSegment (fs j) (l.segments j) ⊎ (IsSpent (fs j) l.gate.number × (records_of (l.segments j) ≡ []))
  pub numbers : AreNumbered (l.gate.number + 1) (l.flushed ++ l.rest)
  -- what stands in a file after the gate is of the log
  pub into : (j : ℕ) (r : Record) → IsLogFile j → Contains (records_of (l.segments j)) r → l.gate.number < r.number → Contains (l.flushed ++ l.rest) r
  -- the log's records stand in some file, and the flushed ones are synced there
  pub placed : (r : Record) → Contains l.rest r → (j : ℕ) × IsLogFile j × Contains (records_of (l.segments j)) r
  pub safe : (r : Record) → Contains l.flushed r → (j : ℕ) × IsLogFile j × Contains (l.segments j).kept r

-- ---- what calls make of a ledger

abbrev pub with_segment : (ℕ → Segment) → ℕ → Segment → ℕ → Segment
with_segment segments file g j = if j == file then g else segments j

-- a record was written after the last one of a file
abbrev pub appended : Ledger → ℕ → Record → Ledger
appended l file r = record l {
  rest = l.rest ++ r ∷ [];
  segments = with_segment l.segments file (record (l.segments file) { pending = (l.segments file).pending ++ r ∷ [] });
}

-- a log file was synced
abbrev pub file_synced : Ledger → ℕ → Ledger
file_synced l file = record l { segments = with_segment l.segments file (record { first = (l.segments file).first; kept = records_of (l.segments file); pending = [] }) }

-- each log file was synced
abbrev pub files_synced : Ledger → Ledger
files_synced l = file_synced (file_synced (file_synced (file_synced l 1) 2) 3) 4

-- all records are flushed
abbrev pub records_flushed : Ledger → Ledger
records_flushed l = record l { flushed = l.flushed ++ l.rest; rest = [] }

-- the gate was moved, and these flushed records come after it
abbrev pub passed : Ledger → GateSlot → List Record → Ledger
passed l g flushed = record l { gate = g; flushed = flushed }

-- a log file was emptied; its next record has this number
abbrev pub emptied : Ledger → ℕ → ℕ → Ledger
emptied l file n = record l { segments = with_segment l.segments file (record { first = n; kept = []; pending = [] }) }

-- all records of a file are synced, and the gate has passed them
pub record IsPassed (g : Segment) (n : ℕ) : Type 0 where
  pub synced : g.pending ≡ []
  pub each : (r : Record) → Contains (records_of g) r → r.number ≤ n

-- a file has records, and their numbers are at most this
abbrev pub has_passed : Segment → ℕ → Bool
has_passed g n = nat_lt 0 (length (records_of g)) && nat_le (g.first + length (records_of g)) (n + 1)

-- a log file was emptied where it has records and the gate has passed them all
abbrev pub cleared : Ledger → ℕ → ℕ → Ledger
cleared l file n = if has_passed (l.segments file) l.gate.number then emptied l file n else l

-- each such log file was
abbrev pub files_cleared : Ledger → ℕ → Ledger
files_cleared l n = cleared (cleared (cleared (cleared l 1 n) 2 n) 3 n) 4 n

-- ---- rows

-- these cells with records laid over them, and the commits in them, are the row at a place
pub record IsRowAt (rows : List Row) (k : ℕ) (x : Image) (gate : GateSlot) (records : List Record) : Type 0 where
  pub row : Row
  pub there : slice_get rows k ≡ Some row
  pub cells : (file index : ℕ) → row.cells file index ≡ laid_over records (cells_of_files x) file index
  pub commits : row.commits ≡ commits_after gate.commits records

-- The rows from place f on are the cells, as any crash leaves them, under the flushed records and some that follow.
abbrev pub AreRows : List Row → ℕ → Files → Ledger → Type 0
AreRows rows f fs l = (k : ℕ) → k ≤ length l.rest → (x : Image) → IsImage fs x → IsRowAt rows (f + k) x l.gate (l.flushed ++ take k l.rest)

-- A gate that may be written next: it passes some flushed records, whose cells are synced, so that without them the cells make
-- up the same rows.
pub record IsNextGate (rows : List Row) (f : ℕ) (fs : Files) (l : Ledger) (g : GateSlot) (dropped flushed : List Record) : Type 0 where
  pub sequence : g.sequence ≡ l.gate.sequence + 1
  pub parts : l.flushed ≡ dropped ++ flushed
  pub number : g.number ≡ l.gate.number + length dropped
  pub commits : g.commits ≡ commits_after l.gate.commits dropped
  pub are : AreRows rows f fs (passed l g flushed)

-- the row after one more record
abbrev pub row_after : Row → Record → Row
row_after row r = record { cells = laid_over (r ∷ []) row.cells; commits = r.commits }

-- a log file that is empty, whatever a crash leaves
pub record IsEmptyFile (s : FileState) : Type 0 where
  pub read : s.read ≡ (λ i. 0)
  pub kept : s.kept ≡ (λ i. 0)
  pub since : s.since ≡ []

-- no record after the gate
abbrev pub fresh_ledger : GateSlot → Ledger
fresh_ledger g = record { gate = g; flushed = []; rest = []; segments = λ j. record { first = g.number + 1; kept = []; pending = [] } }
