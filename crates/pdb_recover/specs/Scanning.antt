-- How far the scans of log files have come, and calls that only read.
use Rattle.std.specs.Prelude.{◌≡◌, ◌≤◌, ◌<◌, ◌+◌, ℕ, All, Bool, List, [], ◌∷◌, Option, Some, None, Contains, IsTrue, length}
use Rattle.pdb_cells.specs.Content.{Content}
use Rattle.pdb_cells.specs.Puts.{IsWholeCell, NoCellTwice, laid, puts_after}
use Rattle.pdb_cells.specs.declared.Put.{Put}
use Rattle.pdb_disk.specs.Files.{FileBytes, Files, Image}
use Rattle.pdb_model.specs.Logs.{AreInARow, AreRecovered, IsGate, StandsWhole, gate_file}
use Rattle.pdb_model.specs.Records.{Record}
use Rattle.pdb_model.specs.Recovery.{commits_after, laid_over}
use Rattle.pdb_record.specs.declared.heads.Head.{Head}
use Rattle.pdb_recover.specs.declared.cursor.Cursor.{Cursor}
use Rattle.pdb_recover.specs.declared.log_files.LogFiles.{LogFiles}
use Rattle.pdb_recover.specs.declared.pending_puts.Pending.{Pending}

-- a call took no time of the disk's and changed no file
pub record OnlyReads {D : Type 0} (tells : D → Bool) (clock : D → ℕ) (past : D → ℕ → Files) (read_count : D → ℕ) (old new : D) : Type 0 where
  pub time : clock new ≡ clock old
  pub unchanged : past new ≡ past old
  pub told : IsTrue (tells old) → IsTrue (tells new)
  pub reads : read_count old ≤ read_count new

-- what the header at a place says of the record there: it has the number that comes next, or there is no such record
abbrev pub HeaderGoesOn : FileBytes → ℕ → ℕ → Option Head → Type 0
HeaderGoesOn c at number None = (r : Record) → StandsWhole c at r → r.number ≡ number → ⊥
HeaderGoesOn c at number (Some h) = (h.number ≡ number) × ((r : Record) → StandsWhole c at r → r.number ≡ number)

-- nothing comes next at a file's front only where no record stands there, whatever its number
abbrev pub IsFront : FileBytes → List Record → Option Head → Type 0
IsFront c [] None = (r : Record) → StandsWhole c 0 r → ⊥
IsFront c [] (Some h) = Unit {0}
IsFront c (r ∷ rs) o = Unit {0}

-- The scan of a file has come past records with numbers below this one, and to what comes next after them.
pub record HasScanned (c : FileBytes) (cursor : Cursor) (n : ℕ) : Type 0 where
  pub first : ℕ
  pub before : List Record
  pub row : AreInARow c 0 first before cursor.at
  pub below : (r : Record) → Contains before r → r.number < n
  pub next : HeaderGoesOn c cursor.at (first + length before) cursor.head
  pub front : IsFront c before cursor.head

-- the scans of the four log files have
pub record HaveScanned (x : Image) (logs : LogFiles) (n : ℕ) : Type 0 where
  pub files : (logs.first.file ≡ 1) × (logs.second.file ≡ 2) × (logs.third.file ≡ 3) × (logs.fourth.file ≡ 4)
  pub first : HasScanned (x 1) logs.first n
  pub second : HasScanned (x 2) logs.second n
  pub third : HasScanned (x 3) logs.third n
  pub fourth : HasScanned (x 4) logs.fourth n

-- puts after others, one after the other
abbrev pub puts_all : List Put → List Put → List Put
puts_all puts [] = puts
puts_all puts (p ∷ ps) = puts_all (puts_after puts p) ps

-- What recovery lays over the cells of these files: the gate in force, the records that it takes, and the newest put of each
-- of their cells.
pub record IsPending (x : Image) (p : Pending) : Type 0 where
  pub gate : IsGate (x gate_file) p.gate
  pub taken : List Record
  pub are_taken : AreRecovered x p.gate.number taken
  pub number : p.number ≡ p.gate.number + length taken
  pub commits : p.commits ≡ commits_after p.gate.commits taken
  pub cells : (cells : Content) (file index : ℕ) → laid p.puts cells file index ≡ laid_over taken cells file index
  pub once : NoCellTwice p.puts
  pub whole : All IsWholeCell p.puts
