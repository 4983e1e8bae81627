-- The files of a disk while it is recovered.
use Rattle.std.specs.Prelude.{◌≡◌, ◌≢◌, ◌≤◌, ◌+◌, ℕ, List, Any}
use Rattle.pdb_cells.specs.Content.{Content}
use Rattle.pdb_cells.specs.Puts.{laid}
use Rattle.pdb_cells.specs.declared.Put.{Put}
use Rattle.pdb_disk.specs.Files.{FileBytes, FileState, Files, Image, IsFileImage, IsImage, reads_of}
pub use Rattle.pdb_disk.specs.Files.{IsSynced}
use Rattle.pdb_log.specs.Ledger.{IsKeptGate, ScanClear}
pub use Rattle.pdb_log.specs.Recovered.{AreSettled, IsRecovered, IsStoreFile}
use Rattle.pdb_model.specs.Logs.{AreRecovered, IsGate, IsLogFile, IsScanned, gate_file}
use Rattle.pdb_model.specs.Records.{Record}
use Rattle.pdb_model.specs.Recovery.{Laid, Row, TearClear, cells_of_files, commits_after, laid_over}
use Rattle.pdb_model.specs.declared.gate_slot.GateSlot.{GateSlot}

-- whatever a crash leaves of the files, recovery makes this row of it
abbrev pub Recovers : Files → Row → Type 0
Recovers fs row = (x : Image) → IsImage fs x → TearClear fs x → Laid x row

-- The cells of records that recovery takes are being written: gate and log files are settled, and whatever a crash leaves of the
-- cells, the records lie over it.
pub record IsLaying (fs : Files) (row : Row) (g : GateSlot) (taken : List Record) : Type 0 where
  pub logs : (j : ℕ) → j ≤ 4 → IsSynced (fs j)
  pub gate : IsGate (fs gate_file).read g
  pub are_taken : AreRecovered (reads_of fs) g.number taken
  pub commits : row.commits ≡ commits_after g.commits taken
  pub cells : (x : Image) → IsImage fs x → (file index : ℕ) → row.cells file index ≡ laid_over taken (cells_of_files x) file index

-- puts of the same cells with the same bytes as those of records, the last of each cell
abbrev pub LaysSame : List Put → List Record → Type 0
LaysSame puts taken = (cells : Content) (file index : ℕ) → laid puts cells file index ≡ laid_over taken cells file index

-- cells were written, and no other file changed
pub record AreCellsWritten (puts : List Put) (old new : Files) : Type 0 where
  pub cells : (file index : ℕ) → cells_of_files (reads_of new) file index ≡ laid puts (cells_of_files (reads_of old)) file index
  pub others : (j : ℕ) → (Any (λ p. p.name.file ≡ j) puts → ⊥) → new j ≡ old j

-- whatever a crash leaves of a log file, a scan of it comes to no record of this number
abbrev pub IsWithoutNumber : FileState → ℕ → Type 0
IsWithoutNumber s n = (c : FileBytes) → IsFileImage s c → ScanClear s c → (r : Record) → IsScanned c r → r.number ≢ n

-- A gate may be written: all is settled, the cells hold what the records that it passes put, and no record comes after it.
pub record IsBeforeGate (fs : Files) (row : Row) (gate : GateSlot) (taken : List Record) (g : GateSlot) : Type 0 where
  pub settled : AreSettled fs
  pub laying : IsLaying fs row gate taken
  pub sequence : g.sequence ≡ gate.sequence + 1
  pub cells : (file index : ℕ) → row.cells file index ≡ cells_of_files (reads_of fs) file index
  pub commits : row.commits ≡ g.commits
  pub last : (j : ℕ) (r : Record) → IsLogFile j → IsScanned (fs j).read r → r.number ≢ g.number + 1

-- The gate has passed every record, and the cells are the row; the log files may still have records.
pub record IsReady (fs : Files) (g : GateSlot) (row : Row) : Type 0 where
  pub gate : IsKeptGate (fs gate_file) g
  pub gate_read : (fs gate_file).read ≡ (fs gate_file).kept
  pub settled : AreSettled fs
  pub without : (j : ℕ) → IsLogFile j → IsWithoutNumber (fs j) (g.number + 1)
  pub cells : (x : Image) → IsImage fs x → (file index : ℕ) → row.cells file index ≡ cells_of_files x file index
  pub commits : row.commits ≡ g.commits
