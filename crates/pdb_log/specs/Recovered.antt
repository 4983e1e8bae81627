-- The files of a disk on which a log begins.
use Rattle.std.specs.Prelude.{◌≡◌, ◌⊎◌, ◌≤◌, ℕ, IsSome}
use Rattle.pdb_cells.specs.Sizes.{size_of}
use Rattle.pdb_disk.specs.Files.{Files, Image, IsImage, IsSynced}
use Rattle.pdb_log.specs.Ledger.{IsEmptyFile, IsKeptGate}
use Rattle.pdb_model.specs.Logs.{IsLogFile, gate_file}
use Rattle.pdb_model.specs.Recovery.{Row, cells_of_files}
use Rattle.pdb_model.specs.declared.gate_slot.GateSlot.{GateSlot}

-- a file of the store: the gate's, a log file, or one with cells
abbrev pub IsStoreFile : ℕ → Type 0
IsStoreFile j = (j ≤ 4) ⊎ IsSome (size_of j)

-- each file of the store was synced after its last write and cut
abbrev pub AreSettled : Files → Type 0
AreSettled fs = (j : ℕ) → IsStoreFile j → IsSynced (fs j)

-- The gate is in force, the log files are empty, and the cells are the row, all of it synced.
pub record IsRecovered (fs : Files) (g : GateSlot) (row : Row) : Type 0 where
  pub gate : IsKeptGate (fs gate_file) g
  pub settled : AreSettled fs
  pub empty : (j : ℕ) → IsLogFile j → IsEmptyFile (fs j)
  pub cells : (x : Image) → IsImage fs x → (file index : ℕ) → row.cells file index ≡ cells_of_files x file index
  pub commits : row.commits ≡ g.commits
