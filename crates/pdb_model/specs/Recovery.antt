-- What the files of a disk hold as a crash may leave them, after recovery.
use Rattle.std.specs.Prelude.{◌≡◌, ◌≤◌, ◌+◌, ◌*◌, ℕ, zero, suc, List, [], ◌∷◌, slice_get, take, Some, unwrap_or}
use Rattle.pdb_cells.specs.Content.{Content}
use Rattle.pdb_cells.specs.Puts.{laid}
use Rattle.pdb_cells.specs.Sizes.{size_of}
use Rattle.pdb_disk.specs.Files.{FileBytes, FileState, Files, Image, IsImage, StandsAt, Step, done}
use Rattle.pdb_model.specs.Gates.{gate_at, gate_bytes, gate_place}
use Rattle.pdb_model.specs.Logs.{AreInARow, AreRecovered, HasGate, IsGate, IsLogFile, StandsWhole, gate_file}
use Rattle.pdb_model.specs.Records.{Record, record_bytes}
use Rattle.pdb_model.specs.declared.gate_slot.GateSlot.{GateSlot}

-- so many bytes of a file from a place on
abbrev pub bytes_from : FileBytes → ℕ → ℕ → List ℕ
bytes_from c at zero = []
bytes_from c at (suc n) = c at ∷ bytes_from c (at + 1) n

-- the cells of some files: a cell begins at its index times its size
abbrev pub cells_of_files : Image → Content
cells_of_files x file index = let size = unwrap_or (size_of file) 0 in bytes_from (x file) (index * size) size

-- the cells with the puts of records laid over them, in order
abbrev pub laid_over : List Record → Content → Content
laid_over [] cells = cells
laid_over (r ∷ rs) cells = laid_over rs (laid r.puts cells)

-- the number of commits in records up to and with the last of these, where so many were before
abbrev pub commits_after : ℕ → List Record → ℕ
commits_after commits [] = commits
commits_after commits (r ∷ rs) = commits_after r.commits rs

-- cells, and the number of commits that they hold
pub record Row : Type 0 where
  pub cells : Content
  pub commits : ℕ

-- What recovery makes of some files: a gate slot is whole, and the cells are those of the files with the records that it takes
-- laid over them.
pub record Laid (x : Image) (row : Row) : Type 0 where
  pub gate : GateSlot
  pub is_gate : IsGate (x gate_file) gate
  pub taken : List Record
  pub are_taken : AreRecovered x gate.number taken
  pub cells : (file index : ℕ) → row.cells file index ≡ laid_over taken (cells_of_files x) file index
  pub commits : row.commits ≡ commits_after gate.commits taken

-- ---- premises

-- a file after these steps, each done whole
abbrev pub after_steps : FileBytes → List Step → FileBytes
after_steps c [] = c
after_steps c (s ∷ ss) = after_steps (done c s) ss

-- these bytes stood at a place of the file after some of the steps since its last sync, or none
abbrev pub StoodThere : FileState → ℕ → List ℕ → Type 0
StoodThere s at bytes = (k : ℕ) × StandsAt (after_steps s.kept (take k s.since)) at bytes

-- No torn bytes pass for whole ones: each record that stands whole where a scan of a log file looks, and each gate slot that is
-- whole, stood there after some of the steps since the last sync.
pub record TearClear (fs : Files) (x : Image) : Type 0 where
  pub records : (file number : ℕ) (before : List Record) (end : ℕ) (r : Record) → IsLogFile file
      → AreInARow (x file) 0 number before end → StandsWhole (x file) end r → StoodThere (fs file) end (record_bytes r)
  pub gates : (g : GateSlot) → HasGate (x gate_file) g → StoodThere (fs gate_file) (gate_at (gate_place g)) (gate_bytes g)

-- Whatever a crash leaves of the files, without torn bytes that pass for whole ones, recovery makes of it one of these rows, the
-- one at place f or a later one.
abbrev pub Safe : List Row → ℕ → Files → Type 0
Safe rows f fs = (x : Image) → IsImage fs x → TearClear fs x
    → (k : ℕ) × (row : Row) × (f ≤ k) × (slice_get rows k ≡ Some row) × Laid x row
