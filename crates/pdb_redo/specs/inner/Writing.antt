-- What enacting makes of a log and its disk: cells that a flushed record puts are written, and files of cells are synced.
use Rattle.std.specs.Prelude.{◌≡◌, ◌≢◌, ℕ, Bool, false, List, [], ◌∷◌, None, Some, Contains, IsSome, IsTrue, slice_get}
use Rattle.pdb_cells.specs.Content.{Content, put_cell}
use Rattle.pdb_cells.specs.Puts.{laid, last_put}
use Rattle.pdb_cells.specs.Sizes.{size_of}
use Rattle.pdb_cells.specs.declared.CellName.{CellName}
use Rattle.pdb_cells.specs.declared.Put.{Put}
use Rattle.pdb_disk.specs.Files.{Files, IsSynced, reads_of}
use Rattle.pdb_disk.specs.Moments.{Moments}
use Rattle.pdb_log.specs.Elapsed.{TimeGoesOn}
use Rattle.pdb_log.specs.Ledger.{Ledger}
use Rattle.pdb_log.specs.Standing.{IsLog}
use Rattle.pdb_log.specs.declared.log.Log.{Log}
use Rattle.pdb_model.specs.Records.{Record}
use Rattle.pdb_model.specs.Recovery.{Row, Safe, cells_of_files}

-- the files of a log's disk now, and the cells as they read
abbrev pub files_now : {D : Type 0} → (D → ℕ) → (D → ℕ → Files) → Log D → Files
files_now clock past log = past log.disk (clock log.disk)

abbrev pub cells_now : {D : Type 0} → (D → ℕ) → (D → ℕ → Files) → Log D → Content
cells_now clock past log = cells_of_files (reads_of (files_now clock past log))

-- A log before and after writes of cells that a flushed record puts: it stands for the same at each moment, and the other cells
-- read as before.
pub record WritesAll {D : Type 0} (tells : D → Bool) (clock : D → ℕ) (past : D → ℕ → Files) (puts : List Put) (old new : Log D) : Type 0 where
  pub rest : new ≡ record old { disk = new.disk }
  pub stands : (l : Ledger) (rows : List Row) (f : ℕ) (r : Record) → IsLog tells clock past old l rows f → Contains l.flushed r
      → ((p : Put) → Contains puts p → Contains r.puts p) → IsLog tells clock past new l rows f
  pub moments : (l : Ledger) (rows : List Row) (f : ℕ) (r : Record) → IsLog tells clock past old l rows f → Contains l.flushed r
      → ((p : Put) → Contains puts p → Contains r.puts p) → Moments (clock old.disk) (clock new.disk) (past old.disk) (past new.disk) (Safe rows f)
  pub told : IsTrue (tells old.disk) → IsTrue (tells new.disk)
  pub goes_on : TimeGoesOn clock past old.disk new.disk
  pub beside : IsTrue (tells old.disk) → (name : CellName) → last_put puts name ≡ None
      → cells_now clock past new name.file name.index ≡ cells_now clock past old name.file name.index

-- the same of one write
abbrev pub Writes : {D : Type 0} → (D → Bool) → (D → ℕ) → (D → ℕ → Files) → Put → Log D → Log D → Type 0
Writes tells clock past p old new = WritesAll tells clock past (p ∷ []) old new

-- the cell reads as it was put
pub record IsDone {D : Type 0} (clock : D → ℕ) (past : D → ℕ → Files) (p : Put) (old new : Log D) : Type 0 where
  pub read : (file index : ℕ) → cells_now clock past new file index ≡ put_cell p.name.file p.name.index p.bytes (cells_now clock past old) file index
  pub others : (j : ℕ) → j ≢ p.name.file → files_now clock past new j ≡ files_now clock past old j

-- all cells read as they were put
abbrev pub AreDone : {D : Type 0} → (D → ℕ) → (D → ℕ → Files) → List Put → Log D → Log D → Type 0
AreDone clock past puts old new = (file index : ℕ) → cells_now clock past new file index ≡ laid puts (cells_now clock past old) file index

-- a file that isn't marked after it wasn't before, and is as it was
abbrev pub MarksOthers : {D : Type 0} → (D → ℕ) → (D → ℕ → Files) → List Bool → List Bool → Log D → Log D → Type 0
MarksOthers clock past before after old new = (j : ℕ) → slice_get after j ≡ Some false
    → (slice_get before j ≡ Some false) × (files_now clock past new j ≡ files_now clock past old j)

-- A log before and after syncs of files of cells: it stands for the same at each moment, and all reads as before.
pub record Passes {D : Type 0} (tells : D → Bool) (clock : D → ℕ) (past : D → ℕ → Files) (old new : Log D) : Type 0 where
  pub rest : new ≡ record old { disk = new.disk }
  pub stands : (l : Ledger) (rows : List Row) (f : ℕ) → IsLog tells clock past old l rows f → IsLog tells clock past new l rows f
  pub moments : (l : Ledger) (rows : List Row) (f : ℕ) → IsLog tells clock past old l rows f
      → Moments (clock old.disk) (clock new.disk) (past old.disk) (past new.disk) (Safe rows f)
  pub told : IsTrue (tells old.disk) → IsTrue (tells new.disk)
  pub goes_on : TimeGoesOn clock past old.disk new.disk
  pub read : IsTrue (tells old.disk) → (j : ℕ) → (files_now clock past new j).read ≡ (files_now clock past old j).read

-- where the files that weren't marked were settled, all are
abbrev pub SettlesMarked : {D : Type 0} → (D → ℕ) → (D → ℕ → Files) → List Bool → Log D → Log D → Type 0
SettlesMarked clock past marks old new = ((j : ℕ) → IsSome (size_of j) → slice_get marks j ≡ Some false → IsSynced (files_now clock past old j))
    → (j : ℕ) → IsSome (size_of j) → IsSynced (files_now clock past new j)
