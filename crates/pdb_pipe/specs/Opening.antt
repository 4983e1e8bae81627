-- What creating and opening a database answer.
use Rattle.std.specs.Prelude.{◌≡◌, ℕ, Bool, false, length, Result, Ok, Err}
use Rattle.sdb_base.specs.Keeping.{Commits}
use Rattle.pdb_disk.specs.Files.{Image}
use Rattle.pdb_model.specs.Recovery.{Laid, Row}
use Rattle.pdb_column.specs.Holding.{HoldsColumns}
use Rattle.pdb_recover.specs.Answers.{is_open_disk}
use Rattle.pdb_recover.specs.declared.OpenFault.{OpenFault}
use Rattle.pdb_redo.specs.Answers.{is_create_disk}
use Rattle.pdb_redo.specs.declared.fault.CreateFault.{CreateFault}
use Rattle.pdb_pipe.specs.Commits.{contents_of}
use Rattle.pdb_pipe.specs.declared.database.Database.{Database}

-- What recovery makes of the files holds just these commits.
pub record HoldsCommits (x : Image) (commits : Commits) : Type 0 where
  pub row : Row
  pub laid : Laid x row
  pub count : row.commits ≡ length commits
  pub bases : ℕ → ℕ
  pub columns : HoldsColumns row.cells bases (contents_of commits)

-- the disk, however creating or opening ended
abbrev pub disk_of_creating : {D : Type 0} → Result (Database D) (CreateFault D) → D
disk_of_creating (Ok db) = db.redo.log.disk
disk_of_creating (Err e) = e.disk

abbrev pub disk_of_opening : {D : Type 0} → Result (Database D) (OpenFault D) → D
disk_of_opening (Ok db) = db.redo.log.disk
disk_of_opening (Err e) = e.disk

-- the disk failed
abbrev pub creating_disk_fails : {D : Type 0} → Result (Database D) (CreateFault D) → Bool
creating_disk_fails (Ok db) = false
creating_disk_fails (Err e) = is_create_disk e.fault

abbrev pub opening_disk_fails : {D : Type 0} → Result (Database D) (OpenFault D) → Bool
opening_disk_fails (Ok db) = false
opening_disk_fails (Err e) = is_open_disk e.fault
