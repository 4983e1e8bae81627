-- The answers of opening a redo.
use Rattle.std.specs.Prelude.{Bool, false, Result, Ok, Err}
use Rattle.pdb_recover.specs.Answers.{is_open_disk}
use Rattle.pdb_recover.specs.declared.OpenFault.{OpenFault}
use Rattle.pdb_redo.specs.declared.redo_log.Redo.{Redo}

-- the disk failed
abbrev pub open_disk_fails_of : {D : Type 0} → Result (Redo D) (OpenFault D) → Bool
open_disk_fails_of (Ok r) = false
open_disk_fails_of (Err e) = is_open_disk e.fault

-- the disk, however opening ended
abbrev pub opened_disk : {D : Type 0} → Result (Redo D) (OpenFault D) → D
opened_disk (Ok r) = r.log.disk
opened_disk (Err e) = e.disk
