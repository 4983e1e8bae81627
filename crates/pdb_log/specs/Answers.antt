-- What the answers of calls on a log say.
use Rattle.std.specs.Prelude.{Bool, true, false, Result, Ok, Err}
use Rattle.pdb_log.specs.declared.fault.LogFault.{LogFault}
use Rattle.pdb_log.specs.declared.fault.LogFault.TheVariants as log

-- the disk failed
abbrev pub log_disk_fails : {T : Type 0} → Result T LogFault → Bool
log_disk_fails (Ok t) = false
log_disk_fails (Err log.OutOfMemory) = false
log_disk_fails (Err (log.NumbersEnd which)) = false
log_disk_fails (Err (log.Disk fault)) = true
