-- How a run ends: its status, by the cause for which it stopped.
use Rattle.std.specs.Prelude.{ℕ}
use Rattle.sdb_serve.specs.declared.cause.Cause.{Cause}
use Rattle.sdb_serve.specs.declared.cause.Cause.TheVariants as causes
use Rattle.sdb_serve.specs.declared.status.Status.{Status}
use Rattle.sdb_serve.specs.declared.status.Status.TheVariants.{Done, Usage, Script, SourceFault, SinkFault, DiskFault, Occupied, Damaged, IndexFull, NoMemory, TierFull, NumbersEnd}

-- the status of a run that stopped for this cause, unless the sink failed
abbrev pub status_of : Cause → Status
status_of causes.End = Done
status_of causes.BadLine = Script
status_of causes.Source = SourceFault
status_of causes.Memory = NoMemory
status_of causes.Disk = DiskFault
status_of causes.Occupied = Occupied
status_of (causes.BadCell file cell) = Damaged
status_of (causes.BadNode hash) = Damaged
status_of (causes.IndexFull column bits chunk) = IndexFull
status_of (causes.TierFull column tier) = TierFull
status_of (causes.NumbersEnd which) = NumbersEnd

-- the exit status of a process
abbrev pub status_code : Status → ℕ
status_code Done = 0
status_code Usage = 2
status_code Script = 3
status_code SourceFault = 4
status_code SinkFault = 5
status_code DiskFault = 6
status_code Occupied = 8
status_code Damaged = 9
status_code IndexFull = 10
status_code NoMemory = 11
status_code TierFull = 12
status_code NumbersEnd = 13
