-- Why a line of the blocks stops a run: from a job's fault to its cause.
use Rattle.std.proofs.Common.{◌≡◌, ℕ, List, Option, arith}
use Rattle.sdb_base.specs.declared.numbers.KeepFault.{KeepFault}
use Rattle.sdb_base.specs.declared.numbers.KeepFault.TheVariants as keeper
use Rattle.sdb_serve.specs.Marks.{Reached}
use Rattle.sdb_serve.specs.Runs.{EndsAs}
use Rattle.sdb_serve.specs.inner.Steps.{cause_of_job, cause_of_keeper}
use Rattle.sdb_serve.specs.declared.nodes.NodeFault.{NodeFault}
use Rattle.sdb_serve.specs.declared.nodes.NodeFault.TheVariants as nodes
use Rattle.sdb_serve.specs.declared.cause.Cause.{Cause}
use Rattle.sdb_serve.specs.declared.cause.Cause.TheVariants as causes
use Rattle.sdb_serve.specs.declared.outcome.Mark.{Mark}

-- only `new` meets a disk that has a database
free_keeper : (fault : KeepFault) → cause_of_keeper fault ≡ causes.Occupied → ⊥
free_keeper keeper.OutOfMemory e = cc
free_keeper keeper.Disk e = cc
free_keeper (keeper.Stopped call) e = cc
free_keeper (keeper.ValueTooLong len) e = cc
free_keeper (keeper.IndexFull column bits chunk) e = cc
free_keeper (keeper.TierFull column tier) e = cc
free_keeper (keeper.Damaged file cell) e = cc
free_keeper (keeper.NumbersEnd which) e = cc

pub not_occupied : (fault : NodeFault) → cause_of_job fault ≡ causes.Occupied → ⊥
not_occupied nodes.OutOfMemory e = cc
not_occupied (nodes.BadNode hash) e = cc
not_occupied (nodes.Keep fault) e = free_keeper fault e

-- a run that stops for whatever cause may leave the disk and the marks as they were
pub ends_unmoved : (cause : Cause) (left : Option (List ℕ)) (now : ℕ) (marks : List Mark) (a : Reached) → now ≡ a.clock → marks ≡ a.marks
    → EndsAs cause (record { left = left; clock = now; marks = marks }) a
ends_unmoved causes.End left now marks a time same = (time, same)
ends_unmoved causes.BadLine left now marks a time same = (time, same)
ends_unmoved causes.Source left now marks a time same = (time, same)
ends_unmoved causes.Memory left now marks a time same = (omega arith, same)
ends_unmoved causes.Disk left now marks a time same = (omega arith, same)
ends_unmoved causes.Occupied left now marks a time same = (time, same)
ends_unmoved (causes.BadCell file cell) left now marks a time same = (omega arith, same)
ends_unmoved (causes.BadNode hash) left now marks a time same = (time, same)
ends_unmoved (causes.IndexFull column bits chunk) left now marks a time same = (omega arith, same)
ends_unmoved (causes.TierFull column tier) left now marks a time same = (omega arith, same)
ends_unmoved (causes.NumbersEnd which) left now marks a time same = (omega arith, same)
