-- What a keeper of commits answers.
use Rattle.std.specs.Prelude.{◌≡◌, ◌⊎◌, ◌<◌, ◌≤◌, ℕ, Bool, true, false, List, length, Any, Option, Some, None, Result, Ok, Err}
use Rattle.std.specs.List.{flat_map}
use Rattle.sdb_base.specs.Content.{Counted}
use Rattle.sdb_base.specs.declared.op.Op.{Op}
use Rattle.sdb_base.specs.declared.op.Op.TheVariants.{AddRef, DropRef, Put, Erase}
use Rattle.sdb_base.specs.declared.numbers.KeepFault.{KeepFault}
use Rattle.sdb_base.specs.declared.numbers.KeepFault.TheVariants.{OutOfMemory, Disk, Stopped, ValueTooLong, IndexFull, TierFull, Damaged, NumbersEnd}

-- the commits of a keeper, in the order in which they were accepted, each a list of operations
abbrev pub Commits : Type 0
Commits = List (List Op)

-- all operations of some commits, in order
abbrev pub operations : Commits → List Op
operations commits = flat_map (λ ops. ops) commits

-- at most so many bytes in a plain key
abbrev pub most_in_plain_key : ℕ
most_in_plain_key = 1024

-- at most so many bytes in a value
abbrev pub most_in_kept_value : ℕ
most_in_kept_value = 8388608

-- the operation's plain key, if it has one, is short enough
abbrev pub HasShortKey : Op → Type 0
HasShortKey (AddRef key bytes) = Unit {0}
HasShortKey (DropRef key) = Unit {0}
HasShortKey (Put key bytes) = length key ≤ most_in_plain_key
HasShortKey (Erase key) = length key ≤ most_in_plain_key

-- the operation has a value of so many bytes
abbrev pub HasValueOf : ℕ → Op → Type 0
HasValueOf len (AddRef key bytes) = length bytes ≡ len
HasValueOf len (DropRef key) = ⊥
HasValueOf len (Put key bytes) = length bytes ≡ len
HasValueOf len (Erase key) = ⊥

-- a reference to a node was added with these bytes
abbrev pub AddsNode : List ℕ → List ℕ → Op → Type 0
AddsNode key bytes (AddRef k b) = (k.0 ≡ key) × (b ≡ bytes)
AddsNode key bytes (DropRef k) = ⊥
AddsNode key bytes (Put k b) = ⊥
AddsNode key bytes (Erase k) = ⊥

-- What `node` may answer for a key: the bytes under it; where it has no count, nothing, or bytes that were added under it.
abbrev pub IsNodeAnswer : Commits → List ℕ → Option Counted → Option (List ℕ) → Type 0
IsNodeAnswer commits key (Some c) answer = answer ≡ Some c.bytes
IsNodeAnswer commits key None None = Unit {0}
IsNodeAnswer commits key None (Some bytes) = Any (AddsNode key bytes) (operations commits)

-- What `meta` answers for a key: the bytes under it, or nothing.
abbrev pub IsMetaAnswer : Option Counted → Option (List ℕ) → Type 0
IsMetaAnswer None answer = answer ≡ None
IsMetaAnswer (Some c) answer = answer ≡ Some c.bytes

-- whether a fault is the disk's
abbrev pub is_disk : KeepFault → Bool
is_disk OutOfMemory = false
is_disk Disk = true
is_disk (Stopped call) = false
is_disk (ValueTooLong len) = false
is_disk (IndexFull column bits chunk) = false
is_disk (TierFull column tier) = false
is_disk (Damaged file cell) = false
is_disk (NumbersEnd which) = false

-- whether a call answered the disk's fault
abbrev pub disk_failed : {A : Type 0} → Result A KeepFault → Bool
disk_failed (Ok a) = false
disk_failed (Err e) = is_disk e

-- Why a call that isn't `commit` may have failed: for want of memory, by the disk, or by a fault that is due.
abbrev pub IsCause : (KeepFault → Type 0) → KeepFault → Type 0
IsCause due e = (e ≡ OutOfMemory) ⊎ ((e ≡ Disk) ⊎ due e)

-- Why `commit` may have failed: also by an operation whose value is too long.
abbrev pub IsCommitCause : (KeepFault → Type 0) → List Op → KeepFault → Type 0
IsCommitCause due ops e = IsCause due e ⊎ ((len : ℕ) × (e ≡ ValueTooLong len) × (most_in_kept_value < len) × Any (HasValueOf len) ops)
