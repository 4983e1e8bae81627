-- What a contract sees of a keeper in memory.
use Rattle.std.specs.Prelude.{◌≡◌, ◌≤◌, ℕ, List, ◌++◌, length, Contains, Option, Some, None}
use Rattle.std.specs.BTreeMap.{get}
use Rattle.std.specs.Cmp.Lexicographic.{slice_cmp}
use Rattle.std.specs.Ordering.{nat_cmp}
use Rattle.sdb_io.specs.Faults.{one_more}
use Rattle.sdb_base.specs.Content.{Counted, meta_under, node_under}
use Rattle.sdb_mapkeeper.specs.Holding.{hash_cmp, held_at}
use Rattle.sdb_base.specs.Keeping.{Commits, operations}
use Rattle.sdb_base.specs.Pipeline.{Pipeline}
use Rattle.sdb_base.specs.TooLong.{first_too_long}
use Rattle.sdb_mapkeeper.specs.Uncrowded.{uncrowded}
use Rattle.sdb_base.specs.declared.numbers.KeepFault.{KeepFault}
use Rattle.sdb_base.specs.declared.numbers.KeepFault.TheVariants.{OutOfMemory, Disk, Stopped, ValueTooLong, IndexFull, TierFull, Damaged, NumbersEnd}
use Rattle.sdb_base.specs.declared.op.Op.{Op}
use Rattle.sdb_mapkeeper.specs.declared.map_keeper.MapKeeper.{MapKeeper}

-- what column 0 holds under a key
abbrev pub kept_node : MapKeeper → List ℕ → Option Counted
kept_node m key = held_at (get hash_cmp m.columns.nodes.places (record { 0 = key }))

-- what column 1 holds under a key
abbrev pub kept_meta : MapKeeper → List ℕ → Option Counted
kept_meta m key = held_at (get (slice_cmp nat_cmp) m.columns.metas.places key)

-- how far commits have come
abbrev pub kept_pipeline : MapKeeper → Pipeline
kept_pipeline m = uncrowded m.progress.numbers

-- The columns hold what these commits leave, and as many were accepted.
pub record KeepsCommits (m : MapKeeper) (commits : Commits) : Type 0 where
  pub nodes : (key : List ℕ) → kept_node m key ≡ node_under (operations commits) key
  pub metas : (key : List ℕ) → kept_meta m key ≡ meta_under (operations commits) key
  pub count : m.progress.numbers.accepted ≡ length commits

-- the calls that are to fail, counted from 0
abbrev pub keeper_calls_to_fail : MapKeeper → List ℕ
keeper_calls_to_fail m = m.plan.failing.items

-- how many calls there were that can fail
abbrev pub keeper_calls : MapKeeper → ℕ
keeper_calls m = m.plan.calls

-- how many calls failed as they were to
abbrev pub failed_keeper_calls : MapKeeper → ℕ
failed_keeper_calls m = m.plan.faults

-- the next call that can fail is to
abbrev pub FailsNext : MapKeeper → Type 0
FailsNext m = Contains (keeper_calls_to_fail m) (keeper_calls m)

-- neither the count of failed calls nor that of accepted commits fell
abbrev pub NeverFalls : MapKeeper → MapKeeper → Type 0
NeverFalls a b = (failed_keeper_calls a ≤ failed_keeper_calls b) × (a.progress.numbers.accepted ≤ b.progress.numbers.accepted)

-- The second keeper with its commits is what calls may make of the first with its own.
abbrev pub AddsCommits : MapKeeper → Commits → MapKeeper → Commits → Type 0
AddsCommits a g b h = NeverFalls a b × ((more : Commits) × (h ≡ g ++ more))

-- one call more was counted, and the same are to fail
abbrev pub CountsCall : MapKeeper → MapKeeper → Type 0
CountsCall a b = (keeper_calls b ≡ one_more (keeper_calls a)) × (keeper_calls_to_fail b ≡ keeper_calls_to_fail a)

-- why a commit that isn't to fail is refused: by its first value that is too long, and only else for want of memory
abbrev pub IsRefusalOf : List Op → KeepFault → Type 0
IsRefusalOf ops Disk = Unit {0}
IsRefusalOf ops (ValueTooLong len) = first_too_long ops ≡ Some len
IsRefusalOf ops OutOfMemory = first_too_long ops ≡ None
IsRefusalOf ops (Stopped call) = ⊥
IsRefusalOf ops (IndexFull column bits chunk) = ⊥
IsRefusalOf ops (TierFull column tier) = ⊥
IsRefusalOf ops (Damaged file cell) = ⊥
IsRefusalOf ops (NumbersEnd which) = ⊥
