-- What a job represents that changes a state by its trie's nodes.
use Rattle.std.specs.Prelude.{◌≡◌, ◌≤◌, ℕ, List, [], ◌∷◌, length, All, IfSome, Option, Some, None}
use Rattle.std.specs.FinMap.{entries}
use Rattle.std.specs.List.{AllByRecursion}
use Rattle.std.specs.Option.{option_map}
use Rattle.sdb_base.specs.declared.Change.{Change}
use Rattle.sdb_blake2.specs.Blake2b.{H}
use Rattle.trie_model.specs.Limits.{ChangesAreWithin, most_in_value}
use Rattle.trie_model.specs.Node.{IsPartial}
use Rattle.trie_model.specs.Nodes.{PathNode}
use Rattle.trie_model.specs.State.{State}
use Rattle.trie_root.specs.Suffixes.{IsEntry}
pub use Rattle.trie_change.specs.Settings.{settings_from, settings_of}
use Rattle.trie_change.specs.Frontier.{IsLimited}
use Rattle.trie_change.specs.declared.frontier.Stub.{Stub}
use Rattle.trie_change.specs.declared.settings.Setting.{Setting}
use Rattle.trie_change.specs.declared.change_job.ChangeJob.{ChangeJob}
use Rattle.trie_change.specs.inner.InOrder.{IsRising}
use Rattle.trie_change.specs.inner.Pieces.{IsAside, all_items, back_items}
use Rattle.trie_change.specs.inner.Stages.{IsCreated, IsFedSoFar}

-- the hash that is wanted
abbrev pub change_wanted : ChangeJob → Option (List ℕ)
change_wanted j = option_map (λ (s : Stub). s.hash.0) j.wanted

-- after how many nibbles the wanted node hangs
abbrev pub depth_of_stub : Option Stub → ℕ
depth_of_stub None = 0
depth_of_stub (Some s) = length s.path.items

abbrev pub change_depth : ChangeJob → ℕ
change_depth j = depth_of_stub j.wanted

-- the hash of the first of some nodes
abbrev pub first_hash : List PathNode → Option (List ℕ)
first_hash [] = None
first_hash (n ∷ ns) = Some (H n.bytes)

-- a key's setting within the limits
pub record IsLimitedSetting (s : Setting) : Type 0 where
  pub path : IsPartial s.path.items
  pub value : IfSome s.value (λ value. length value ≤ most_in_value)

-- the limits, which a job keeps whatever bytes it is fed, and that what it keeps together is apart from what is set
pub record KeepsLimits (j : ChangeJob) : Type 0 where
  pub settings : AllByRecursion IsLimitedSetting j.settings.items
  pub found : AllByRecursion IsLimited (all_items j.found.items)
  pub wanted : IfSome j.wanted (λ (s : Stub). IsPartial s.path.items)
  pub later : AllByRecursion IsLimited (back_items j.later.items)
  pub rising : IsRising j.settings.items
  pub found_apart : AllByRecursion (IsAside j.settings.items) j.found.items
  pub later_apart : AllByRecursion (IsAside j.settings.items) j.later.items

-- The job makes these changes of the state, and these nodes are still to be fed.
pub record IsChanging (j : ChangeJob) (m : State) (changes : List Change) (todo : List PathNode) : Type 0 where
  pub within : All IsEntry (entries m)
  pub changes_within : ChangesAreWithin changes
  pub wants : change_wanted j ≡ first_hash todo
  pub stage : IsFedSoFar j m changes todo

-- The job makes these changes of the state without any key, and no node is to be fed.
pub record IsCreating (j : ChangeJob) (changes : List Change) : Type 0 where
  pub changes_within : ChangesAreWithin changes
  pub wants : change_wanted j ≡ None
  pub stage : IsCreated j changes
