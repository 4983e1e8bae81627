-- How far a job has come that changes a state.
use Rattle.std.specs.Prelude.{◌≡◌, ◌+◌, ◌≤◌, vec_len, vec_capacity, true, false, is_some, ℕ, List, [], ◌∷◌, filter, All, IfSome, IsPermutation, Option, None}
use Rattle.std.specs.FinMap.{entries}
use Rattle.std.specs.List.{AllByRecursion, flat_map}
use Rattle.sdb_base.specs.declared.Change.{Change}
use Rattle.sdb_blake2.specs.Blake2b.{H}
use Rattle.trie_model.specs.Fetches.{for_change, is_changed}
use Rattle.trie_model.specs.Nodes.{PathNode, all_nodes, is_stored, nodes_over, stored_nodes}
use Rattle.trie_model.specs.State.{State, apply, no_keys}
use Rattle.trie_model.specs.Trie.{Suffix, below, levels_of, suffixes_of}
use Rattle.trie_root.specs.Suffixes.{IsEntry}
use Rattle.trie_read.specs.Paths.{Hangs}
use Rattle.trie_change.specs.ChangedKeys.{keys_in_changes}
use Rattle.trie_change.specs.Frontier.{IsFrontier, IsHanging, is_under}
use Rattle.trie_change.specs.inner.InOrder.{IsOff, RootIsAlone, begins_one, in_place, set_pairs, stubs_of}
use Rattle.trie_change.specs.inner.Pieces.{all_items, back_items}
use Rattle.trie_change.specs.inner.Settled.{fed_nodes}
use Rattle.trie_change.specs.declared.change_job.ChangeJob.{ChangeJob}
use Rattle.trie_change.specs.declared.frontier.Fed.{Fed}
use Rattle.trie_change.specs.Item.{Item}
use Rattle.trie_change.specs.Item as item
use Rattle.trie_change.specs.declared.frontier.Stub.{Stub}
use Rattle.trie_change.specs.declared.settings.Setting.{Setting}
use Rattle.trie_change.specs.Settings.{settings_of}

-- the stored nodes at an item and below it
abbrev pub stored_under : List Suffix → Item → List PathNode
stored_under suffixes (item.Entry e) = []
stored_under suffixes (item.Stub s) =
    filter is_stored (nodes_over (levels_of (below s.path.items suffixes)) s.path.items (below s.path.items suffixes))

abbrev pub all_under : List Suffix → List Item → List PathNode
all_under suffixes items = flat_map (stored_under suffixes) items

-- a list that is two lists, each in its order
pub data IsSplit : List PathNode → List PathNode → List PathNode → Type 0 where
  both_end : IsSplit [] [] []
  to_left : (n : PathNode) (ns ls rs : List PathNode) → IsSplit ns ls rs → IsSplit (n ∷ ns) (n ∷ ls) rs
  to_right : (n : PathNode) (ns ls rs : List PathNode) → IsSplit ns ls rs → IsSplit (n ∷ ns) ls (n ∷ rs)

-- The stored nodes of the state are those that were fed, which are under no item, and those under the items, which stand for
-- the state `now`: the one before the changes or after them. Of the latter the ones that a change fetches are still to be fed.
pub record IsHeld (now m : State) (changes : List Change) (fed : List Fed) (items : List Item) (todo : List PathNode) : Type 0 where
  pub frontier : IsFrontier (suffixes_of now) items
  pub alone : RootIsAlone items
  pub left : List PathNode
  pub left_fed : IsPermutation left (fed_nodes fed)
  pub split : IsSplit (stored_nodes m) left (all_under (suffixes_of now) items)
  pub apart : AllByRecursion (λ (n : PathNode). is_under items n ≡ false) (fed_nodes fed)
  pub hashes : AllByRecursion (λ (f : Fed). f.hash.0 ≡ H f.bytes) fed
  pub todo_is : todo ≡ for_change (all_under (suffixes_of now) items) (all_nodes (apply m changes)) (keys_in_changes changes)

-- the parts of a job
pub record JobParts : Type 0 where
  pub settings : List Setting
  pub fed : List Fed
  pub wanted : Option Stub
  pub found : List Item
  pub later : List Item

abbrev pub job_parts : ChangeJob → JobParts
job_parts j = record { settings = j.settings.items; fed = j.fed.items; wanted = j.wanted; found = all_items j.found.items; later = back_items j.later.items }

abbrev pub items_in : JobParts → List Item
items_in j = in_place j.found j.wanted j.later

-- the items have places for so many more, for those that are later, and for what is set
pub record HasPlaces (more : ℕ) (j : ChangeJob) : Type 0 where
  pub among_found : vec_len j.found + vec_len j.later + vec_len j.settings + more ≤ vec_capacity j.found
  pub among_later : vec_len j.found + vec_len j.later + vec_len j.settings + more ≤ vec_capacity j.later

-- On the way to the keys that are set: what is found is off the way, and what is wanted is on it.
pub record IsOnTheWay (j : JobParts) (m : State) (changes : List Change) (todo : List PathNode) : Type 0 where
  pub after : All IsEntry (entries (apply m changes))
  pub set : set_pairs j.settings ≡ settings_of changes
  pub held : IsHeld m m changes j.fed (items_in j) todo
  pub off : AllByRecursion (IsOff j.settings) j.found
  pub on : IfSome j.wanted (λ s. begins_one j.settings s.path.items ≡ true)

-- whether no changed key goes on with a stub's path
abbrev pub IsOffKeys : List (List ℕ) → Item → Type 0
IsOffKeys keys (item.Entry e) = Unit {0}
IsOffKeys keys (item.Stub s) = is_changed keys (record { path = s.path.items; bytes = [] }) ≡ false

-- The items stand for the changed state: all are off the way, what is found hangs in its trie, and what is wanted does not.
pub record IsCarriedOut (j : JobParts) (m : State) (changes : List Change) (todo : List PathNode) : Type 0 where
  pub after : All IsEntry (entries (apply m changes))
  pub held : IsHeld (apply m changes) m changes j.fed (items_in j) todo
  pub off : AllByRecursion (IsOffKeys (keys_in_changes changes)) (items_in j)
  pub hanging : AllByRecursion (IsHanging (suffixes_of (apply m changes))) j.found
  pub unhung : IfSome j.wanted (λ s. Hangs (suffixes_of (apply m changes)) s.path.items → ⊥)

-- while there is something left to set, and after it
abbrev pub IsUnderWay : List Setting → JobParts → State → List Change → List PathNode → Type 0
IsUnderWay [] j m changes todo = IsCarriedOut j m changes todo
IsUnderWay (s ∷ settings) j m changes todo = IsOnTheWay j m changes todo

-- a node is wanted while there is something left to set, and as long as there is something left to find
abbrev pub IsWaiting : List Setting → JobParts → Type 0
IsWaiting [] j = j.wanted ≡ None → j.later ≡ []
IsWaiting (s ∷ settings) j = is_some j.wanted ≡ true

pub record IsFedSoFar (j : ChangeJob) (m : State) (changes : List Change) (todo : List PathNode) : Type 0 where
  pub under_way : IsUnderWay j.settings.items (job_parts j) m changes todo
  pub waiting : IsWaiting j.settings.items (job_parts j)

-- the items are the keys that are set, with their values
pub record IsCreated (j : ChangeJob) (changes : List Change) : Type 0 where
  pub after : All IsEntry (entries (apply no_keys changes))
  pub frontier : IsFrontier (suffixes_of (apply no_keys changes)) (all_items j.found.items)
  pub no_stubs : stubs_of (all_items j.found.items) ≡ []
  pub none_fed : j.fed.items ≡ []
