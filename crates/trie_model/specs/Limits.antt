-- The limits of keys, values, ids, changes and blocks.
use Rattle.std.specs.Prelude.{◌≡◌, ℕ, ◌≤◌, List, length, All, Some, IfSome}
use Rattle.std.specs.FinMap.{get}
use Rattle.std.specs.Map.{keys_of, values_of}
use Rattle.sdb_base.specs.declared.Block.{Block}
use Rattle.sdb_base.specs.declared.Change.{Change}
use Rattle.trie_model.specs.State.{State}

-- at most so many bytes in a key
abbrev pub most_in_key : ℕ
most_in_key = 1024

-- at most so many bytes in a value
abbrev pub most_in_value : ℕ
most_in_value = 4194304

-- so many bytes in a block's id
abbrev pub bytes_in_id : ℕ
bytes_in_id = 32

-- at most so many changes in a block
abbrev pub most_changes : ℕ
most_changes = 65536

-- a key and a value that are not too long
pub record AreWithin (key value : List ℕ) : Type 0 where
  pub short_key : length key ≤ most_in_key
  pub short_value : length value ≤ most_in_value

-- keys with values, none of them too long
pub record EntriesAreWithin (entries : List (List ℕ × List ℕ)) : Type 0 where
  pub keys : All (λ (key : List ℕ). length key ≤ most_in_key) (keys_of entries)
  pub values : All (λ (value : List ℕ). length value ≤ most_in_value) (values_of entries)

-- a state of such keys and values
abbrev pub StateIsWithin : State → Type 0
StateIsWithin m = (key value : List ℕ) → get m key ≡ Some value → AreWithin key value

-- a change whose key and value are not too long
pub record ChangeIsWithin (change : Change) : Type 0 where
  pub short_key : length change.key ≤ most_in_key
  pub short_value : IfSome change.value (λ value. length value ≤ most_in_value)

-- such changes, not too many
pub record ChangesAreWithin (changes : List Change) : Type 0 where
  pub few : length changes ≤ most_changes
  pub each : All ChangeIsWithin changes

-- a block with such changes
abbrev pub BlockIsWithin : Block → Type 0
BlockIsWithin block = ChangesAreWithin block.changes
