-- Keys with their values as a state.
use Rattle.std.specs.Prelude.{ℕ, List, map, All, IsTrue}
use Rattle.std.specs.Ordering.{nat_cmp}
use Rattle.std.specs.Cmp.Lexicographic.{slice_cmp}
use Rattle.std.specs.FinMap.{from_entries, is_sorted}
use Rattle.sdb_base.specs.declared.Pair.{Pair}
use Rattle.trie_model.specs.Limits.{AreWithin}
use Rattle.trie_model.specs.State.{State}

-- the keys with their values
abbrev pub entries_of : List Pair → List (List ℕ × List ℕ)
entries_of pairs = map (λ (p : Pair). (p.key, p.value)) pairs

-- the state of these keys and values
abbrev pub state_of_pairs : List Pair → State
state_of_pairs pairs = from_entries (entries_of pairs)

-- each key is above the one before
abbrev pub KeysRise : List Pair → Type 0
KeysRise pairs = IsTrue (is_sorted (slice_cmp nat_cmp) (entries_of pairs))

-- no key and no value is too long
abbrev pub AllWithin : List Pair → Type 0
AllWithin pairs = All (λ (p : Pair). AreWithin p.key p.value) pairs
