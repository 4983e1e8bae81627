-- What keys are set to, one change after the other, by rising key.
use Rattle.std.specs.Prelude.{ℕ, ◌≤◌, IfSome, List, [], ◌∷◌, length, Option}
use Rattle.std.specs.BTreeMap.{insert_entry}
use Rattle.std.specs.Ordering.{nat_cmp}
use Rattle.std.specs.Cmp.Lexicographic.{slice_cmp}
use Rattle.sdb_base.specs.declared.Change.{Change}
use Rattle.trie_model.specs.Limits.{most_in_key, most_in_value}

-- entries with what changes set
abbrev pub set_all : List (List ℕ × Option (List ℕ)) → List Change → List (List ℕ × Option (List ℕ))
set_all set [] = set
set_all set (c ∷ cs) = set_all (insert_entry (slice_cmp nat_cmp) set c.key c.value) cs

-- a key and what it is set to, neither too long
abbrev pub IsShortEntry : List ℕ × Option (List ℕ) → Type 0
IsShortEntry e = (length e.0 ≤ most_in_key) × IfSome e.1 (λ value. length value ≤ most_in_value)
