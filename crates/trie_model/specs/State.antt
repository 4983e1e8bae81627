-- States and what changes do to them.
use Rattle.std.specs.Prelude.{ℕ, List, [], ◌∷◌, Option, Some, None}
use Rattle.std.specs.Ordering.{nat_cmp}
use Rattle.std.specs.Cmp.Lexicographic.{slice_cmp}
use Rattle.std.specs.FinMap.{FinMap, empty, insert, remove}
use Rattle.sdb_base.specs.declared.Change.{Change}

-- a finite map from byte keys to byte values
abbrev pub State : Type 0
State = FinMap (slice_cmp nat_cmp) (List ℕ)

-- the state without any key
abbrev pub no_keys : State
no_keys = empty

-- the state with the key set to the value, or deleted where there is none
abbrev pub with_key : State → List ℕ → Option (List ℕ) → State
with_key m key None = remove m key
with_key m key (Some value) = insert m key value

-- the state after changes, in their order
abbrev pub apply : State → List Change → State
apply m [] = m
apply m (c ∷ cs) = apply (with_key m c.key c.value) cs
