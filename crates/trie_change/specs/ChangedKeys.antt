-- The keys that changes name.
use Rattle.std.specs.Prelude.{ℕ, List, map}
use Rattle.sdb_base.specs.declared.Change.{Change}

-- the keys of changes, in their order
abbrev pub keys_in_changes : List Change → List (List ℕ)
keys_in_changes changes = map (λ (c : Change). c.key) changes
