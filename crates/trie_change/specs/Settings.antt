-- What changes set.
use Rattle.std.specs.Prelude.{ℕ, List, [], ◌∷◌, map, Option}
use Rattle.std.specs.Ordering.{nat_cmp}
use Rattle.std.specs.Cmp.Lexicographic.{slice_cmp}
use Rattle.std.specs.FinMap.{FinMap, empty, entries, insert}
use Rattle.sdb_base.specs.Nibbles.{nibbles_of}
use Rattle.sdb_base.specs.declared.Change.{Change}

-- what each key is set to by the last change that names it, None where that deletes it
abbrev pub settings_from : FinMap (slice_cmp nat_cmp) (Option (List ℕ)) → List Change → FinMap (slice_cmp nat_cmp) (Option (List ℕ))
settings_from settings [] = settings
settings_from settings (c ∷ cs) = settings_from (insert settings c.key c.value) cs

-- the same by rising key, in nibbles
abbrev pub settings_of : List Change → List (List ℕ × Option (List ℕ))
settings_of changes = map (λ e. (nibbles_of e.0, e.1)) (entries (settings_from empty changes))
