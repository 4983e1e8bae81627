-- Value tables: sixteen tiers of slots, each of one size, and the tier to which a value goes.
use Rattle.pdb_cells.specs.Sizes.{slot_sizes}
use Rattle.std.specs.Prelude.{ℕ, ◌+◌, nat_le, List, [], ◌∷◌, slice_index, take, if◌then◌else◌}

-- the size of a slot of a tier, in bytes
abbrev pub slot_size : ℕ → ℕ
slot_size tier = slice_index slot_sizes tier

-- the tier of values in parts, the last one
abbrev pub parts_tier : ℕ
parts_tier = 15

-- what a slot with a whole value holds before the value's bytes
abbrev pub before_value : ℕ
before_value = 44

-- how many bytes of a value its head of parts holds, and each further part
abbrev pub in_head : ℕ
in_head = 4044

abbrev pub in_part : ℕ
in_part = 4088

-- at most so many bytes in a value
abbrev pub most_stored : ℕ
most_stored = 8388608

-- the first of these slot sizes that holds so many bytes, counted from a tier on, else the tier behind them
abbrev pub tier_from : ℕ → List ℕ → ℕ → ℕ
tier_from tier [] len = tier
tier_from tier (size ∷ sizes) len = if nat_le (before_value + len) size then tier else tier_from (tier + 1) sizes len

-- the tier of a value of so many bytes: the lowest of those for whole values that holds it, else that of values in parts
abbrev pub tier_of : ℕ → ℕ
tier_of len = tier_from 0 (take 15 slot_sizes) len
