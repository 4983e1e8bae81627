-- Numbers in decimal digits, without sign or leading zero.
use Rattle.std.specs.Prelude.{ℕ, ◌+◌, ◌-◌, ◌*◌, ◌==◌, ◌&&◌, nat_le, List, [], ◌∷◌, if◌then◌else◌, Option, Some, None, option_and_then}

-- the number that the digits give when they follow those that gave `front`
unfoldable pub digits_value : ℕ → List ℕ → Option ℕ
digits_value front [] = Some front
digits_value front (c ∷ cs) = if nat_le 48 c && nat_le c 57 then digits_value (10 * front + (c - 48)) cs else None

-- the number that a word spells
unfoldable pub number_spelled : List ℕ → Option ℕ
number_spelled [] = None
number_spelled (c ∷ []) = digits_value 0 (c ∷ [])
number_spelled (c ∷ (d ∷ cs)) = if c == 48 then None else digits_value 0 (c ∷ (d ∷ cs))

-- the same, from `low` to `high` alone
abbrev pub number_within : ℕ → ℕ → List ℕ → Option ℕ
number_within low high word =
    option_and_then (λ n. if nat_le low n && nat_le n high then Some n else None) (number_spelled word)
