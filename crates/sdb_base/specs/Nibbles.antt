-- Keys in nibbles: the half bytes of a byte string, high half first.
use Rattle.std.specs.Prelude.{ℕ, ◌/◌, ◌%◌, List, [], ◌∷◌}

-- a key's nibbles
abbrev pub nibbles_of : List ℕ → List ℕ
nibbles_of [] = []
nibbles_of (b ∷ bs) = (b / 16) ∷ ((b % 16) ∷ nibbles_of bs)
