-- Nibbles in bytes.
use Rattle.std.specs.Prelude.{ℕ, ◌+◌, ◌*◌, ◌%◌, ◌==◌, List, [], ◌∷◌, length, if◌then◌else◌}

-- nibbles in pairs, the first in the high half
abbrev pub paired : List ℕ → List ℕ
paired [] = []
paired (n ∷ []) = n ∷ []
paired (n ∷ (k ∷ ns)) = (16 * n + k) ∷ paired ns

-- a partial key's bytes: of an odd count the first nibble has a byte of its own, after a zero half
abbrev pub packed : List ℕ → List ℕ
packed ns = if length ns % 2 == 0 then paired ns else paired (0 ∷ ns)
