-- A text that is put as one piece.
use Rattle.std.specs.Prelude.{ℕ, List, [], ◌∷◌}

-- an empty text is no piece
abbrev pub as_piece : List ℕ → List (List ℕ)
as_piece [] = []
as_piece (b ∷ bs) = (b ∷ bs) ∷ []
