-- The nibbles of one byte more.
use Rattle.std.proofs.Common.{◌≡◌, ℕ, ◌/◌, ◌%◌, List, [], ◌∷◌, ◌++◌, refl, ap}
use Rattle.sdb_base.specs.Nibbles.{nibbles_of}

pub nibbles_of-push : (bs : List ℕ) (b : ℕ) → nibbles_of (bs ++ b ∷ []) ≡ (nibbles_of bs ++ (b / 16) ∷ []) ++ (b % 16) ∷ []
nibbles_of-push [] b = refl
nibbles_of-push (c ∷ cs) b = ap (λ (t : List ℕ). (c / 16) ∷ ((c % 16) ∷ t)) (nibbles_of-push cs b)
