-- Places of lists.
use Rattle.std.proofs.Common.{◌≡◌, ◌+◌, ℕ, zero, suc, List, [], ◌∷◌, Some, drop, refl, ap, ◌∙◌, arith}
use Rattle.std.specs.Prelude.{slice_get, slice_index}
use Rattle.pdb_model.specs.Tables.{first}

got : (parts : List ℕ) (j s : ℕ) (rest : List ℕ) → drop j parts ≡ s ∷ rest → (slice_get parts j ≡ Some s) × (drop (suc j) parts ≡ rest)
got [] zero s rest e = absurd (cc)
got [] (suc j) s rest e = absurd (cc)
got (x ∷ xs) zero s rest e = let a : x ≡ s = cc in let b : xs ≡ rest = cc in (ap Some a, b)
got (x ∷ xs) (suc j) s rest e = got xs j s rest e

pub drop_got : (parts : List ℕ) (j s : ℕ) (rest : List ℕ) → drop j parts ≡ s ∷ rest → (slice_get parts j ≡ Some s) × (drop (j + 1) parts ≡ rest)
drop_got parts j s rest e = let both = got parts j s rest e in (both.0, ap (λ n. drop n parts) (let q : j + 1 ≡ suc j = omega arith in q) ∙ both.1)

pub first_index : (parts : List ℕ) (j : ℕ) → first (drop j parts) ≡ slice_index parts j
first_index [] zero = refl
first_index [] (suc j) = refl
first_index (x ∷ xs) zero = refl
first_index (x ∷ xs) (suc j) = first_index xs j
