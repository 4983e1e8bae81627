-- The words of a command line.
use Rattle.std.proofs.Common.{◌≡◌, ℕ, ◌≤◌, ◌<◌, true, get_or, arith, List, [], ◌∷◌, length, sym, ap}
use Rattle.std.proofs.lemmas.Slice.Eq.{bytes_eq-Decides}
use Rattle.std.specs.Str.{bytes_eq}

pub one_item : (ws : List (List ℕ)) (w : List ℕ) → 1 ≤ length ws → length ws < 2 → w ≡ get_or ws 0 w → ws ≡ w ∷ []
one_item [] w low high e = absurd (omega arith)
one_item (x ∷ []) w low high e = ap (λ (y : List ℕ). y ∷ []) (sym e)
one_item (x ∷ (y ∷ ys)) w low high e = absurd (omega arith)

pub first_is : (x y : List ℕ) → ◌≡◌ {A = List (List ℕ)} (x ∷ []) (y ∷ []) → x ≡ y
first_is x y e = cc

pub same_bytes : (xs ys : List ℕ) → bytes_eq xs ys ≡ true → xs ≡ ys
same_bytes xs ys e = (bytes_eq-Decides xs ys).0 e

pub bytes_same : (xs ys : List ℕ) → xs ≡ ys → bytes_eq xs ys ≡ true
bytes_same xs ys e = (bytes_eq-Decides xs ys).1 e
