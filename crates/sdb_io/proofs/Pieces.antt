-- A sink in memory and its pieces.
use Rattle.std.proofs.Common.{◌≡◌, ℕ, ◌-◌, ◌≤◌, List, [], ◌∷◌, ◌++◌, length, take, drop, refl, sym, ◌∙◌, arith}
use Rattle.std.specs.Prelude.{map, sum}
use Rattle.std.proofs.lemmas.List.{take-append-le, length-drop, length-take}
use Rattle.std.proofs.lemmas.Grind.{common_steps}
use Rattle.sdb_io.specs.Memory.{pieces}

first_le : (n : ℕ) (ns : List ℕ) (m : ℕ) → sum (n ∷ ns) ≡ m → n ≤ m
first_le n ns m e = grind (arith, common_steps)

rest_is : (n : ℕ) (ns : List ℕ) (m : ℕ) → sum (n ∷ ns) ≡ m → sum ns ≡ m - n
rest_is n ns m e = grind (arith, common_steps)

drop_front : (n : ℕ) (xs ys : List ℕ) → n ≤ length xs → drop n (xs ++ ys) ≡ drop n xs ++ ys
drop_front n xs ys le = grind (arith, common_steps)

-- one piece more
pub one_more_piece : (bytes piece ns : List ℕ) → sum ns ≡ length bytes
    → pieces (bytes ++ piece) (ns ++ length piece ∷ []) ≡ pieces bytes ns ++ piece ∷ []
one_more_piece [] piece [] e = grind (arith, common_steps)
one_more_piece (b ∷ bs) piece [] e = absurd (grind (arith, common_steps))
one_more_piece bytes piece (n ∷ ns) e =
    let le : n ≤ length bytes = first_le n ns (length bytes) e in
    let rest : sum ns ≡ length (drop n bytes) = rest_is n ns (length bytes) e ∙ sym (length-drop n bytes) in
    rw (take-append-le n bytes piece le, drop_front n bytes piece le, one_more_piece (drop n bytes) piece ns rest) refl

-- the lengths are those of the pieces
pub lengths_are : (bytes ns : List ℕ) → sum ns ≡ length bytes → map length (pieces bytes ns) ≡ ns
lengths_are bytes [] e = refl
lengths_are bytes (n ∷ ns) e =
    let le : n ≤ length bytes = first_le n ns (length bytes) e in
    let rest : sum ns ≡ length (drop n bytes) = rest_is n ns (length bytes) e ∙ sym (length-drop n bytes) in
    let first : length (take n bytes) ≡ n = grind (arith, common_steps, length-take n bytes) in
    rw (first, lengths_are (drop n bytes) ns rest) refl
