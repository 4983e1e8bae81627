-- Keys are written after what was there.
use Rattle.std.proofs.Common.{◌≡◌, ℕ, List, ◌++◌, length, take, refl, sym, ap, ◌∙◌, arith, append_assoc}
use Rattle.std.proofs.lemmas.List.{length-append, take-take, take_at}

-- what was there first stays, where all that was there last does
pub first_stays : (first word keys last left : List ℕ) → last ≡ (first ++ word) ++ keys → take (length last) left ≡ last → take (length first) left ≡ first
first_stays first word keys last left so e =
    let parts : last ≡ first ++ (word ++ keys) = so ∙ append_assoc first word keys in
    sym (take-take (length first) (length last) left (omega (arith, ap length parts, length-append first (word ++ keys))))
    ∙ ap (take (length first)) (e ∙ parts) ∙ take_at first (word ++ keys) (length first) refl
