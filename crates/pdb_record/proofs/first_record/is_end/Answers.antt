use Rattle.std.proofs.Common.{◌≡◌, ℕ, List, MatchBool, All, length, min, take, ap, subst, ◌∙◌, arith}
use Rattle.std.proofs.lemmas.List.{take_min}
use Rattle.pdb_record.proofs.first_record.is_end.Goals as goal

pub returns : goal.returns
returns c =
    let n : c.min.result ≡ min 48 (length c.args.left.now) = omega (arith, c.min.ensures) in
    let front : take c.min.result c.args.left.now ≡ take 48 c.args.left.now = ap (λ m. take m c.args.left.now) n ∙ take_min 48 c.args.left.now in
    subst (λ (bytes : List ℕ). MatchBool c.are_zeros.result (All (λ b. b ≡ 0) bytes) (¬ All (λ b. b ≡ 0) bytes)) front c.are_zeros.ensures
