use Rattle.std.proofs.Common.{◌≡◌, ◌-◌, length, drop, take, replicate, refl, sym, ap, ◌∙◌}
use Rattle.std.proofs.lemmas.List.{take_rest, length-drop}
use Rattle.pdb_value.proofs.HeadCells.{head_made, head_read}
use Rattle.pdb_value.proofs.Layouts.{zeros_only}
use Rattle.pdb_value.proofs.heads.is_head.Goals as goal

pub returns : goal.returns
returns c =
    let rest = take_rest c.args.cell.now 132 in
    let long : length (take (length c.args.cell.now - 132) (drop 132 c.args.cell.now)) ≡ 124 = ap length rest ∙ (length-drop 132 c.args.cell.now ∙ ap (λ n. n - 132) c.requires) in (
      λ yes. head_made c.args.cell.now c.requires (record {
        base = c.in-Some.bits.base;
        bits = c.in-Some.bits.bits;
        growing = c.in-Some.bits.growing;
        front = c.in-Some.ensures;
        are_bits = c.if-not-are_bits.ensures.0 refl;
        ends = c.if-not-are_ends.ensures.0 refl;
        zeros = sym rest ∙ (c.is_zeros.ensures.0 yes ∙ ap (λ n. replicate n 0) long);
      }),
      λ head. c.is_zeros.ensures.1 (zeros_only _ 124 (rest ∙ (head_read c.args.cell.now head).zeros)),
    )
