use Rattle.std.proofs.Common.{inl, inr, length, arith, sym, ◌∙◌}
use Rattle.std.proofs.lemmas.Bool.{cases_lt}
use Rattle.sdb_base.specs.Nibbles.{nibbles_of}
use Rattle.trie_root.proofs.Nibble.{length-nibbles_of}
use Rattle.trie_root.proofs.Shared.{none_left_to_share, none_left_to_share_with, one_more_shared}
use Rattle.trie_root.proofs.root.shared_len.Goals as goal

pub loop-i-preserved : goal.loop-i-preserved
loop-i-preserved c =
    let a = c.args.a.now in
    let b = c.args.b.now in
    omega (
      arith,
      c.loop-i.invariant,
      one_more_shared (nibbles_of a) (nibbles_of b) c.loop-i.i (omega (arith, length-nibbles_of a)) (omega (arith, length-nibbles_of b))
          (sym c.nibble_at.ensures.value ∙ c.if-nibble_at.false ∙ c.nibble_at-in-loop-i.ensures.value),
    )

pub returns : goal.returns
returns c =
    let a = c.args.a.now in
    let b = c.args.b.now in
    elim (cases_lt (length a) (length b)) [
      | inl less ↦ omega (arith, c.loop-i.invariant, none_left_to_share (nibbles_of a) (nibbles_of b) c.loop-i.i (omega (arith, length-nibbles_of a)))
      | inr more ↦ omega (arith, c.loop-i.invariant, none_left_to_share_with (nibbles_of a) (nibbles_of b) c.loop-i.i (omega (arith, length-nibbles_of b)))
    ]
