use Rattle.std.proofs.Common.{ℕ, ◌+◌, ◌*◌, ◌%◌, List, [], ◌∷◌, ◌++◌, get_or, drop, ap, sym, ◌∙◌, arith, append_assoc}
use Rattle.trie_read.specs.inner.Parts.{key_of_nibbles}
use Rattle.trie_read.proofs.PartSteps.{one_pair, pairs_end}
use Rattle.trie_read.proofs.parts.key_of.Goals as goal

pub loop-i-preserved : goal.loop-i-preserved
loop-i-preserved c =
    let ns : List ℕ = c.args.nibbles.now in
    let i : ℕ = c.loop-i.i in
    let b : ℕ = 16 * (get_or ns (2 * i) 0 % 16) + get_or ns (2 * i + 1) 0 % 16 in
    ap (λ (xs : List ℕ). xs ++ key_of_nibbles (drop (2 * (i + 1)) ns)) c.in_ok-push.ensures.items
    ∙ append_assoc c.loop-i.bytes.items (b ∷ []) (key_of_nibbles (drop (2 * (i + 1)) ns))
    ∙ ap (λ (xs : List ℕ). c.loop-i.bytes.items ++ xs) (sym (one_pair ns i (omega arith)))
    ∙ c.loop-i.invariant

pub returns : goal.returns
returns c = c.from_vec.ensures ∙ pairs_end c.loop-i.bytes.items c.args.nibbles.now c.loop-i.i (omega arith) c.loop-i.invariant
