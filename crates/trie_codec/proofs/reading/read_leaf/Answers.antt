use Rattle.std.proofs.Common.{◌≡◌, ◌+◌, ◌≤◌, length, subst, arith}
use Rattle.trie_codec.specs.Places.{IsSliceOf}
use Rattle.trie_codec.proofs.Slices.{none_borrowed}
use Rattle.trie_codec.proofs.reading.read_leaf.Goals as goal

pub returns-clause-parts : goal.returns-clause-parts
returns-clause-parts c =
    let n = length c.in_ok-value.rest.now in
    let after : n ≡ 0 + n = omega arith in
    (subst (IsSliceOf c.args.bytes c.in_ok-value.value) after c.in_ok-value.ensures.string, (λ i. none_borrowed _ 16 i))

pub invariant_of-leaf-clause-small : goal.invariant_of-leaf-clause-small
invariant_of-leaf-clause-small c = λ i. none_borrowed (λ s. length s.now ≤ 32) 16 i
