use Rattle.std.proofs.Common.{◌≡◌, ℕ, ◌≤◌, List, drop, min, inl, inr, length, arith}
use Rattle.std.proofs.lemmas.Bool.{cases_lt}
use Rattle.trie_model.specs.Trie.{common}
use Rattle.trie_root.proofs.Shared.{no_more_shared, none_left_to_share, none_left_to_share_with, one_more_shared}
use Rattle.trie_change.proofs.build.shared_len.Goals as goal

none_after : (a b : List ℕ) (i : ℕ) → min (length a) (length b) ≤ i → length (common (drop i a) (drop i b)) ≡ 0
none_after a b i h = elim (cases_lt (length a) (length b)) [
  | inl less ↦ none_left_to_share a b i (omega arith)
  | inr more ↦ none_left_to_share_with a b i (omega arith)
]

pub loop-i-preserved : goal.loop-i-preserved
loop-i-preserved c =
    let a = c.args.a.now in
    let b = c.args.b.now in
    omega (arith, c.loop-i.invariant, one_more_shared a b c.loop-i.i (omega arith) (omega arith) c.if-a-i.false)

pub returns-then-a-i : goal.returns-then-a-i
returns-then-a-i c =
    let a = c.args.a.now in
    let b = c.args.b.now in
    omega (arith, c.loop-i.invariant, no_more_shared a b c.loop-i.i (omega arith) (omega arith) c.if-a-i.true)

pub returns : goal.returns
returns c =
    let a = c.args.a.now in
    let b = c.args.b.now in
    let most = c.min-most.result in
    elim (cases_lt most c.args.at) [
      | inl less ↦ omega (arith, none_after a b c.args.at (omega arith))
      | inr more ↦ omega (arith, c.loop-i.invariant, none_after a b c.loop-i.i (omega arith))
    ]
