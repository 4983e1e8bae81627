use Rattle.std.proofs.Common.{◌≡◌, ◌≤◌, suc, All, drop, length}
use Rattle.trie_change.specs.inner.Pieces.{piece_rank}
use Rattle.trie_change.proofs.build.run_start.Given as goal

-- all from here on go on with the nibble
abbrev pub invariant-loop-start : goal.invariant-loop-start
invariant-loop-start l = record {
  fits : l.start ≤ length l.items;
  run : All (λ p. piece_rank l.at p ≡ suc l.nibble) (drop l.start l.items);
}

abbrev pub decreases-loop-start : goal.decreases-loop-start
decreases-loop-start l = l.start
