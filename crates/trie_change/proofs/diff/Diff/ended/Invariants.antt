use Rattle.std.proofs.Common.{length}
use Rattle.trie_change.specs.inner.Diffs.{AreShort, Comparison, IsComparison}
use Rattle.trie_change.proofs.PassedNodes.{Dropping}
use Rattle.trie_change.proofs.diff.Diff.ended.Given as goal

-- what is left is dropped so far
abbrev pub invariant-loop-diff : goal.invariant-loop-diff
invariant-loop-diff l = record {
  short : AreShort l.diff.puts.items;
  dropping : (c : Comparison) → IsComparison l.fn.self c → Dropping c l.diff;
}

abbrev pub decreases-loop-diff : goal.decreases-loop-diff
decreases-loop-diff l = length l.diff.fed.items
