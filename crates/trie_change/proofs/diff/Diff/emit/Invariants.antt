use Rattle.std.proofs.Common.{length}
use Rattle.trie_change.specs.inner.Diffs.{AreShort, Comparison, IsComparison}
use Rattle.trie_change.proofs.PassedNodes.{Passing}
use Rattle.trie_change.proofs.diff.Diff.emit.Given as goal

-- what the path passes is dropped so far
abbrev pub invariant-loop-self : goal.invariant-loop-self
invariant-loop-self l = record {
  short : AreShort l.self.puts.items;
  passing : (c : Comparison) → IsComparison l.fn.self c → Passing l.path c l.self;
}

abbrev pub decreases-loop-self : goal.decreases-loop-self
decreases-loop-self l = length l.self.fed.items
