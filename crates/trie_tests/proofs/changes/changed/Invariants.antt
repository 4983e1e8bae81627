use Rattle.trie_change.specs.Changing.{KeepsLimits}
use Rattle.trie_tests.proofs.changes.changed.Given as goal

-- the limits are kept
abbrev pub invariant-loop-node : goal.invariant-loop-node
invariant-loop-node g l = KeepsLimits l.job
