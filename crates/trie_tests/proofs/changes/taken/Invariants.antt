use Rattle.trie_change.specs.Changing.{KeepsLimits}
use Rattle.trie_tests.proofs.changes.taken.Given as goal

-- the limits are kept
abbrev pub invariant-loop-i : goal.invariant-loop-i
invariant-loop-i l = KeepsLimits l.job
