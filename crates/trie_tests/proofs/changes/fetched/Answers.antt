use Rattle.std.proofs.Common.{subst, sym}
use Rattle.trie_change.specs.Changing.{KeepsLimits}
use Rattle.trie_tests.proofs.changes.fetched.Goals as goal
use Rattle.trie_tests.proofs.changes.fetched.Goals.{in-Ok-Some, in-Ok-None, in-Err}

pub returns-then-eq : goal.returns-then-eq
returns-then-eq c = elim c.match-node.branch [
  | in-Ok-Some w ↦ subst KeepsLimits (sym w.job-is) w.feed.ensures.limits
  | in-Ok-None w ↦ subst KeepsLimits (sym w.job-is) c.requires
  | in-Err w ↦ subst KeepsLimits (sym w.job-is) c.requires
]
