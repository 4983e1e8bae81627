use Rattle.std.proofs.Common.{◌≡◌, drop}
use Rattle.std.specs.Cmp.Lexicographic.{slice_cmp}
use Rattle.std.specs.Ordering.{is_lt, nat_cmp}
use Rattle.trie_change.proofs.settings.is_below.Given as goal

-- what is left decides
abbrev pub invariant-loop-i : goal.invariant-loop-i
invariant-loop-i l = is_lt (slice_cmp nat_cmp (drop l.i l.key) (drop l.i l.path)) ≡ is_lt (slice_cmp nat_cmp l.key l.path)
