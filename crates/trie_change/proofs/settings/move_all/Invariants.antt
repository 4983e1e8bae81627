use Rattle.std.proofs.Common.{◌≡◌, ◌+◌, ◌≤◌, ◌++◌, reverse, vec_len, vec_capacity}
use Rattle.trie_change.proofs.settings.move_all.Given as goal

abbrev pub invariant-loop-piece : goal.invariant-loop-piece
invariant-loop-piece l = record {
  moved : l.later.items ++ reverse l.found.items ≡ l.fn.later.items ++ reverse l.fn.found.items;
  len : vec_len l.later + vec_len l.found ≡ vec_len l.fn.later + vec_len l.fn.found;
  room : vec_len l.later + vec_len l.found ≤ vec_capacity l.later;
  capacity : vec_capacity l.later ≡ vec_capacity l.fn.later;
  found_capacity : vec_capacity l.found ≡ vec_capacity l.fn.found;
}

abbrev pub decreases-loop-piece : goal.decreases-loop-piece
decreases-loop-piece l = vec_len l.found
