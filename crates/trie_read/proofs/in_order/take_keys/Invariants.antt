use Rattle.std.proofs.Common.{◌≡◌, ◌+◌, ◌≤◌, None, vec_len, vec_capacity}
use Rattle.trie_read.specs.inner.Parts.{in_order}
use Rattle.trie_read.proofs.in_order.take_keys.Given as goal

abbrev pub invariant-loop-part : goal.invariant-loop-part
invariant-loop-part l = record {
  room : vec_len l.found + vec_len l.later ≤ vec_capacity l.found;
  same : in_order l.found.items None l.later.items ≡ in_order l.fn.found.items None l.fn.later.items;
}

abbrev pub decreases-loop-part : goal.decreases-loop-part
decreases-loop-part l = vec_len l.later
