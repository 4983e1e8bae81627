use Rattle.std.proofs.Common.{◌≡◌, ◌+◌, ◌≤◌, None, vec_len, vec_capacity}
use Rattle.std.specs.List.{AllByRecursion}
use Rattle.trie_change.specs.inner.InOrder.{IsOff, IsRising, in_place}
use Rattle.trie_change.specs.inner.Pieces.{IsAside, all_items, back_items}
use Rattle.trie_change.proofs.in_order.move_to_set.Given as goal

abbrev pub invariant-loop-piece : goal.invariant-loop-piece
invariant-loop-piece l = record {
  room : vec_len l.found + vec_len l.later ≤ vec_capacity l.found;
  fewer : vec_len l.found + vec_len l.later ≤ vec_len l.fn.found + vec_len l.fn.later;
  same : in_place (all_items l.found.items) None (back_items l.later.items) ≡ in_place (all_items l.fn.found.items) None (back_items l.fn.later.items);
  off : IsRising l.settings → AllByRecursion (IsOff l.settings) (all_items l.fn.found.items) → AllByRecursion (IsAside l.settings) l.fn.later.items
      → AllByRecursion (IsOff l.settings) (all_items l.found.items);
  found_apart : AllByRecursion (IsAside l.settings) l.fn.found.items → AllByRecursion (IsAside l.settings) l.fn.later.items
      → AllByRecursion (IsAside l.settings) l.found.items;
  later_apart : AllByRecursion (IsAside l.settings) l.fn.later.items → AllByRecursion (IsAside l.settings) l.later.items;
  capacity : vec_capacity l.found ≡ vec_capacity l.fn.found;
  later_capacity : vec_capacity l.later ≡ vec_capacity l.fn.later;
}

abbrev pub decreases-loop-piece : goal.decreases-loop-piece
decreases-loop-piece l = vec_len l.later
