use Rattle.std.proofs.Common.{◌≡◌, ◌+◌, ◌≤◌, ◌++◌, List, vec_len, vec_capacity}
use Rattle.std.specs.List.{AllByRecursion}
use Rattle.trie_change.specs.declared.frontier.Piece.{Piece}
use Rattle.trie_change.specs.inner.Merged.{IsMovedDown}
use Rattle.trie_change.specs.inner.Pieces.{IsBesideKey, all_items, back_items}
use Rattle.trie_change.proofs.settings.move_above.Given as goal

abbrev pub invariant-loop-piece : goal.invariant-loop-piece
invariant-loop-piece l = record {
  moved : AllByRecursion (IsBesideKey l.key) l.fn.found.items
      → IsMovedDown l.key (all_items l.fn.found.items) (back_items l.fn.later.items) (all_items l.found.items) (back_items l.later.items);
  front : (more : List Piece) × (l.fn.found.items ≡ l.found.items ++ more);
  room : vec_len l.later + vec_len l.found ≤ vec_len l.fn.later + vec_len l.fn.found;
  capacity : vec_capacity l.later ≡ vec_capacity l.fn.later;
  found_capacity : vec_capacity l.found ≡ vec_capacity l.fn.found;
}

abbrev pub decreases-loop-piece : goal.decreases-loop-piece
decreases-loop-piece l = vec_len l.found
