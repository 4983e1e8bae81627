use Rattle.std.proofs.Common.{◌≡◌, ◌+◌, ◌≤◌, None, vec_len, vec_capacity}
use Rattle.std.specs.Prelude.{All}
use Rattle.std.specs.FinMap.{entries}
use Rattle.std.specs.List.{AllByRecursion}
use Rattle.trie_model.specs.State.{State}
use Rattle.trie_model.specs.Trie.{suffixes_of}
use Rattle.trie_root.specs.Suffixes.{IsEntry}
use Rattle.trie_change.specs.Frontier.{IsFrontier, IsHanging}
use Rattle.trie_change.specs.inner.InOrder.{in_place}
use Rattle.trie_change.specs.inner.Pieces.{all_items, back_items}
use Rattle.trie_change.proofs.in_order.move_to_unhung.Given as goal

abbrev pub invariant-loop-piece : goal.invariant-loop-piece
invariant-loop-piece l = record {
  room : vec_len l.found + vec_len l.later ≤ vec_capacity l.found;
  fewer : vec_len l.found + vec_len l.later ≤ vec_len l.fn.found + vec_len l.fn.later;
  same : in_place (all_items l.found.items) None (back_items l.later.items) ≡ in_place (all_items l.fn.found.items) None (back_items l.fn.later.items);
  hanging : (m : State) → All IsEntry (entries m) → IsFrontier (suffixes_of m) (in_place (all_items l.fn.found.items) None (back_items l.fn.later.items))
      → AllByRecursion (IsHanging (suffixes_of m)) (all_items l.fn.found.items) → AllByRecursion (IsHanging (suffixes_of m)) (all_items l.found.items);
}

abbrev pub decreases-loop-piece : goal.decreases-loop-piece
decreases-loop-piece l = vec_len l.later
