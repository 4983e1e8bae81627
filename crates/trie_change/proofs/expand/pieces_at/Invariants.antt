use Rattle.std.proofs.Common.{◌≡◌, ℕ, List, ◌-◌, ◌++◌, ◌∷◌, [], None}
use Rattle.std.specs.List.{AllByRecursion, flat_map}
use Rattle.std.specs.Prelude.{slice_index_or}
use Rattle.trie_codec.specs.NodeParts.{node_of_ref}
use Rattle.trie_root.proofs.ReadOffNibbles.{from}
use Rattle.trie_change.specs.inner.InOrder.{IsRising}
use Rattle.trie_change.specs.inner.Known.{all_known, known_at, known_in}
use Rattle.trie_change.specs.inner.Pieces.{IsAside, all_items, sibling_items}
use Rattle.trie_change.proofs.SiblingRuns.{IsRun}
use Rattle.trie_change.proofs.expand.pieces_at.Given as goal

-- what there is so far, the run, and what the children have that are left, are what there is to be
abbrev pub invariant-loop-i : goal.invariant-loop-i
invariant-loop-i l = record {
  known : (path : List ℕ) → l.end ≡ path ++ (node_of_ref l.node).partial →
      all_known (all_items l.pieces.items)
      ++ (
      all_known (sibling_items l.end l.run.items)
      ++ flat_map (λ i. known_at (known_in 32) (l.end ++ i ∷ []) (slice_index_or (node_of_ref l.node).children i None)) (from l.i (16 - l.i))
      )
      ≡ known_in 33 (node_of_ref l.node) path;
  apart : IsRising l.settings → AllByRecursion (IsAside l.settings) l.pieces.items;
  run : IsRising l.settings → IsRun l.settings l.end l.i l.run.items;
}
