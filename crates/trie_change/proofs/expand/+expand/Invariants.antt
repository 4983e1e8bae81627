use Rattle.std.proofs.Common.{◌≡◌, ◌+◌, ◌*◌, ◌-◌, List, [], ◌∷◌, ◌++◌, None}
use Rattle.std.specs.List.{AllByRecursion, flat_map}
use Rattle.std.specs.Prelude.{slice_index_or}
use Rattle.trie_codec.specs.NodeParts.{node_of_ref}
use Rattle.trie_root.proofs.ReadOffNibbles.{from}
use Rattle.trie_change.specs.declared.settings.Setting.{Setting}
use Rattle.trie_change.specs.inner.Known.{all_known, known_at, known_in}
use Rattle.trie_change.specs.inner.Pieces.{IsAside, all_items}
use Rattle.trie_change.proofs.expand.+expand.Given as goal

abbrev pub decreases-put_items : goal.decreases-put_items
decreases-put_items l = 3 * l.levels

abbrev pub decreases-put_child : goal.decreases-put_child
decreases-put_child l = 3 * l.levels + 2

abbrev pub decreases-put_inline : goal.decreases-put_inline
decreases-put_inline l = 3 * l.levels + 1

-- what there is so far, and what the children have that are left, are what there is to be
abbrev pub invariant-put_items-loop-i : goal.invariant-put_items-loop-i
invariant-put_items-loop-i l = record {
  known :
      all_known (all_items l.out.items)
      ++ flat_map (λ i. known_at (known_in (l.levels - 1)) (l.key ++ i ∷ []) (slice_index_or (node_of_ref l.node).children i None)) (from l.i (16 - l.i))
      ≡ all_known (all_items l.fn.out.items) ++ known_in l.levels (node_of_ref l.node) l.path;
  apart : (settings : List Setting) → AllByRecursion (IsAside settings) l.fn.out.items → AllByRecursion (IsAside settings) l.out.items;
}
