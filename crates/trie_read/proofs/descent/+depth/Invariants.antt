use Rattle.std.proofs.Common.{◌≡◌, ◌+◌, ◌*◌, ◌-◌, drop}
use Rattle.std.specs.List.{list_any}
use Rattle.trie_codec.specs.NodeParts.{node_of_ref}
use Rattle.trie_read.specs.Depth.{child_too_deep, too_deep}
use Rattle.trie_read.proofs.descent.+depth.Given as goal

abbrev pub decreases-hangs_too_deep : goal.decreases-hangs_too_deep
decreases-hangs_too_deep l = 2 * l.levels

abbrev pub decreases-is_child_too_deep : goal.decreases-is_child_too_deep
decreases-is_child_too_deep l = 2 * l.levels + 1

abbrev pub invariant-hangs_too_deep-loop-i : goal.invariant-hangs_too_deep-loop-i
invariant-hangs_too_deep-loop-i l =
    list_any (child_too_deep (too_deep (l.levels - 1) (l.at + l.len + 1))) (drop l.i (node_of_ref l.node).children)
    ≡ list_any (child_too_deep (too_deep (l.levels - 1) (l.at + l.len + 1))) (node_of_ref l.node).children
