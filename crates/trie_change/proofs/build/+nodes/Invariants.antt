use Rattle.std.proofs.Common.{◌+◌, ◌-◌, ◌*◌}
use Rattle.trie_change.proofs.PieceRuns.{AreComing}
use Rattle.trie_change.proofs.build.+nodes.Given as goal

abbrev pub decreases-put_child : goal.decreases-put_child
decreases-put_child l = 3 * (2049 - l.at) + 3

abbrev pub decreases-put_children : goal.decreases-put_children
decreases-put_children l = 3 * (2049 - l.at) + 1

abbrev pub decreases-made_of : goal.decreases-made_of
decreases-made_of l = 3 * (2049 - l.at) + 2

-- the children so far, and what is left
abbrev pub invariant-put_children-loop-count : goal.invariant-put_children-loop-count
invariant-put_children-loop-count l = AreComing l.at l.items l.fn.diff l.count l.rest l.nodes l.children l.diff
