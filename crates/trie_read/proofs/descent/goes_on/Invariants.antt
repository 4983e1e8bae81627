use Rattle.std.proofs.Common.{◌≡◌, ◌+◌, drop}
use Rattle.std.specs.Prelude.{is_some}
use Rattle.sdb_base.specs.Nibbles.{nibbles_of}
use Rattle.trie_model.specs.Trie.{after_prefix}
use Rattle.trie_codec.specs.NodeParts.{node_of_ref}
use Rattle.trie_read.proofs.descent.goes_on.Given as goal

-- what is left of the key begins with what is left of the partial key, where it did
abbrev pub invariant-loop-i : goal.invariant-loop-i
invariant-loop-i l =
    is_some (after_prefix (drop l.i (node_of_ref l.node).partial) (drop (l.at + l.i) (nibbles_of l.key)))
    ≡ is_some (after_prefix (node_of_ref l.node).partial (drop l.at (nibbles_of l.key)))
