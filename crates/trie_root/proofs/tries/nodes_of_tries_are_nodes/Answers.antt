use Rattle.std.proofs.Common.{arith}
use Rattle.std.specs.FinMap.{entries}
use Rattle.std.proofs.lemmas.Float.{T_from_true}
use Rattle.std.proofs.lemmas.List.Elements.{recursion_from_All}
use Rattle.trie_model.specs.Trie.{levels_of, node_over, root_node, suffixes_of}
use Rattle.trie_root.specs.Suffixes.{IsEntry, IsSuffix}
use Rattle.trie_root.proofs.Depths.{is_node}
use Rattle.trie_root.proofs.ReadOffStates.{suffixes_sorted}
use Rattle.trie_root.proofs.ShapesEntries.{suffixes_of_entries}
use Rattle.trie_root.proofs.ShapesNodes.{node_within}
use Rattle.trie_root.proofs.tries.nodes_of_tries_are_nodes.Goals as goal

pub returns-clause-suffixes : goal.returns-clause-suffixes
returns-clause-suffixes c = λ suffixes sorted within.
    is_node (levels_of suffixes) (node_over (levels_of suffixes) suffixes)
    (node_within (levels_of suffixes) suffixes (omega arith) (T_from_true _ sorted) (recursion_from_All IsSuffix suffixes within))

pub returns-clause-state : goal.returns-clause-state
unfolding root_node
returns-clause-state c = λ m within.
    is_node (levels_of (suffixes_of m)) (node_over (levels_of (suffixes_of m)) (suffixes_of m))
    (node_within (levels_of (suffixes_of m)) (suffixes_of m) (omega arith) (suffixes_sorted m)
    (suffixes_of_entries (entries m) (recursion_from_All IsEntry (entries m) within)))
