use Rattle.std.proofs.Common.{◌≡◌, ◌+◌, ◌*◌, ◌-◌, [], ◌∷◌, ◌++◌, None}
use Rattle.std.specs.List.{flat_map}
use Rattle.std.specs.Prelude.{slice_index_or}
use Rattle.trie_codec.specs.NodeParts.{node_of_ref}
use Rattle.trie_root.proofs.ReadOffNibbles.{from}
use Rattle.trie_read.specs.inner.Parts.{child_parts, sought_paths, sought_keys, parts_in, as_pieces}
use Rattle.trie_read.proofs.parts.+parts.Given as goal

abbrev pub decreases-put_parts : goal.decreases-put_parts
decreases-put_parts l = 2 * l.levels

abbrev pub decreases-put_child : goal.decreases-put_child
decreases-put_child l = 2 * l.levels + 1

-- what there is so far, and what the children have that are left, are what there is to be
abbrev pub invariant-put_parts-loop-i : goal.invariant-put_parts-loop-i
invariant-put_parts-loop-i l =
    as_pieces l.out.items
    ++ flat_map (λ i. child_parts (sought_paths l.sought) (parts_in (sought_keys l.sought) (sought_paths l.sought) (l.levels - 1)) (l.key ++ i ∷ []) (slice_index_or (node_of_ref l.node).children i None)) (from l.i (16 - l.i))
    ≡ as_pieces l.fn.out.items ++ parts_in (sought_keys l.sought) (sought_paths l.sought) l.levels (node_of_ref l.node) l.path
