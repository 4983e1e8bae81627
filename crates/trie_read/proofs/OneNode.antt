-- The node over some suffixes, with its children written out.
use Rattle.std.proofs.Common.{◌≡◌, ℕ, suc, List, [], ◌∷◌, ◌++◌, length, Option, refl, ap, ◌∙◌, arith}
use Rattle.std.specs.Prelude.{map}
use Rattle.trie_model.specs.Node.{Node}
use Rattle.trie_model.specs.Trie.{Suffix, below, child_value, common_prefix, levels_of, node_of_all, node_over, every_nibble, value_here}
use Rattle.trie_root.proofs.Levels.{levels_below, map_alike, same_child, same_node}
use Rattle.trie_root.proofs.Prefixes.{below-append}

-- the Merkle values of the nodes over the suffixes that go on with each nibble
abbrev pub children_of : List Suffix → List (Option (List ℕ))
children_of ss = map (λ i. child_value node_of_all (below (i ∷ []) ss)) every_nibble

one_more : (p : List ℕ) (i : ℕ) → length (p ++ i ∷ []) ≡ suc (length p)
one_more [] i = refl
one_more (x ∷ p) i = ap suc (one_more p i)

child_further : (p : List ℕ) (ss : List Suffix) (i : ℕ)
    → child_value (node_over (levels_of ss)) (below (p ++ i ∷ []) ss) ≡ child_value node_of_all (below (i ∷ []) (below p ss))
child_further p ss i =
    let ts = below (p ++ i ∷ []) ss in
    let longer = one_more p i in
    same_child (node_over (levels_of ss)) node_of_all ts (length (p ++ i ∷ [])) (levels_of ss) (levels_below (p ++ i ∷ []) ss)
    (λ fits. same_node (levels_of ss) (levels_of ts) ts (omega arith) (omega arith))
    ∙ ap (child_value node_of_all) (below-append p (i ∷ []) ss)

pub one_node : (ss : List Suffix) → node_of_all ss ≡ record {
  partial = common_prefix ss;
  value = value_here (below (common_prefix ss) ss);
  children = children_of (below (common_prefix ss) ss);
}
unfolding node_over
one_node ss =
    let n = levels_of ss in
    let p = common_prefix ss in
    let with_children : List (Option (List ℕ)) → Node = λ cs. record { partial = p; value = value_here (below p ss); children = cs } in
    same_node n (suc n) ss (omega arith) (omega arith)
    ∙ ap with_children (map_alike (λ i. child_value (node_over n) (below (p ++ i ∷ []) ss)) (λ i. child_value node_of_all (below (i ∷ []) (below p ss))) (child_further p ss) every_nibble)
