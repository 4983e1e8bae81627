-- The node over one pair is a leaf.
use Rattle.std.proofs.Common.{◌≡◌, ℕ, true, eqb, List, [], ◌∷◌, Some, refl, ap, ◌∙◌, eq-eqb}
use Rattle.trie_model.specs.Trie.{Suffix, after_prefix, below, node_of_all, value_here}
use Rattle.trie_codec.specs.Parts.{leaf_with, node_with}
use Rattle.trie_root.specs.inner.Groups.{children_over}
use Rattle.trie_root.proofs.OneLevel.{one_level}

after_itself : (ns : List ℕ) → after_prefix ns ns ≡ Some []
after_itself [] = refl
after_itself (n ∷ ns) = let same : eqb n n ≡ true = eq-eqb n n refl in rw same (after_itself ns)

below_itself : (ns value : List ℕ) → below ns ((ns, value) ∷ []) ≡ ([], value) ∷ []
below_itself ns value = rw (after_itself ns) refl

pub leaf_of_suffix : (ns value : List ℕ) → node_of_all ((ns, value) ∷ []) ≡ leaf_with ns value
unfolding children_over
leaf_of_suffix ns value =
    one_level ((ns, value) ∷ [])
    ∙ ap (λ (ss : List Suffix). node_with ns (value_here ss) (children_over ss)) (below_itself ns value)
