-- The nodes of a trie are the same on any levels that are enough.
use Rattle.std.proofs.Common.{◌≡◌, ℕ, zero, suc, ◌≤◌, List, [], ◌∷◌, ◌++◌, refl, ap, sym, ◌∙◌, arith}
use Rattle.std.specs.List.{flat_map}
use Rattle.trie_model.specs.Node.{spelling}
use Rattle.trie_model.specs.Nodes.{PathNode, if_any, nodes_over}
use Rattle.trie_model.specs.Trie.{Suffix, below, every_nibble, levels_of, node_over}
use Rattle.trie_root.proofs.Levels.{levels_above_none, same_node}
use Rattle.trie_root.proofs.ReadOff.{flat_map_alike}
use Rattle.trie_read.specs.inner.Following.{head_at}
use Rattle.trie_read.proofs.Hanging.{Above, fits_below}

if_any_alike : (f g : List Suffix → List PathNode) (us : List Suffix) → ((us ≡ [] → ⊥) → f us ≡ g us) → if_any f us ≡ if_any g us
if_any_alike f g [] e = refl
if_any_alike f g (u ∷ us) e = e (λ z. cc)

pub over : (d : ℕ) (path : List ℕ) (ss : List Suffix) → nodes_over (suc d) path ss ≡ record { path = path; bytes = spelling (node_over (suc d) ss) }
    ∷ flat_map (λ i. if_any (nodes_over d (path ++ Above ss i)) (below (Above ss i) ss)) every_nibble
unfolding nodes_over
over d path ss = refl

pub same_nodes : (m n : ℕ) (path : List ℕ) (ss : List Suffix) → levels_of ss ≤ m → levels_of ss ≤ n → nodes_over m path ss ≡ nodes_over n path ss
same_nodes zero n path ss h k = absurd (omega (arith, levels_above_none ss))
same_nodes (suc m) zero path ss h k = absurd (omega (arith, levels_above_none ss))
same_nodes (suc m) (suc n) path ss h k =
    let tail : ℕ → List PathNode = λ d. flat_map (λ i. if_any (nodes_over d (path ++ Above ss i)) (below (Above ss i) ss)) every_nibble in
    let tails : tail m ≡ tail n =
    flat_map_alike (λ i. if_any (nodes_over m (path ++ Above ss i)) (below (Above ss i) ss)) (λ i. if_any (nodes_over n (path ++ Above ss i)) (below (Above ss i) ss))
    (λ i. if_any_alike (nodes_over m (path ++ Above ss i)) (nodes_over n (path ++ Above ss i)) (below (Above ss i) ss)
    (λ some. same_nodes m n (path ++ Above ss i) (below (Above ss i) ss) (fits_below m ss i h some) (fits_below n ss i k some))) every_nibble in
    over m path ss
    ∙ ap (λ (bytes : List ℕ). let x : PathNode = record { path = path; bytes = bytes } in x ∷ tail m) (ap spelling (same_node (suc m) (suc n) ss h k))
    ∙ ap (λ (ns : List PathNode). let x : PathNode = record { path = path; bytes = spelling (node_over (suc n) ss) } in x ∷ ns) tails
    ∙ sym (over n path ss)

-- the node at a path comes first
pub first_over : (d : ℕ) (ss : List Suffix) (p : List ℕ) → levels_of (below p ss) ≤ suc d → nodes_over (suc d) p (below p ss)
    ≡ head_at ss p ∷ flat_map (λ i. if_any (nodes_over d (p ++ Above (below p ss) i)) (below (Above (below p ss) i) (below p ss))) every_nibble
first_over d ss p fits =
    let us : List Suffix = below p ss in
    over d p us
    ∙ ap (λ (bytes : List ℕ). let x : PathNode = record { path = p; bytes = bytes } in x ∷ flat_map (λ i. if_any (nodes_over d (p ++ Above us i)) (below (Above us i) us)) every_nibble)
    (ap spelling (same_node (suc d) (levels_of us) us fits (omega arith)))
