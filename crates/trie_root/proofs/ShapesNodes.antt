-- The node over sorted suffixes within their limits is a node of the grammar.
use Rattle.std.proofs.Common.{◌≡◌, ℕ, ◌<◌, ◌≤◌, ◌⊎◌, true, false, eqb, cond, zero, suc, List, [], ◌∷◌, ◌++◌, length, map, Option, Some, T, refl, inl, inr, arith}
use Rattle.std.specs.Ordering.{nat_cmp}
use Rattle.std.specs.Cmp.Lexicographic.{slice_cmp}
use Rattle.std.specs.FinMap.{is_sorted}
use Rattle.std.specs.List.{AllByRecursion}
use Rattle.std.proofs.lemmas.List.Elements.{All-from_recursion, All-nil, All-tail, recursion_from_All}
use Rattle.trie_model.specs.Node.{IsChild, IsNodeWithin, IsPartial, IsText, Node, IsShaped, merkle_value, spelling}
use Rattle.trie_model.specs.Trie.{Suffix, below, child_value, common, common_prefix, levels_of, node_over, every_nibble, value_here}
use Rattle.trie_root.specs.Suffixes.{IsSuffix}
use Rattle.trie_root.proofs.Levels.{levels_above_none}
use Rattle.trie_root.proofs.Prefixes.{below-append}
use Rattle.trie_root.proofs.ReadOff.{fewer_levels}
use Rattle.trie_root.proofs.ReadOffNibbles.{InNibbles}
use Rattle.trie_root.proofs.ReadOffOrder.{StaysShorter, all_below, is_sorted-nibble}
use Rattle.trie_root.proofs.Shapes.{has_parts}
use Rattle.trie_root.proofs.ShapesBytes.{spelling_bytes}
use Rattle.trie_root.proofs.ShapesCounts.{HasParts, not_spelled_empty}
use Rattle.trie_root.proofs.ShapesHashes.{merkle_child, merkle_text}
use Rattle.trie_root.proofs.Stripped.{is_sorted-below}

shorter_suffix : StaysShorter IsSuffix
shorter_suffix n ns v h = record {
  nibbles = All-tail (λ n. n < 16) n ns h.nibbles;
  few = omega (arith, h.few);
  bytes = h.bytes;
  short = h.short;
}

in_nibbles : (ss : List Suffix) → AllByRecursion IsSuffix ss → AllByRecursion InNibbles ss
in_nibbles [] a = tt
in_nibbles (s ∷ ss) a = (recursion_from_All (λ n. n < 16) s.0 a.0.nibbles, in_nibbles ss a.1)

-- ---- the partial key

common_small : (a b : List ℕ) → AllByRecursion (λ n. n < 16) a → AllByRecursion (λ n. n < 16) (common a b)
common_small [] b h = tt
common_small (n ∷ a) [] h = tt
common_small (n ∷ a) (m ∷ b) h =
    elim (eqb n m) as (λ t. AllByRecursion (λ n. n < 16) (cond t (n ∷ common a b) [])) [
      | true ↦ (h.0, common_small a b h.1)
      | false ↦ tt
    ]

length-common : (a b : List ℕ) → length (common a b) ≤ length a
length-common [] b = omega arith
length-common (n ∷ a) [] = omega arith
length-common (n ∷ a) (m ∷ b) =
    elim (eqb n m) as (λ t. length (cond t (n ∷ common a b) []) ≤ suc (length a)) [
      | true ↦ omega (arith, length-common a b)
      | false ↦ omega arith
    ]

is_partial : (ss : List Suffix) → AllByRecursion IsSuffix ss → IsPartial (common_prefix ss)
is_partial [] a = record { nibbles = All-nil (λ n. n < 16); short = omega arith }
is_partial (s ∷ []) a = record { nibbles = a.0.nibbles; short = a.0.few }
is_partial (s ∷ (t ∷ ss)) a = record {
  nibbles = All-from_recursion (λ n. n < 16) _ (common_small s.0 (common_prefix (t ∷ ss)) (recursion_from_All (λ n. n < 16) s.0 a.0.nibbles));
  short = omega (arith, length-common s.0 (common_prefix (t ∷ ss)), a.0.few);
}

-- ---- the value

value_text : (ss : List Suffix) → AllByRecursion IsSuffix ss → IsText (value_here ss)
value_text [] a = tt
value_text (s ∷ ss) a =
    elim (eqb (length s.0) 0) as (λ t. IsText (cond t (Some s.1) (value_here ss))) [
      | true ↦ (omega (arith, a.0.short), a.0.bytes)
      | false ↦ value_text ss a.1
    ]

-- ---- the node

-- what a child of a node has
abbrev IsChildText : ℕ → Option (List ℕ) → Type 0
IsChildText d c = IsText c × IsChild (IsNodeWithin d) c

-- a node within a depth can be a child
node_child : (d : ℕ) (n : Node) → IsNodeWithin d n → HasParts n → IsChildText d (Some (merkle_value (spelling n)))
unfolding IsNodeWithin
node_child zero n h parts = absurd h
node_child (suc d) n h parts = (
  merkle_text (spelling n) (spelling_bytes n h.value (recursion_from_All (λ n. n < 16) n.partial h.partial.nibbles) (recursion_from_All IsText n.children h.texts)),
  merkle_child (IsNodeWithin (suc d)) n h (not_spelled_empty n parts),
)

child : (d : ℕ) → ((ss : List Suffix) → levels_of ss ≤ d → T (is_sorted (slice_cmp nat_cmp) ss) → AllByRecursion IsSuffix ss → IsNodeWithin d (node_over d ss))
    → (ss : List Suffix) → (ss ≡ []) ⊎ (levels_of ss ≤ d) → T (is_sorted (slice_cmp nat_cmp) ss) → AllByRecursion IsSuffix ss
    → IsChildText d (child_value (node_over d) ss)
child d within [] h s a = (tt, tt)
child d within (t ∷ ts) (inl none) s a = absurd cc
child zero within (t ∷ ts) (inr fits) s a = absurd (omega (arith, levels_above_none (t ∷ ts)))
child (suc d) within (t ∷ ts) (inr fits) s a =
    node_child (suc d) (node_over (suc d) (t ∷ ts)) (within (t ∷ ts) fits s a) (has_parts d t ts s (in_nibbles (t ∷ ts) a))

all_map : {X Y : Type 0} (P : Y → Type 0) (f : X → Y) → ((x : X) → P (f x)) → (xs : List X) → AllByRecursion P (map f xs)
all_map P f h [] = tt
all_map P f h (x ∷ xs) = (h x, all_map P f h xs)

shape : (d : ℕ) (ss : List Suffix) → T (is_sorted (slice_cmp nat_cmp) ss) → AllByRecursion IsSuffix ss → IsShaped (node_over (suc d) ss)
unfolding node_over
shape d [] s a = inl refl
shape d (t ∷ ts) s a = let parts : HasParts (node_over (suc d) (t ∷ ts)) = has_parts d t ts s (in_nibbles (t ∷ ts) a) in inr (parts.some, parts.more)

-- a node over suffixes on as many levels as they take is a node on as many
pub node_within : (d : ℕ) (ss : List Suffix) → levels_of ss ≤ d → T (is_sorted (slice_cmp nat_cmp) ss) → AllByRecursion IsSuffix ss → IsNodeWithin d (node_over d ss)
unfolding IsNodeWithin node_over
node_within zero ss fits s a = absurd (omega (arith, levels_above_none ss))
node_within (suc d) ss fits s a =
    let p : List ℕ = common_prefix ss in
    let sorted : T (is_sorted (slice_cmp nat_cmp) (below p ss)) = is_sorted-below ss s in
    let rest : AllByRecursion IsSuffix (below p ss) = all_below IsSuffix shorter_suffix p ss a in
    let each : (i : ℕ) → IsChildText d (child_value (node_over d) (below (p ++ i ∷ []) ss)) = λ i.
    rw (below-append p (i ∷ []) ss) (child d (λ ts. node_within d ts) (below (i ∷ []) (below p ss)) (fewer_levels d p i ss fits)
    (is_sorted-nibble i (below p ss) sorted) (all_below IsSuffix shorter_suffix (i ∷ []) (below p ss) rest)) in
    let f : ℕ → Option (List ℕ) = λ i. child_value (node_over d) (below (p ++ i ∷ []) ss) in
    record {
      partial = is_partial ss a;
      value = value_text (below p ss) rest;
      sixteen = refl;
      texts = All-from_recursion IsText (map f every_nibble) (all_map IsText f (λ i. (each i).0) every_nibble);
      children = All-from_recursion (IsChild (IsNodeWithin d)) (map f every_nibble) (all_map (IsChild (IsNodeWithin d)) f (λ i. (each i).1) every_nibble);
      shaped = shape d ss s a;
    }
