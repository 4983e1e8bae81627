-- A number above the longest suffix bounds the depth of a trie, and a larger one changes nothing.
use Rattle.std.proofs.Common.{◌≡◌, ℕ, zero, suc, ◌+◌, ◌≤◌, ◌⊎◌, max, true, false, eqb, cond, List, [], ◌∷◌, ◌++◌, length, map, Option, Some, None, refl, ap, inl, inr, arith}
use Rattle.std.specs.List.{cons_option}
use Rattle.std.specs.Option.{option_map}
use Rattle.trie_model.specs.Node.{Node, merkle_value, spelling}
use Rattle.trie_model.specs.Trie.{Suffix, after_prefix, below, child_value, common_prefix, levels_of, node_over, every_nibble, value_here}

pub length-after_prefix : (p ns rest : List ℕ) → after_prefix p ns ≡ Some rest → length p + length rest ≡ length ns
length-after_prefix [] ns rest e = let same : ns ≡ rest = cc in rw (same) (omega arith)
length-after_prefix (x ∷ p) [] rest e = absurd cc
length-after_prefix (x ∷ p) (n ∷ ns) rest e =
    elim (eqb x n) as (λ b. (cond b (after_prefix p ns) None ≡ Some rest) → suc (length p) + length rest ≡ suc (length ns)) [
      | true ↦ λ found. omega (arith, length-after_prefix p ns rest found)
      | false ↦ λ found. absurd cc
    ] e

pub levels_above_none : (ss : List Suffix) → 1 ≤ levels_of ss
levels_above_none [] = omega arith
levels_above_none (s ∷ ss) = omega (arith, levels_above_none ss)

-- one suffix more, where the others leave as many levels or none
one_more : (q : List ℕ) (s : Suffix) (rest : Option (List ℕ)) (others : List Suffix) (most : ℕ) → after_prefix q s.0 ≡ rest → 1 ≤ most
    → (others ≡ []) ⊎ (levels_of others + length q ≤ most)
    → let all = cons_option (option_map (λ (r : List ℕ). (r, s.1)) rest) others in
    (all ≡ []) ⊎ (levels_of all + length q ≤ max (length s.0 + 1) most)
one_more q s None others most e pos (inl none) = inl none
one_more q s None others most e pos (inr fits) = inr (omega arith)
one_more q s (Some r) others most e pos (inl none) = inr (rw none (omega (arith, length-after_prefix q s.0 r e)))
one_more q s (Some r) others most e pos (inr fits) = inr (omega (arith, length-after_prefix q s.0 r e))

-- below a prefix there is nothing, or each suffix is shorter by the prefix
pub levels_below : (q : List ℕ) (ss : List Suffix) → (below q ss ≡ []) ⊎ (levels_of (below q ss) + length q ≤ levels_of ss)
levels_below q [] = inl refl
levels_below q (s ∷ ss) = one_more q s (after_prefix q s.0) (below q ss) (levels_of ss) refl (levels_above_none ss) (levels_below q ss)

pub same_child : (f g : List Suffix → Node) (ts : List Suffix) (k : ℕ) (most : ℕ) → ((ts ≡ []) ⊎ (levels_of ts + k ≤ most))
    → (levels_of ts + k ≤ most → f ts ≡ g ts) → child_value f ts ≡ child_value g ts
same_child f g [] k most either same = refl
same_child f g (t ∷ ts) k most (inl none) same = absurd cc
same_child f g (t ∷ ts) k most (inr fits) same = ap (λ (n : Node). Some (merkle_value (spelling n))) (same fits)

pub map_alike : {X Y : Type 0} (f g : X → Y) → ((x : X) → f x ≡ g x) → (xs : List X) → map f xs ≡ map g xs
map_alike f g same [] = refl
map_alike f g same (x ∷ xs) = let one : f x ≡ g x = same x in let rest : map f xs ≡ map g xs = map_alike f g same xs in cc

length_longer : (p : List ℕ) (i : ℕ) → length (p ++ i ∷ []) ≡ suc (length p)
length_longer [] i = refl
length_longer (x ∷ p) i = ap suc (length_longer p i)

pub same_node : (m n : ℕ) (ss : List Suffix) → levels_of ss ≤ m → levels_of ss ≤ n → node_over m ss ≡ node_over n ss
unfolding node_over
same_node zero n ss h k = absurd (omega (arith, levels_above_none ss))
same_node (suc m) zero ss h k = absurd (omega (arith, levels_above_none ss))
same_node (suc m) (suc n) ss h k =
    let p = common_prefix ss in
    let with_children : List (Option (List ℕ)) → Node = λ cs. record { partial = p; value = value_here (below p ss); children = cs } in
    ap with_children (map_alike (λ i. child_value (node_over m) (below (p ++ i ∷ []) ss)) (λ i. child_value (node_over n) (below (p ++ i ∷ []) ss))
    (λ i. same_child (node_over m) (node_over n) (below (p ++ i ∷ []) ss) (length (p ++ i ∷ [])) (levels_of ss) (levels_below (p ++ i ∷ []) ss)
    (λ fits. same_node m n (below (p ++ i ∷ []) ss) (omega (arith, length_longer p i)) (omega (arith, length_longer p i)))) every_nibble)
