-- What is read off the trie over sorted suffixes is the suffixes.
use Rattle.std.proofs.Common.{◌≡◌, ℕ, zero, suc, ◌+◌, ◌≤◌, ◌⊎◌, true, false, eqb, List, [], ◌∷◌, ◌++◌, length, drop, Some, None, T, refl, ap, sym, ◌∙◌, inl, inr, arith}
use Rattle.std.specs.Ordering.{nat_cmp}
use Rattle.std.specs.Cmp.Lexicographic.{slice_cmp}
use Rattle.std.specs.FinMap.{is_sorted}
use Rattle.std.specs.List.{AllByRecursion, flat_map}
use Rattle.std.proofs.lemmas.Bool.Decides.{eqb_tells}
use Rattle.trie_model.specs.Trie.{Suffix, after_prefix, with_prefix, below, common_prefix, levels_of, node_over, own_value, read_off, every_nibble, value_here}
use Rattle.trie_root.proofs.Levels.{levels_above_none, levels_below}
use Rattle.trie_root.proofs.Prefixes.{Begins, below-append, begins_both, begins_itself}
use Rattle.trie_root.proofs.ReadOffOrder.{all_below, is_sorted-nibble}
use Rattle.trie_root.proofs.Stripped.{is_sorted-below}
use Rattle.trie_root.proofs.ReadOffNibbles.{InNibbles, going_on, parts_in_order, shorter_in_nibbles}

pub flat_map_alike : {X : Type 0} (f g : ℕ → List X) → ((i : ℕ) → f i ≡ g i) → (is : List ℕ) → flat_map f is ≡ flat_map g is
flat_map_alike f g same [] = refl
flat_map_alike f g same (i ∷ is) = let one : f i ≡ g i = same i in let others : flat_map f is ≡ flat_map g is = flat_map_alike f g same is in cc

put_back : (p ns rest : List ℕ) → after_prefix p ns ≡ Some rest → p ++ rest ≡ ns
put_back [] ns rest e = cc
put_back (x ∷ p) [] rest e = absurd cc
put_back (x ∷ p) (n ∷ ns) rest e =
    elim (eqb_tells x n) [
      | inl t ↦
          let same : eqb x n ≡ true = t.0 in let is : x ≡ n = t.1 in
          let others : p ++ rest ≡ ns = put_back p ns rest (rw same at e) in cc
      | inr f ↦ let other : eqb x n ≡ false = f.0 in let not : None ≡ Some rest = rw other at e in absurd cc
    ]

-- after a prefix that all share stands what stood there
pub with_prefix-below : (p : List ℕ) (ss : List Suffix) → Begins p (common_prefix ss) → with_prefix p (below p ss) ≡ ss
with_prefix-below p [] h = refl
with_prefix-below p (s ∷ []) h =
    let one : after_prefix p s.0 ≡ Some (drop (length p) s.0) = h.rest in
    let back : p ++ drop (length p) s.0 ≡ s.0 = put_back p s.0 (drop (length p) s.0) one in
    rw one (ap (λ (ns : List ℕ). (ns, s.1) ∷ []) back)
with_prefix-below p (s ∷ (t ∷ ss)) h =
    let begin : Begins p s.0 × Begins p (common_prefix (t ∷ ss)) = begins_both p s.0 (common_prefix (t ∷ ss)) h in
    let one : after_prefix p s.0 ≡ Some (drop (length p) s.0) = begin.0.rest in
    let back : p ++ drop (length p) s.0 ≡ s.0 = put_back p s.0 (drop (length p) s.0) one in
    let others : with_prefix p (below p (t ∷ ss)) ≡ t ∷ ss = with_prefix-below p (t ∷ ss) begin.1 in
    rw (one, others) (ap (λ (ns : List ℕ). (ns, s.1) ∷ (t ∷ ss)) back)

read_off_nothing : (d : ℕ) → read_off d [] ≡ []
unfolding read_off node_over
read_off_nothing zero = refl
read_off_nothing (suc d) = let none : read_off d [] ≡ [] = read_off_nothing d in rw none

read_off_parts : (d : ℕ) (ss : List Suffix) → let p = common_prefix ss in
    read_off (suc d) ss ≡ with_prefix p (own_value (value_here (below p ss)) ++ flat_map (λ i. with_prefix (i ∷ []) (read_off d (below (p ++ i ∷ []) ss))) every_nibble)
unfolding read_off node_over
read_off_parts d ss = refl

-- below a prefix and a nibble there is nothing, or a level less is enough
pub fewer_levels : (d : ℕ) (p : List ℕ) (i : ℕ) (ss : List Suffix) → levels_of ss ≤ suc d
    → (below (i ∷ []) (below p ss) ≡ []) ⊎ (levels_of (below (i ∷ []) (below p ss)) ≤ d)
fewer_levels d p i ss fits = next (levels_below p ss) (levels_below (i ∷ []) (below p ss))
  where
    next : ((below p ss ≡ []) ⊎ (levels_of (below p ss) + length p ≤ levels_of ss))
        → ((below (i ∷ []) (below p ss) ≡ []) ⊎ (levels_of (below (i ∷ []) (below p ss)) + 1 ≤ levels_of (below p ss)))
        → (below (i ∷ []) (below p ss) ≡ []) ⊎ (levels_of (below (i ∷ []) (below p ss)) ≤ d)
    next (inl none) k = inl (ap (below (i ∷ [])) none)
    next (inr less) (inl none) = inl none
    next (inr less) (inr lesser) = inr (omega arith)

-- What is read off on as many levels as the suffixes take.
pub read_off_all : (d : ℕ) (ss : List Suffix) → levels_of ss ≤ d → T (is_sorted (slice_cmp nat_cmp) ss) → AllByRecursion InNibbles ss
    → read_off d ss ≡ ss
read_off_all zero ss fits s a = absurd (omega (arith, levels_above_none ss))
read_off_all (suc d) ss fits s a =
    let p = common_prefix ss in
    let sorted : T (is_sorted (slice_cmp nat_cmp) (below p ss)) = is_sorted-below ss s in
    let nibbles : AllByRecursion InNibbles (below p ss) = all_below InNibbles shorter_in_nibbles p ss a in
    let each : (i : ℕ) → with_prefix (i ∷ []) (read_off d (below (p ++ i ∷ []) ss)) ≡ going_on (below p ss) i = λ i.
    ap (with_prefix (i ∷ [])) (ap (read_off d) (below-append p (i ∷ []) ss) ∙ child d (below p ss) i (fewer_levels d p i ss fits)
    (λ fewer. read_off_all d (below (i ∷ []) (below p ss)) fewer (is_sorted-nibble i (below p ss) sorted)
    (all_below InNibbles shorter_in_nibbles (i ∷ []) (below p ss) nibbles))) in
    read_off_parts d ss
    ∙ ap (λ (ts : List Suffix). with_prefix p (own_value (value_here (below p ss)) ++ ts))
    (flat_map_alike (λ i. with_prefix (i ∷ []) (read_off d (below (p ++ i ∷ []) ss))) (going_on (below p ss)) each every_nibble)
    ∙ ap (with_prefix p) (parts_in_order (below p ss) sorted nibbles)
    ∙ with_prefix-below p ss (begins_itself p)
  where
    child : (d : ℕ) (ts : List Suffix) (i : ℕ) → (below (i ∷ []) ts ≡ []) ⊎ (levels_of (below (i ∷ []) ts) ≤ d)
        → (levels_of (below (i ∷ []) ts) ≤ d → read_off d (below (i ∷ []) ts) ≡ below (i ∷ []) ts)
        → read_off d (below (i ∷ []) ts) ≡ below (i ∷ []) ts
    child d ts i (inl none) same = ap (read_off d) none ∙ read_off_nothing d ∙ sym none
    child d ts i (inr fewer) same = same fewer
