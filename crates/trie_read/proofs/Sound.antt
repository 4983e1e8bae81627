-- Sorted suffixes within their limits: their nodes are nodes, and their parts make them.
use Rattle.std.proofs.Common.{◌≡◌, ℕ, zero, suc, ◌+◌, ◌*◌, ◌<◌, ◌≤◌, List, [], ◌∷◌, ◌++◌, length, T, refl, ap, subst, sym, ◌∙◌, arith, w64, length-append, length-take-le}
use Rattle.std.specs.Int.{to_le_bytes}
use Rattle.std.specs.Prelude.{All, slice_index}
use Rattle.std.specs.List.{AllByRecursion, flat_map}
use Rattle.std.specs.Ordering.{nat_cmp}
use Rattle.std.specs.Cmp.Lexicographic.{slice_cmp}
use Rattle.std.specs.FinMap.{is_sorted}
use Rattle.std.proofs.lemmas.List.Elements.{All-from_recursion, All-tail, recursion_from_All}
use Rattle.sdb_blake2.specs.Blake2b.{H, digest, final_state, state_bytes}
use Rattle.trie_model.specs.Node.{IsNode, spelling}
use Rattle.trie_model.specs.Trie.{Suffix, below, common_prefix, levels_of, node_of_all, node_over, own_value, value_here, with_prefix}
use Rattle.trie_codec.proofs.Spellings.{one_spelling}
use Rattle.trie_root.specs.Suffixes.{IsSuffix}
use Rattle.trie_root.proofs.Depths.{is_node}
use Rattle.trie_root.proofs.Prefixes.{begins_itself, below-append}
use Rattle.trie_root.proofs.ReadOff.{with_prefix-below}
use Rattle.trie_root.proofs.ReadOffNibbles.{InNibbles, from, going_on, parts_in_order}
use Rattle.trie_root.proofs.ReadOffOrder.{StaysShorter, all_below, is_sorted-nibble}
use Rattle.trie_root.proofs.ShapesNodes.{node_within}
use Rattle.trie_read.specs.Paths.{AreNibbles}
pub use Rattle.trie_read.specs.inner.Following.{Sound}
use Rattle.trie_read.proofs.Hanging.{below-nil}
use Rattle.trie_read.proofs.Rising.{all_weaker}

length-state_bytes : (h : List ℕ) (n : ℕ) → length (state_bytes h n) ≡ 8 * n
unfolding state_bytes
length-state_bytes h zero = refl
length-state_bytes h (suc n) =
    let others : length (state_bytes h n) ≡ 8 * n = length-state_bytes h n in
    omega (arith, length-append (state_bytes h n) (to_le_bytes w64 (slice_index h n)))

pub length-hash : (m : List ℕ) → length (H m) ≡ 32
unfolding H digest
length-hash m = length-take-le 32 (state_bytes (final_state 32 m) 8) (omega (arith, length-state_bytes (final_state 32 m) 8))

pub nibbles_in : (ss : List Suffix) → Sound ss → AllByRecursion InNibbles ss
nibbles_in ss s = all_weaker IsSuffix InNibbles (λ t h. recursion_from_All (λ n. n < 16) t.0 h.nibbles) ss s.within

pub are_nibbles : (ss : List Suffix) → Sound ss → AreNibbles ss
are_nibbles ss s =
    All-from_recursion (λ (t : Suffix). All (λ n. n < 16) t.0) ss (all_weaker IsSuffix (λ (t : Suffix). All (λ n. n < 16) t.0) (λ t h. h.nibbles) ss s.within)

shorter_suffix : StaysShorter IsSuffix
shorter_suffix n ns v h = record { nibbles = All-tail (λ k. k < 16) n ns h.nibbles; few = omega (arith, h.few); bytes = h.bytes; short = h.short }

sorted_below : (p : List ℕ) (ss : List Suffix) → T (is_sorted (slice_cmp nat_cmp) ss) → T (is_sorted (slice_cmp nat_cmp) (below p ss))
sorted_below [] ss s = subst (λ (ts : List Suffix). T (is_sorted (slice_cmp nat_cmp) ts)) (sym (below-nil ss)) s
sorted_below (x ∷ p) ss s =
    subst (λ (ts : List Suffix). T (is_sorted (slice_cmp nat_cmp) ts)) (sym (below-append (x ∷ []) p ss)) (sorted_below p (below (x ∷ []) ss) (is_sorted-nibble x ss s))

pub sound_below : (p : List ℕ) (ss : List Suffix) → Sound ss → Sound (below p ss)
sound_below p ss s = record { sorted = sorted_below p ss s.sorted; within = all_below IsSuffix shorter_suffix p ss s.within }

pub node_sound : (ss : List Suffix) → Sound ss → IsNode (node_of_all ss)
node_sound ss s = is_node (levels_of ss) (node_over (levels_of ss) ss) (node_within (levels_of ss) ss (omega arith) s.sorted s.within)

-- nodes of one spelling are one node
pub one_node : (ss ts : List Suffix) → Sound ss → Sound ts → spelling (node_of_all ss) ≡ spelling (node_of_all ts) → node_of_all ss ≡ node_of_all ts
one_node ss ts s t e = (one_spelling (node_of_all ss) (node_of_all ts) [] [] (node_sound ss s) (node_sound ts t) (ap (λ (b : List ℕ). b ++ []) e)).0

made_of_parts : (ss : List Suffix) → Sound ss
    → with_prefix (common_prefix ss) (own_value (value_here (below (common_prefix ss) ss)) ++ flat_map (going_on (below (common_prefix ss) ss)) (from 0 16)) ≡ ss
made_of_parts ss s =
    let p : List ℕ = common_prefix ss in
    let rest : Sound (below p ss) = sound_below p ss s in
    ap (with_prefix p) (parts_in_order (below p ss) rest.sorted (nibbles_in (below p ss) rest)) ∙ with_prefix-below p ss (begins_itself p)

going_on_alike : (us vs : List Suffix) (i k : ℕ) → i + k ≤ 16 → ((j : ℕ) → j < 16 → below (j ∷ []) us ≡ below (j ∷ []) vs)
    → flat_map (going_on us) (from i k) ≡ flat_map (going_on vs) (from i k)
going_on_alike us vs i zero h same = refl
going_on_alike us vs i (suc k) h same =
    let one : going_on us i ≡ going_on vs i = ap (with_prefix (i ∷ [])) (same i (omega arith)) in
    let others : flat_map (going_on us) (from (suc i) k) ≡ flat_map (going_on vs) (from (suc i) k) = going_on_alike us vs (suc i) k (omega arith) same in
    cc

-- suffixes of one prefix and one value, which go on alike with each nibble, are alike
pub same_parts : (ss ts : List Suffix) → Sound ss → Sound ts → common_prefix ss ≡ common_prefix ts
    → value_here (below (common_prefix ss) ss) ≡ value_here (below (common_prefix ts) ts)
    → ((j : ℕ) → j < 16 → below (j ∷ []) (below (common_prefix ss) ss) ≡ below (j ∷ []) (below (common_prefix ts) ts)) → ss ≡ ts
same_parts ss ts s t p v same =
    let us : List Suffix = flat_map (going_on (below (common_prefix ss) ss)) (from 0 16) in
    let vs : List Suffix = flat_map (going_on (below (common_prefix ts) ts)) (from 0 16) in
    let children : us ≡ vs = going_on_alike (below (common_prefix ss) ss) (below (common_prefix ts) ts) 0 16 (omega arith) same in
    sym (made_of_parts ss s)
    ∙ ap (λ (q : List ℕ). with_prefix q (own_value (value_here (below (common_prefix ss) ss)) ++ us)) p
    ∙ ap (λ o. with_prefix (common_prefix ts) (own_value o ++ us)) v
    ∙ ap (λ (ws : List Suffix). with_prefix (common_prefix ts) (own_value (value_here (below (common_prefix ts) ts)) ++ ws)) children
    ∙ made_of_parts ts t
