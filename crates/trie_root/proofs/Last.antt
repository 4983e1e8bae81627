-- What a group of pairs shares, by its first and its last.
use Rattle.std.proofs.Common.{◌≡◌, ℕ, ◌+◌, ◌-◌, ◌≤◌, true, eqb, List, [], ◌∷◌, ◌++◌, length, get_or, take, drop, T, refl, sym, ap, subst, ◌∙◌, arith, eq-eqb}
use Rattle.std.specs.Ordering.{nat_cmp}
use Rattle.std.specs.Cmp.Lexicographic.{slice_cmp}
use Rattle.std.specs.FinMap.{is_sorted}
use Rattle.std.proofs.lemmas.Float.{T_from_true}
use Rattle.std.proofs.lemmas.List.{get_or_read, map-append, take_all, take_more}
use Rattle.sdb_base.specs.Nibbles.{nibbles_of}
use Rattle.sdb_base.specs.declared.Pair.{Pair}
use Rattle.trie_model.specs.Trie.{Suffix, common, common_prefix}
use Rattle.trie_root.specs.inner.Groups.{IsGroup, suffixes_from}
use Rattle.trie_root.proofs.Ends.{common_of_ends}
use Rattle.trie_root.proofs.PairGroups.{suffix_at}

common_itself : (xs : List ℕ) → common xs xs ≡ xs
common_itself [] = refl
common_itself (x ∷ xs) = let same : eqb x x ≡ true = eq-eqb x x refl in rw same (ap (λ (t : List ℕ). x ∷ t) (common_itself xs))

last_split : (x : Pair) (xs : List Pair) → x ∷ xs ≡ take (length xs) (x ∷ xs) ++ get_or (x ∷ xs) (length xs) x ∷ []
last_split x xs = sym (take_all (length xs + 1) (x ∷ xs) (omega arith)) ∙ take_more (x ∷ xs) (length xs) x (omega arith)

shared_by_ends : (at : ℕ) (p q : Pair) (ps : List Pair) → IsGroup at (p ∷ ps) → q ≡ get_or (p ∷ ps) (length ps) q
    → common_prefix (suffixes_from at (p ∷ ps)) ≡ common (drop at (nibbles_of p.key)) (drop at (nibbles_of q.key))
shared_by_ends at p q [] r e =
    subst (λ (x : Pair). drop at (nibbles_of p.key) ≡ common (drop at (nibbles_of p.key)) (drop at (nibbles_of x.key))) (sym e)
    (sym (common_itself (drop at (nibbles_of p.key))))
shared_by_ends at p q (t ∷ ts) r e =
    let front = take (length ts) (t ∷ ts) in
    let last : q ≡ get_or (t ∷ ts) (length ts) t = get_or_read (t ∷ ts) (length ts) q (omega arith) e t in
    let parts : t ∷ ts ≡ front ++ q ∷ [] =
    last_split t ts ∙ ap (λ (x : Pair). front ++ x ∷ []) (sym last) in
    let split : suffixes_from at (p ∷ (t ∷ ts)) ≡ suffix_at at p ∷ (suffixes_from at front ++ suffix_at at q ∷ []) =
    ap (λ (xs : List Pair). suffix_at at p ∷ suffixes_from at xs) parts
    ∙ ap (λ (ss : List Suffix). suffix_at at p ∷ ss) (map-append (suffix_at at) front (q ∷ [])) in
    ap common_prefix split
    ∙ common_of_ends (suffix_at at p) (suffix_at at q) (suffixes_from at front)
    (subst (λ (ss : List Suffix). T (is_sorted (slice_cmp nat_cmp) ss)) split (T_from_true _ r.sorted))

pub shared_of_pairs : (at : ℕ) (pairs : List Pair) (p q : Pair) → 1 ≤ length pairs → p ≡ get_or pairs 0 p → q ≡ get_or pairs (length pairs - 1) q
    → IsGroup at pairs → common_prefix (suffixes_from at pairs) ≡ common (drop at (nibbles_of p.key)) (drop at (nibbles_of q.key))
shared_of_pairs at [] p q h e k r = absurd (omega arith)
shared_of_pairs at (x ∷ xs) p q h e k r =
    let place : length (x ∷ xs) - 1 ≡ length xs = omega arith in
    subst (λ (y : Pair). common_prefix (suffixes_from at (x ∷ xs)) ≡ common (drop at (nibbles_of y.key)) (drop at (nibbles_of q.key))) (sym e)
    (shared_by_ends at x q xs r (subst (λ (n : ℕ). q ≡ get_or (x ∷ xs) n q) place k))
