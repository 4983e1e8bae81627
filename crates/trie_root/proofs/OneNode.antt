-- The node over a group of pairs, and the pairs that go on below it.
use Rattle.std.proofs.Common.{◌≡◌, ℕ, ◌+◌, ◌-◌, ◌*◌, ◌≤◌, List, [], ◌∷◌, length, get_or, take, drop, All, Option, T, refl, sym, ap, subst, ◌∙◌, arith, inl, inr, length-drop}
use Rattle.std.specs.Ordering.{nat_cmp, is_lt}
use Rattle.std.specs.Cmp.Lexicographic.{slice_cmp}
use Rattle.std.specs.FinMap.{is_sorted}
use Rattle.std.proofs.lemmas.Bool.{cases_lt}
use Rattle.std.proofs.lemmas.Float.{T_from_true}
use Rattle.std.proofs.lemmas.List.{drop_all}
use Rattle.std.proofs.lemmas.List.Elements.{All-cons, All-head, All-nil, All-tail}
use Rattle.sdb_base.specs.Nibbles.{nibbles_of}
use Rattle.sdb_base.specs.declared.Pair.{Pair}
use Rattle.trie_model.specs.Limits.{AreWithin}
use Rattle.trie_model.specs.Node.{Node}
use Rattle.trie_model.specs.Trie.{Suffix, below, common_prefix, node_of_all, value_here}
use Rattle.trie_root.specs.inner.Groups.{GoesOn, IsGroup, children_over, node_between, suffixes_from, value_ending_at}
use Rattle.trie_root.proofs.Ends.{below_all, first_of_and, second_of_and}
use Rattle.trie_root.proofs.Levels.{length-after_prefix}
use Rattle.trie_root.proofs.Nibble.{length-nibbles_of}
use Rattle.trie_root.proofs.OneLevel.{one_level}
use Rattle.trie_root.proofs.PairGroups.{IsLonger, suffix_at, suffixes_further}
use Rattle.trie_root.proofs.Prefixes.{Begins, all_remain, begins_itself, begins_nothing, begins_parts}
use Rattle.trie_root.proofs.Stripped.{AllBegin, all_begin, is_sorted-below, true_from_T, value_first}

taken : (p ns : List ℕ) → Begins p ns → take (length p) ns ≡ p
taken [] ns h = refl
taken (x ∷ p) [] h = absurd (begins_nothing x p h)
taken (x ∷ p) (n ∷ ns) h =
    let parts = begins_parts x n p ns h in
    let here : x ≡ n = parts.0 in
    let rest : take (length p) ns ≡ p = taken p ns parts.1 in
    cc

no_longer : (p ns : List ℕ) → Begins p ns → length p ≤ length ns
no_longer p ns h = omega (arith, length-after_prefix p ns (drop (length p) ns) h.rest)

-- how many nibbles all share after `at`
abbrev pub end_of : ℕ → List Pair → ℕ
end_of at pairs = at + length (common_prefix (suffixes_from at pairs))

long_further : (at : ℕ) (p : List ℕ) (qs : List Pair) → All (λ (q : Pair). at ≤ 2 * length q.key) qs → AllBegin p (suffixes_from at qs)
    → All (λ (q : Pair). at + length p ≤ 2 * length q.key) qs
long_further at p [] h b = All-nil (λ (q : Pair). at + length p ≤ 2 * length q.key)
long_further at p (q ∷ qs) h b =
    let first : at ≤ 2 * length q.key = All-head (λ (q : Pair). at ≤ 2 * length q.key) q qs h in
    All-cons (λ (q : Pair). at + length p ≤ 2 * length q.key) q qs
    (omega (arith, no_longer p (drop at (nibbles_of q.key)) b.0, length-drop at (nibbles_of q.key), length-nibbles_of q.key))
    (long_further at p qs (All-tail (λ (q : Pair). at ≤ 2 * length q.key) q qs h) b.1)

below_shared : (at : ℕ) (ps : List Pair)
    → below (common_prefix (suffixes_from at ps)) (suffixes_from at ps) ≡ suffixes_from (end_of at ps) ps
below_shared at ps =
    let p = common_prefix (suffixes_from at ps) in
    all_remain p (suffixes_from at ps) (begins_itself p) ∙ suffixes_further at (length p) ps

-- a group stays one after what all share
pub group_further : (at : ℕ) (ps : List Pair) → IsGroup at ps → IsGroup (end_of at ps) ps
group_further at ps r =
    let p = common_prefix (suffixes_from at ps) in
    record {
      within = r.within;
      long = long_further at p ps r.long (all_begin p (suffixes_from at ps) (begins_itself p));
      sorted =
          true_from_T _ (subst (λ (ss : List Suffix). T (is_sorted (slice_cmp nat_cmp) ss)) (below_shared at ps)
          (is_sorted-below (suffixes_from at ps) (T_from_true _ r.sorted)));
    }

abbrev node_with : List ℕ → Option (List ℕ) → List (Option (List ℕ)) → Node
node_with ns v cs = record { partial = ns; value = v; children = cs }

pub node_of_group : (at : ℕ) (p : Pair) (ps : List Pair) → IsGroup at (p ∷ ps)
    → node_of_all (suffixes_from at (p ∷ ps)) ≡ node_between p at (end_of at (p ∷ ps)) (children_over (suffixes_from (end_of at (p ∷ ps)) (p ∷ ps)))
node_of_group at p ps r =
    let ss = suffixes_from at (p ∷ ps) in
    let shared = common_prefix ss in
    let end = end_of at (p ∷ ps) in
    let first : Begins shared (drop at (nibbles_of p.key)) = (all_begin shared ss (begins_itself shared)).0 in
    let count : end - at ≡ length shared = omega arith in
    let partial : shared ≡ take (end - at) (drop at (nibbles_of p.key)) =
    sym (ap (λ (n : ℕ). take n (drop at (nibbles_of p.key))) count ∙ taken shared (drop at (nibbles_of p.key)) first) in
    let after : below shared ss ≡ suffixes_from end (p ∷ ps) = below_shared at (p ∷ ps) in
    let value : value_here (below shared ss) ≡ value_ending_at end p =
    ap value_here after ∙ value_first (suffix_at end p) (suffixes_from end ps) (T_from_true _ (group_further at (p ∷ ps) r).sorted) in
    one_level ss
    ∙ ap (λ (ns : List ℕ). node_with ns (value_here (below shared ss)) (children_over (below shared ss))) partial
    ∙ ap (λ (v : Option (List ℕ)). node_with (take (end - at) (drop at (nibbles_of p.key))) v (children_over (below shared ss))) value
    ∙ ap (λ (ts : List Suffix). node_with (take (end - at) (drop at (nibbles_of p.key))) (value_ending_at end p) (children_over ts)) after

-- the same where the first pair is known by its place
pub node_of_pairs : (at : ℕ) (pairs : List Pair) (p : Pair) → 1 ≤ length pairs → p ≡ get_or pairs 0 p → IsGroup at pairs
    → node_of_all (suffixes_from at pairs) ≡ node_between p at (end_of at pairs) (children_over (suffixes_from (end_of at pairs) pairs))
node_of_pairs at [] p h e r = absurd (omega arith)
node_of_pairs at (q ∷ qs) p h e r =
    subst (λ (x : Pair). node_of_all (suffixes_from at (q ∷ qs)) ≡ node_between x at (end_of at (q ∷ qs)) (children_over (suffixes_from (end_of at (q ∷ qs)) (q ∷ qs))))
    (sym e) (node_of_group at q qs r)

-- ---- the pairs that go on

above_something : (k ns : List ℕ) → T (is_lt (slice_cmp nat_cmp k ns)) → ns ≡ [] → ⊥
above_something [] [] h e = h
above_something (x ∷ k) [] h e = h
above_something k (n ∷ ns) h e = cc

longer_above : (at : ℕ) (k : List ℕ) (p : Pair) → T (is_lt (slice_cmp nat_cmp k (drop at (nibbles_of p.key)))) → IsLonger at p
longer_above at k p h = elim (cases_lt at (2 * length p.key)) [
  | inl l ↦ l
  | inr u ↦ absurd (above_something k (drop at (nibbles_of p.key)) h (drop_all at (nibbles_of p.key) (omega (arith, length-nibbles_of p.key))))
]

all_longer : (at : ℕ) (k : List ℕ) (ps : List Pair) → T (below_all k (suffixes_from at ps)) → All (IsLonger at) ps
all_longer at k [] h = All-nil (IsLonger at)
all_longer at k (p ∷ ps) h =
    All-cons (IsLonger at) p ps (longer_above at k p (first_of_and _ (below_all k (suffixes_from at ps)) h))
    (all_longer at k ps (second_of_and (is_lt (slice_cmp nat_cmp k (drop at (nibbles_of p.key)))) _ h))

-- without the first pair all go on
pub others_go_on : (at : ℕ) (p : Pair) (ps : List Pair) → IsGroup at (p ∷ ps) → GoesOn at ps
others_go_on at p ps r =
    let k = drop at (nibbles_of p.key) in
    let sorted : T (is_sorted (slice_cmp nat_cmp) (suffixes_from at (p ∷ ps))) = T_from_true _ r.sorted in
    record {
      within = All-tail (λ (q : Pair). AreWithin q.key q.value) p ps r.within;
      longer = all_longer at k ps (first_of_and (below_all k (suffixes_from at ps)) (is_sorted (slice_cmp nat_cmp) (suffixes_from at ps)) sorted);
      sorted = true_from_T _ (second_of_and (below_all k (suffixes_from at ps)) (is_sorted (slice_cmp nat_cmp) (suffixes_from at ps)) sorted);
    }

-- with the first pair too, if its key is longer
pub all_go_on : (at : ℕ) (p : Pair) (ps : List Pair) → IsGroup at (p ∷ ps) → IsLonger at p → GoesOn at (p ∷ ps)
all_go_on at p ps r h = record {
  within = r.within;
  longer = All-cons (IsLonger at) p ps h (others_go_on at p ps r).longer;
  sorted = r.sorted;
}

-- a pair whose key ends here stands below no nibble
pub same_children : (at : ℕ) (p : Pair) (ps : List Pair) → 2 * length p.key ≡ at
    → children_over (suffixes_from at ps) ≡ children_over (suffixes_from at (p ∷ ps))
unfolding children_over
same_children at p ps e =
    let none : drop at (nibbles_of p.key) ≡ [] = drop_all at (nibbles_of p.key) (omega (arith, length-nibbles_of p.key)) in
    rw none
