-- Pairs whose keys rise are the suffixes of their state's trie.
use Rattle.std.proofs.Common.{◌≡◌, ℕ, List, [], ◌∷◌, map, T, refl, ap, sym, ◌∙◌, arith}
use Rattle.std.specs.Ordering.{nat_cmp, is_lt}
use Rattle.std.specs.Cmp.Lexicographic.{slice_cmp}
use Rattle.std.specs.FinMap.{entries, entries-from_sorted, from_entries, from_sorted, get-from_entries, get-from_sorted, is_sorted, nat_cmp-IsAntisymmetric, same_map, slice_cmp-IsAntisymmetric}
use Rattle.std.proofs.lemmas.Cmp.{nat_list_cmp_total}
use Rattle.std.proofs.lemmas.Float.{T_from_true}
use Rattle.sdb_base.specs.Nibbles.{nibbles_of}
use Rattle.sdb_base.specs.declared.Pair.{Pair}
use Rattle.trie_model.specs.Trie.{Suffix, node_of_all, root_node}
use Rattle.trie_root.specs.Pairs.{AllWithin, KeysRise, entries_of, state_of_pairs}
use Rattle.trie_root.specs.inner.Groups.{IsGroup, suffixes_from}
use Rattle.trie_root.proofs.Ends.{below_all, first_of_and, second_of_and}
use Rattle.trie_root.proofs.Rising.{nibbles_rise}
use Rattle.trie_root.proofs.Stripped.{and, true_from_T}

below_in_nibbles : (k : List ℕ) (ps : List Pair) → T (below_all k (entries_of ps)) → T (below_all (nibbles_of k) (suffixes_from 0 ps))
below_in_nibbles k [] h = tt
below_in_nibbles k (p ∷ ps) h =
    and _ _ (nibbles_rise k p.key (first_of_and _ (below_all k (entries_of ps)) h))
    (below_in_nibbles k ps (second_of_and (is_lt (slice_cmp nat_cmp k p.key)) (below_all k (entries_of ps)) h))

sorted_in_nibbles : (ps : List Pair) → T (is_sorted (slice_cmp nat_cmp) (entries_of ps)) → T (is_sorted (slice_cmp nat_cmp) (suffixes_from 0 ps))
sorted_in_nibbles [] h = tt
sorted_in_nibbles (p ∷ ps) h =
    and _ _ (below_in_nibbles p.key ps (first_of_and _ (is_sorted (slice_cmp nat_cmp) (entries_of ps)) h))
    (sorted_in_nibbles ps (second_of_and (below_all p.key (entries_of ps)) (is_sorted (slice_cmp nat_cmp) (entries_of ps)) h))

pub group_of_keys : (ps : List Pair) → KeysRise ps → AllWithin ps → IsGroup 0 ps
group_of_keys ps rise within = record {
  within = within;
  long = λ k d h. omega arith;
  sorted = true_from_T _ (sorted_in_nibbles ps (T_from_true _ rise));
}

-- the map of sorted entries has them as its entries
entries_back : (es : List (List ℕ × List ℕ)) → T (is_sorted (slice_cmp nat_cmp) es) → entries (from_entries {R = slice_cmp nat_cmp} es) ≡ es
entries_back es h =
    ap entries (same_map nat_list_cmp_total (slice_cmp-IsAntisymmetric nat_cmp-IsAntisymmetric) (from_entries es) (from_sorted es)
    (λ q. get-from_entries nat_list_cmp_total es q ∙ sym (get-from_sorted (slice_cmp nat_cmp) es q h)))
    ∙ entries-from_sorted (slice_cmp nat_cmp) es h

in_nibbles : (ps : List Pair) → map (λ (e : List ℕ × List ℕ). (nibbles_of e.0, e.1)) (entries_of ps) ≡ suffixes_from 0 ps
in_nibbles [] = refl
in_nibbles (p ∷ ps) = ap (λ (ss : List Suffix). (nibbles_of p.key, p.value) ∷ ss) (in_nibbles ps)

pub root_of_pairs : (ps : List Pair) → KeysRise ps → root_node (state_of_pairs ps) ≡ node_of_all (suffixes_from 0 ps)
unfolding root_node
root_of_pairs ps rise =
    ap node_of_all
    (ap (map (λ (e : List ℕ × List ℕ). (nibbles_of e.0, e.1))) (entries_back (entries_of ps) (T_from_true _ rise)) ∙ in_nibbles ps)
