-- Runs of pairs: parts of them, and one nibble further.
use Rattle.std.proofs.Common.{◌≡◌, ℕ, ◌+◌, ◌*◌, ◌<◌, ◌≤◌, List, [], ◌∷◌, ◌++◌, length, map, get_or, take, drop, All, T, refl, sym, ap, subst, ◌∙◌, arith}
use Rattle.std.specs.Ordering.{nat_cmp}
use Rattle.std.specs.Cmp.Lexicographic.{slice_cmp}
use Rattle.std.specs.FinMap.{is_sorted}
use Rattle.std.proofs.lemmas.Float.{T_from_true}
use Rattle.std.proofs.lemmas.List.{drop-drop, drop_more, map-append, take-append-drop}
use Rattle.std.proofs.lemmas.List.Elements.{All-drop, All-head, All-tail, All-take, All-weaker}
use Rattle.sdb_base.specs.Nibbles.{nibbles_of}
use Rattle.sdb_base.specs.declared.Pair.{Pair}
use Rattle.trie_model.specs.Limits.{AreWithin}
use Rattle.trie_model.specs.Trie.{Suffix}
use Rattle.trie_root.specs.inner.Groups.{GoesOn, HasNext, IsGroup, suffixes_from}
use Rattle.trie_root.proofs.Fronts.{is_sorted-back, is_sorted-front}
use Rattle.trie_root.proofs.Nibble.{length-nibbles_of}
use Rattle.trie_root.proofs.Prefixes.{Begins, begins_further, without}
use Rattle.trie_root.proofs.Stripped.{AllBegin, is_sorted-without, true_from_T}

-- the pair's key has more than so many nibbles
abbrev pub IsLonger : ℕ → Pair → Type 0
IsLonger at p = at < 2 * length p.key

-- a pair's suffix
abbrev pub suffix_at : ℕ → Pair → Suffix
suffix_at at p = (drop at (nibbles_of p.key), p.value)

pub suffixes_split : (at n : ℕ) (ps : List Pair) → suffixes_from at ps ≡ suffixes_from at (take n ps) ++ suffixes_from at (drop n ps)
suffixes_split at n ps = ap (suffixes_from at) (sym (take-append-drop n ps)) ∙ map-append (suffix_at at) (take n ps) (drop n ps)

pub suffixes_further : (at n : ℕ) (ps : List Pair) → map (without n) (suffixes_from at ps) ≡ suffixes_from (at + n) ps
suffixes_further at n [] = refl
suffixes_further at n (p ∷ ps) =
    let here : drop n (drop at (nibbles_of p.key)) ≡ drop (at + n) (nibbles_of p.key) = drop-drop n at (nibbles_of p.key) in
    let rest : map (without n) (suffixes_from at ps) ≡ suffixes_from (at + n) ps = suffixes_further at n ps in
    rw (here, rest)

pub goes_on-take : (at n : ℕ) (ps : List Pair) → GoesOn at ps → GoesOn at (take n ps)
goes_on-take at n ps g = record {
  within = All-take (λ (p : Pair). AreWithin p.key p.value) n ps g.within;
  longer = All-take (IsLonger at) n ps g.longer;
  sorted =
      true_from_T _ (is_sorted-front (suffixes_from at (take n ps)) (suffixes_from at (drop n ps))
      (subst (λ (ss : List Suffix). T (is_sorted (slice_cmp nat_cmp) ss)) (suffixes_split at n ps) (T_from_true _ g.sorted)));
}

pub goes_on-drop : (at n : ℕ) (ps : List Pair) → GoesOn at ps → GoesOn at (drop n ps)
goes_on-drop at n ps g = record {
  within = All-drop (λ (p : Pair). AreWithin p.key p.value) n ps g.within;
  longer = All-drop (IsLonger at) n ps g.longer;
  sorted =
      true_from_T _ (is_sorted-back (suffixes_from at (take n ps)) (suffixes_from at (drop n ps))
      (subst (λ (ss : List Suffix). T (is_sorted (slice_cmp nat_cmp) ss)) (suffixes_split at n ps) (T_from_true _ g.sorted)));
}

pub next_nibble : (at : ℕ) (p : Pair) → IsLonger at p
    → drop at (nibbles_of p.key) ≡ get_or (nibbles_of p.key) at 0 ∷ drop (at + 1) (nibbles_of p.key)
next_nibble at p h = drop_more (nibbles_of p.key) at 0 (omega (arith, length-nibbles_of p.key))

next_begins : (at i : ℕ) (p : Pair) → IsLonger at p → HasNext at i p → Begins (i ∷ []) (drop at (nibbles_of p.key))
next_begins at i p h e =
    rw (next_nibble at p h) (begins_further i (get_or (nibbles_of p.key) at 0) [] (drop (at + 1) (nibbles_of p.key)) (sym e) (record { rest = refl }))

pub all_next : (at i : ℕ) (ps : List Pair) → All (IsLonger at) ps → All (HasNext at i) ps → AllBegin (i ∷ []) (suffixes_from at ps)
all_next at i [] h k = tt
all_next at i (p ∷ ps) h k = (
  next_begins at i p (All-head (IsLonger at) p ps h) (All-head (HasNext at i) p ps k),
  all_next at i ps (All-tail (IsLonger at) p ps h) (All-tail (HasNext at i) p ps k),
)

pub group_of_next : (at i : ℕ) (ps : List Pair) → GoesOn at ps → All (HasNext at i) ps → IsGroup (at + 1) ps
group_of_next at i ps g k = record {
  within = g.within;
  long = All-weaker (IsLonger at) (λ (p : Pair). at + 1 ≤ 2 * length p.key) (λ p h. omega arith) ps g.longer;
  sorted =
      true_from_T _ (subst (λ (ss : List Suffix). T (is_sorted (slice_cmp nat_cmp) ss)) (suffixes_further at 1 ps)
      (is_sorted-without (i ∷ []) (suffixes_from at ps) (all_next at i ps g.longer k) (T_from_true _ g.sorted)));
}
