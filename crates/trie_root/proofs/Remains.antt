-- What is left of a group once the pairs of lower nibbles are taken off its front.
use Rattle.std.proofs.Common.{◌≡◌, ℕ, ◌+◌, ◌<◌, ◌≤◌, List, [], ◌∷◌, ◌++◌, map, get_or, take, drop, All, Option, T, refl, sym, ap, subst, ◌∙◌, inl, inr, arith}
use Rattle.std.specs.Ordering.{nat_cmp}
use Rattle.std.specs.Cmp.Lexicographic.{slice_cmp}
use Rattle.std.specs.FinMap.{is_sorted}
use Rattle.std.proofs.lemmas.Bool.{cases_lt}
use Rattle.std.proofs.lemmas.Float.{T_from_true}
use Rattle.std.proofs.lemmas.List.{append-nil, map_more}
use Rattle.std.proofs.lemmas.List.Elements.{All-head}
use Rattle.std.proofs.lemmas.List.FromFn.{get_or-map-range_with_len}
use Rattle.sdb_base.specs.Nibbles.{nibbles_of}
use Rattle.sdb_base.specs.declared.Pair.{Pair}
use Rattle.trie_model.specs.Trie.{Suffix, below, every_nibble}
use Rattle.trie_root.specs.inner.Groups.{GoesOn, HasNext, IsOtherNext, child_below, children_over, suffixes_from}
use Rattle.trie_root.proofs.Ends.{below_all, first_of_and}
use Rattle.trie_root.proofs.Fronts.{all_with, none_after, none_with_other}
use Rattle.trie_root.proofs.PairGroups.{IsLonger, all_next, goes_on-drop, goes_on-take, next_nibble, suffixes_further, suffixes_split}
use Rattle.trie_root.proofs.Rows.{joined}

-- what is left of the pairs has none of the lower nibbles, and all of the others
pub record Remains (at i : ℕ) (pairs rest : List Pair) : Type 0 where
  pub on : GoesOn at rest
  pub past : (j : ℕ) → j < i → below (j ∷ []) (suffixes_from at rest) ≡ []
  pub coming : (j : ℕ) → i ≤ j → below (j ∷ []) (suffixes_from at rest) ≡ below (j ∷ []) (suffixes_from at pairs)

pub all_remains : (at : ℕ) (pairs : List Pair) → GoesOn at pairs → Remains at 0 pairs pairs
all_remains at pairs g = record { on = g; past = λ j h. absurd (omega arith); coming = λ j h. refl }

below_parts : (at n j : ℕ) (rest : List Pair)
    → below (j ∷ []) (suffixes_from at rest) ≡ below (j ∷ []) (suffixes_from at (take n rest)) ++ below (j ∷ []) (suffixes_from at (drop n rest))
below_parts at n j rest = ap (below (j ∷ [])) (suffixes_split at n rest) ∙ joined (j ∷ []) (suffixes_from at (take n rest)) (suffixes_from at (drop n rest))

-- where all in front go on with another nibble, those that go on with this one stand after
after_others : (at n i j : ℕ) (rest : List Pair) → GoesOn at rest → All (HasNext at i) (take n rest) → (j ≡ i → ⊥)
    → below (j ∷ []) (suffixes_from at (drop n rest)) ≡ below (j ∷ []) (suffixes_from at rest)
after_others at n i j rest g k differ =
    let front : GoesOn at (take n rest) = goes_on-take at n rest g in
    let none : below (j ∷ []) (suffixes_from at (take n rest)) ≡ [] =
    none_with_other i j (suffixes_from at (take n rest)) differ (all_next at i (take n rest) front.longer k) in
    sym (below_parts at n j rest ∙ ap (λ (t : List Suffix). t ++ below (j ∷ []) (suffixes_from at (drop n rest))) none)

none_in_others : (at i : ℕ) (others : List Pair) → GoesOn at others → IsOtherNext at i others
    → ((j : ℕ) → j < i → below (j ∷ []) (suffixes_from at others) ≡ []) → below (i ∷ []) (suffixes_from at others) ≡ []
none_in_others at i [] g differ past = refl
none_in_others at i (p ∷ ps) g differ past =
    let ns = nibbles_of p.key in
    let e : drop at ns ≡ get_or ns at 0 ∷ drop (at + 1) ns = next_nibble at p (All-head (IsLonger at) p ps g.longer) in
    let lowest : T (below_all (drop at ns) (suffixes_from at ps)) =
    first_of_and _ (is_sorted (slice_cmp nat_cmp) (suffixes_from at ps)) (T_from_true _ g.sorted) in
    subst (λ (ks : List ℕ). below (i ∷ []) ((ks, p.value) ∷ suffixes_from at ps) ≡ []) (sym e)
    (none_after i (get_or ns at 0) (drop (at + 1) ns) p.value (suffixes_from at ps)
    (subst (λ (ks : List ℕ). T (below_all ks (suffixes_from at ps))) e lowest) differ
    (λ j h. subst (λ (ks : List ℕ). below (j ∷ []) ((ks, p.value) ∷ suffixes_from at ps) ≡ []) e (past j h)))

-- with the group of a nibble taken off the front, what is left of the next
pub remains_further : (at i n : ℕ) (pairs rest : List Pair) → Remains at i pairs rest → All (HasNext at i) (take n rest)
    → IsOtherNext at i (drop n rest) → Remains at (i + 1) pairs (drop n rest)
remains_further at i n pairs rest r k differ =
    let lower : (j : ℕ) → j < i → below (j ∷ []) (suffixes_from at (drop n rest)) ≡ [] =
    λ j h. after_others at n i j rest r.on k (λ e. omega arith) ∙ r.past j h in
    record {
      on = goes_on-drop at n rest r.on;
      past = λ j h. elim (cases_lt j i) [
        | inl l ↦ lower j l
        | inr u ↦
            let same : i ≡ j = omega arith in
            subst (λ (m : ℕ). below (m ∷ []) (suffixes_from at (drop n rest)) ≡ []) same
            (none_in_others at i (drop n rest) (goes_on-drop at n rest r.on) differ lower)
      ];
      coming = λ j h. after_others at n i j rest r.on k (λ e. omega arith) ∙ r.coming j (omega arith);
    }

-- the group at the front is what goes on with the nibble
pub group_below : (at i n : ℕ) (pairs rest : List Pair) → Remains at i pairs rest → All (HasNext at i) (take n rest)
    → IsOtherNext at i (drop n rest) → suffixes_from (at + 1) (take n rest) ≡ below (i ∷ []) (suffixes_from at pairs)
group_below at i n pairs rest r k differ =
    let front : GoesOn at (take n rest) = goes_on-take at n rest r.on in
    let further : Remains at (i + 1) pairs (drop n rest) = remains_further at i n pairs rest r k differ in
    let none : below (i ∷ []) (suffixes_from at (drop n rest)) ≡ [] = further.past i (omega arith) in
    let group : below (i ∷ []) (suffixes_from at (take n rest)) ≡ suffixes_from (at + 1) (take n rest) =
    all_with i (suffixes_from at (take n rest)) (all_next at i (take n rest) front.longer k) ∙ suffixes_further at 1 (take n rest) in
    sym (sym (r.coming i (omega arith)) ∙ below_parts at n i rest
    ∙ ap (λ (t : List Suffix). below (i ∷ []) (suffixes_from at (take n rest)) ++ t) none ∙ append-nil _ ∙ group)

-- the Merkle values of the children of the first nibbles
unfoldable pub first_children : ℕ → List Suffix → List (Option (List ℕ))
first_children n ss = map (child_below ss) (take n every_nibble)

pub first_children-none : (ss : List Suffix) → [] ≡ first_children 0 ss
unfolding first_children
first_children-none ss = refl

nibble_itself : (n : ℕ) → n < 16 → get_or every_nibble n 0 ≡ n
nibble_itself n h = get_or-map-range_with_len (λ (k : ℕ). k) 0 16 n n 0 h (omega arith)

pub first_children-more : (n : ℕ) (ss : List Suffix) → n < 16 → first_children n ss ++ child_below ss n ∷ [] ≡ first_children (n + 1) ss
unfolding first_children
first_children-more n ss h =
    ap (λ (k : ℕ). map (child_below ss) (take n every_nibble) ++ child_below ss k ∷ []) (sym (nibble_itself n h))
    ∙ sym (map_more (child_below ss) every_nibble n 0 h)

-- with one more, the next
pub first_children-push : (n : ℕ) (ss : List Suffix) (c : Option (List ℕ)) (cs ds : List (Option (List ℕ))) → n < 16
    → cs ≡ first_children n ss → c ≡ child_below ss n → ds ≡ cs ++ c ∷ [] → ds ≡ first_children (n + 1) ss
first_children-push n ss c cs ds h so_far one pushed =
    let more : first_children n ss ++ child_below ss n ∷ [] ≡ first_children (n + 1) ss = first_children-more n ss h in cc

pub first_children-all : (ss : List Suffix) → first_children 16 ss ≡ children_over ss
unfolding first_children children_over
first_children-all ss = refl
