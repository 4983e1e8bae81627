-- A stub hangs where one of its neighbours goes on with its path up to the last nibble.
use Rattle.std.proofs.Common.{◌≡◌, ℕ, true, false, List, [], ◌∷◌, ◌++◌, T, subst, sym, ◌∙◌, inl, inr, append_assoc}
use Rattle.std.specs.Prelude.{nat_eq}
use Rattle.std.specs.List.{flat_map, starts_with}
use Rattle.std.specs.Ordering.{nat_cmp}
use Rattle.std.specs.Cmp.Lexicographic.{slice_cmp}
use Rattle.std.specs.FinMap.{is_sorted}
use Rattle.std.proofs.lemmas.List.{append-nil}
use Rattle.trie_model.specs.Trie.{Suffix, below, with_prefix}
use Rattle.trie_root.proofs.Fronts.{is_sorted-back}
use Rattle.trie_root.proofs.Rows.{joined}
use Rattle.trie_read.proofs.Among.{Among, among_either, among_left, among_right}
use Rattle.trie_change.specs.Frontier.{IsItem, is_at_stub, suffixes_for, item_path}
use Rattle.trie_change.specs.Item.{Item}
use Rattle.trie_change.proofs.Disjoint.{nothing_joined}
use Rattle.trie_change.proofs.LongerPaths.{begins_longer, begins_through, first_there, goes_after, item_goes_through, item_some, item_there}
use Rattle.trie_change.proofs.SortedParts.{Lies, lies_before, lies_between, some_there}

abbrev pub all_for : List Suffix → List Item → List Suffix
all_for ss items = flat_map (suffixes_for ss) items

one_only : (ss : List Suffix) (a : Item) → all_for ss (a ∷ []) ≡ suffixes_for ss a
one_only ss a = append-nil (suffixes_for ss a)

module _ (ss : List Suffix) (sorted : T (is_sorted (slice_cmp nat_cmp) ss)) (p q : List ℕ) (y : ℕ) (path : p ≡ q ++ y ∷ []) (some : below p ss ≡ [] → ⊥) where
  -- a suffix that goes on with the path
  its_own : (v : Suffix) × Among v (with_prefix p (below p ss)) × (starts_with nat_eq v.0 q ≡ true)
  its_own =
      let one : (v : Suffix) × Among v (with_prefix p (below p ss)) = first_there p (below p ss) some in
      let further : (r : List ℕ) × (one.0.0 ≡ p ++ r) = goes_after p (below p ss) one.0 one.1 in
      (one.0, one.1, begins_through q p one.0.0 (begins_longer q (y ∷ []) p path) (begins_longer p further.0 one.0.0 further.1))

  module _ (before : List Item) (a : Item) (after : List Suffix) (is : IsItem ss a) (off : is_at_stub p a ≡ false)
      (whole : (all_for ss before ++ suffixes_for ss a) ++ (with_prefix p (below p ss) ++ after) ≡ ss) where
    pub last_there : starts_with nat_eq (item_path a) q ≡ true → below q (all_for ss before ++ suffixes_for ss a) ≡ [] → ⊥
    last_there h none =
        item_there ss p q y path a is off h
        (nothing_joined (below q (all_for ss before)) (below q (suffixes_for ss a)) (sym (joined q (all_for ss before) (suffixes_for ss a)) ∙ none)).1

    pub last_tells : (below q (all_for ss before ++ suffixes_for ss a) ≡ [] → ⊥) → starts_with nat_eq (item_path a) q ≡ true
    last_tells more =
        let k : (v : Suffix) × Among v (all_for ss before ++ suffixes_for ss a) × (starts_with nat_eq v.0 q ≡ true) =
        some_there q (all_for ss before ++ suffixes_for ss a) more in
        let v : (v : Suffix) × Among v (suffixes_for ss a) = item_some ss p q y path a is off in
        let t : (v : Suffix) × Among v (with_prefix p (below p ss)) × (starts_with nat_eq v.0 q ≡ true) = its_own in
        let rest : List Suffix = with_prefix p (below p ss) ++ after in
        let order : T (is_sorted (slice_cmp nat_cmp) ((all_for ss before ++ suffixes_for ss a) ++ rest)) =
        subst (λ (xs : List Suffix). T (is_sorted (slice_cmp nat_cmp) xs)) (sym whole) sorted in
        let first : T (is_sorted (slice_cmp nat_cmp) (all_for ss before ++ (suffixes_for ss a ++ rest))) =
        subst (λ (xs : List Suffix). T (is_sorted (slice_cmp nat_cmp) xs)) (append_assoc (all_for ss before) (suffixes_for ss a) rest) order in
        elim (among_either k.0 (all_for ss before) (suffixes_for ss a) k.1) [
          | inr here ↦ item_goes_through ss p q y path a k.0 here k.2 off
          | inl earlier ↦
              let one : Lies k.0 v.0 = lies_before (all_for ss before) (suffixes_for ss a ++ rest) k.0 v.0 first earlier (among_left v.0 (suffixes_for ss a) rest v.1) in
              let two : Lies v.0 t.0 = lies_before (all_for ss before ++ suffixes_for ss a) rest v.0 t.0 order
              (among_right v.0 (all_for ss before) (suffixes_for ss a) v.1) (among_left t.0 (with_prefix p (below p ss)) after t.1) in
              item_goes_through ss p q y path a v.0 v.1 (lies_between q k.0 v.0 t.0 one two k.2 t.2) off
        ]

  module _ (before : List Suffix) (b : Item) (after : List Item) (is : IsItem ss b) (off : is_at_stub p b ≡ false)
      (whole : before ++ (with_prefix p (below p ss) ++ all_for ss (b ∷ after)) ≡ ss) where
    pub first_there_too : starts_with nat_eq (item_path b) q ≡ true → below q (all_for ss (b ∷ after)) ≡ [] → ⊥
    first_there_too h none =
        item_there ss p q y path b is off h
        (nothing_joined (below q (suffixes_for ss b)) (below q (all_for ss after)) (sym (joined q (suffixes_for ss b) (all_for ss after)) ∙ none)).0

    pub first_tells : (below q (all_for ss (b ∷ after)) ≡ [] → ⊥) → starts_with nat_eq (item_path b) q ≡ true
    first_tells more =
        let k : (v : Suffix) × Among v (all_for ss (b ∷ after)) × (starts_with nat_eq v.0 q ≡ true) = some_there q (all_for ss (b ∷ after)) more in
        let v : (v : Suffix) × Among v (suffixes_for ss b) = item_some ss p q y path b is off in
        let t : (v : Suffix) × Among v (with_prefix p (below p ss)) × (starts_with nat_eq v.0 q ≡ true) = its_own in
        let order : T (is_sorted (slice_cmp nat_cmp) (with_prefix p (below p ss) ++ all_for ss (b ∷ after))) =
        is_sorted-back before (with_prefix p (below p ss) ++ all_for ss (b ∷ after))
        (subst (λ (xs : List Suffix). T (is_sorted (slice_cmp nat_cmp) xs)) (sym whole) sorted) in
        let rest : T (is_sorted (slice_cmp nat_cmp) (suffixes_for ss b ++ all_for ss after)) =
        is_sorted-back (with_prefix p (below p ss)) (suffixes_for ss b ++ all_for ss after) order in
        elim (among_either k.0 (suffixes_for ss b) (all_for ss after) k.1) [
          | inl here ↦ item_goes_through ss p q y path b k.0 here k.2 off
          | inr later ↦
              let one : Lies t.0 v.0 = lies_before (with_prefix p (below p ss)) (all_for ss (b ∷ after)) t.0 v.0 order t.1
              (among_left v.0 (suffixes_for ss b) (all_for ss after) v.1) in
              let two : Lies v.0 k.0 = lies_before (suffixes_for ss b) (all_for ss after) v.0 k.0 rest v.1 later in
              item_goes_through ss p q y path b v.0 v.1 (lies_between q t.0 v.0 k.0 one two t.2 k.2) off
        ]
