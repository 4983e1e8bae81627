-- What the test of a stub's neighbours says.
use Rattle.std.proofs.Common.{◌≡◌, ◌⊎◌, ℕ, ◌-◌, Bool, true, false, List, [], ◌∷◌, ◌++◌, length, reverse, take, Option, Some, None, refl, ap, ap₂, subst, sym, ◌∙◌, inl, inr, arith, length-append}
use Rattle.std.specs.Prelude.{◌||◌}
use Rattle.std.specs.List.{AllByRecursion, list_any, slice_get}
use Rattle.std.proofs.lemmas.List.{append-nil, reverse-append}
use Rattle.std.proofs.lemmas.List.Concat.{flat_map-append}
use Rattle.trie_model.specs.Trie.{Suffix, below, common_prefix, with_prefix}
use Rattle.trie_read.specs.Paths.{Hangs}
use Rattle.trie_read.proofs.OneFed.{all_split}
use Rattle.trie_read.proofs.Sound.{Sound}
use Rattle.trie_change.specs.Frontier.{IsFrontier, IsItem, is_at_stub, suffixes_for}
use Rattle.trie_change.specs.Item.{Item}
use Rattle.trie_change.specs.Item as item
use Rattle.trie_change.specs.declared.frontier.Stub.{Stub}
use Rattle.trie_change.specs.inner.InOrder.{item_goes_on, hangs_between}
use Rattle.trie_change.proofs.Disjoint.{none_around, not_above}
use Rattle.trie_change.proofs.Neighbours.{all_for, first_tells, first_there_too, last_tells, last_there}
use Rattle.trie_change.proofs.Sides.{part_there, same_front, share_there}

-- ---- the ends of lists

pub ends_or_none : {X : Type 0} (xs : List X) → (xs ≡ []) ⊎ ((ys : List X) × (y : X) × (xs ≡ ys ++ y ∷ []))
ends_or_none [] = inl refl
ends_or_none (x ∷ xs) = elim (ends_or_none xs) [
  | inl none ↦ inr ([], x, ap (λ zs. x ∷ zs) none)
  | inr more ↦ inr (x ∷ more.0, more.1, ap (λ zs. x ∷ zs) more.2)
]

at_end : {X : Type 0} (ys : List X) (y : X) → slice_get (ys ++ y ∷ []) (length ys) ≡ Some y
at_end [] y = refl
at_end (x ∷ ys) y = at_end ys y

pub last_is : {X : Type 0} (xs ys : List X) (y : X) → xs ≡ ys ++ y ∷ [] → slice_get xs (length xs - 1) ≡ Some y
last_is xs ys y e =
    let len : length xs - 1 ≡ length ys = omega (arith, ap length e, length-append ys (y ∷ [])) in
    ap₂ slice_get e len ∙ at_end ys y

-- a path up to its last nibble
up_to_last : (x : ℕ) (path : List ℕ) → (y : ℕ) × (x ∷ path ≡ take (length path) (x ∷ path) ++ y ∷ [])
up_to_last x [] = (x, refl)
up_to_last x (z ∷ path) = let more : (y : ℕ) × (z ∷ path ≡ take (length path) (z ∷ path) ++ y ∷ []) = up_to_last z path in (more.0, ap (λ (r : List ℕ). x ∷ r) more.1)

either_true : (a b : Bool) → (a || b) ≡ true → (a ≡ true) ⊎ (b ≡ true)
either_true true b e = inl refl
either_true false b e = inr e

pub neither_true : (a b : Bool) → (a || b) ≡ false → (a ≡ false) × (b ≡ false)
neither_true true b e = absurd cc
neither_true false b e = (refl, e)

no_test : (a b : Bool) → (a || b) ≡ false → b ≡ false
no_test a b e = (neither_true a b e).1

any_joined : {X : Type 0} (test : X → Bool) (xs ys : List X) → list_any test (xs ++ ys) ≡ false → list_any test ys ≡ false
any_joined test [] ys e = e
any_joined test (x ∷ xs) ys e = any_joined test xs ys (no_test (test x) (list_any test (xs ++ ys)) e)

-- ---- the test

module _ (ss : List Suffix) (s : Sound ss) (p q : List ℕ) (y : ℕ) (path : p ≡ q ++ y ∷ []) (some : below p ss ≡ [] → ⊥) (found rest : List Item)
    (sound_found : AllByRecursion (IsItem ss) found) (sound_rest : AllByRecursion (IsItem ss) rest)
    (whole : all_for ss found ++ (with_prefix p (below p ss) ++ all_for ss rest) ≡ ss) where
  none : (below p (all_for ss found) ≡ []) × (below p (all_for ss rest) ≡ [])
  none = none_around ss p (all_for ss found) (all_for ss rest) whole

  -- by the last item that was found
  by_last : (o : Option Item) → slice_get found (length found - 1) ≡ o
      → (item_goes_on q o ≡ true → below q (all_for ss found) ≡ [] → ⊥) × ((below q (all_for ss found) ≡ [] → ⊥) → item_goes_on q o ≡ true)
  by_last o e = elim (ends_or_none found) [
    | inl nothing ↦
        let no : o ≡ None = sym e ∙ ap (λ (xs : List Item). slice_get xs (length xs - 1)) nothing in (
          λ yes. let f : false ≡ true = ap (item_goes_on q) (sym no) ∙ yes in absurd cc,
          λ more. absurd (more (ap (λ (xs : List Item). below q (all_for ss xs)) nothing)),
        )
    | inr more ↦
        let a : Item = more.1 in
        let is_last : o ≡ Some a = sym e ∙ last_is found more.0 a more.2 in
        let all : all_for ss found ≡ all_for ss more.0 ++ suffixes_for ss a =
        ap (all_for ss) more.2 ∙ flat_map-append (suffixes_for ss) more.0 (a ∷ []) ∙ ap (λ (xs : List Suffix). all_for ss more.0 ++ xs) (append-nil (suffixes_for ss a)) in
        let is : IsItem ss a = (all_split (IsItem ss) more.0 (a ∷ []) (subst (AllByRecursion (IsItem ss)) more.2 sound_found)).1.0 in
        let off : is_at_stub p a ≡ false =
        (neither_true (is_at_stub p a) false (any_joined (is_at_stub p) more.0 (a ∷ []) (ap (list_any (is_at_stub p)) (sym more.2) ∙ not_above ss p found none.0 some))).0 in
        let joined_up : (all_for ss more.0 ++ suffixes_for ss a) ++ (with_prefix p (below p ss) ++ all_for ss rest) ≡ ss =
        ap (λ (xs : List Suffix). xs ++ (with_prefix p (below p ss) ++ all_for ss rest)) (sym all) ∙ whole in (
          λ yes z. last_there ss s.sorted p q y path some more.0 a (all_for ss rest) is off joined_up (ap (item_goes_on q) (sym is_last) ∙ yes) (ap (below q) (sym all) ∙ z),
          λ z. ap (item_goes_on q) is_last ∙ last_tells ss s.sorted p q y path some more.0 a (all_for ss rest) is off joined_up (λ w. z (ap (below q) all ∙ w)),
        )
  ]

  by_first : (items : List Item) → rest ≡ items → (o : Option Item) → slice_get items 0 ≡ o
      → (item_goes_on q o ≡ true → below q (all_for ss rest) ≡ [] → ⊥) × ((below q (all_for ss rest) ≡ [] → ⊥) → item_goes_on q o ≡ true)
  by_first [] are o e = (
    λ yes. let f : false ≡ true = ap (item_goes_on q) e ∙ yes in absurd cc,
    λ more. absurd (more (ap (λ (xs : List Item). below q (all_for ss xs)) are)),
  )
  by_first (b ∷ items) are o e =
      let is : IsItem ss b = (subst (AllByRecursion (IsItem ss)) are sound_rest).0 in
      let off : is_at_stub p b ≡ false =
      (neither_true (is_at_stub p b) (list_any (is_at_stub p) items) (ap (list_any (is_at_stub p)) (sym are) ∙ not_above ss p rest none.1 some)).0 in
      let joined_up : all_for ss found ++ (with_prefix p (below p ss) ++ all_for ss (b ∷ items)) ≡ ss =
      ap (λ (xs : List Item). all_for ss found ++ (with_prefix p (below p ss) ++ all_for ss xs)) (sym are) ∙ whole in (
        λ yes z. first_there_too ss s.sorted p q y path some (all_for ss found) b items is off joined_up (ap (item_goes_on q) e ∙ yes)
            (ap (λ (xs : List Item). below q (all_for ss xs)) (sym are) ∙ z),
        λ z. ap (item_goes_on q) (sym e) ∙ first_tells ss s.sorted p q y path some (all_for ss found) b items is off joined_up
            (λ w. z (ap (λ (xs : List Item). below q (all_for ss xs)) are ∙ w)),
      )

  pub between_hangs : (o n : Option Item) → slice_get found (length found - 1) ≡ o → slice_get rest 0 ≡ n → (item_goes_on q o || item_goes_on q n) ≡ true → Hangs ss p
  between_hangs o n last first e =
      let at : below (q ++ y ∷ []) ss ≡ below p ss = ap (λ (r : List ℕ). below r ss) (sym path) in
      let parts : common_prefix (below q ss) ≡ [] =
      part_there ss q y (all_for ss found) (all_for ss rest)
      (subst (λ (r : List ℕ). all_for ss found ++ (with_prefix r (below r ss) ++ all_for ss rest) ≡ ss) path whole) (λ z. some (sym at ∙ z))
      (elim (either_true (item_goes_on q o) (item_goes_on q n) e) [
        | inl does ↦ inl ((by_last o last).0 does)
        | inr does ↦ inr ((by_first rest refl n first).0 does)
      ]) in
      inr (q, y, path, parts, some)

  pub hangs_not_between : (o n : Option Item) → slice_get found (length found - 1) ≡ o → slice_get rest 0 ≡ n → (item_goes_on q o || item_goes_on q n) ≡ false → Hangs ss p → ⊥
  hangs_not_between o n last first e (inl root) =
      let no : q ++ y ∷ [] ≡ [] = sym path ∙ root in some_end q y no
    where
      some_end : (a : List ℕ) (x : ℕ) → a ++ x ∷ [] ≡ [] → ⊥
      some_end [] x h = cc
      some_end (z ∷ a) x h = cc
  hangs_not_between o n last first e (inr h) =
      let at : below (q ++ y ∷ []) ss ≡ below p ss = ap (λ (r : List ℕ). below r ss) (sym path) in
      let same : h.0 ≡ q = same_front h.0 q h.1 y (sym h.2 ∙ path) in
      let off : (item_goes_on q o ≡ false) × (item_goes_on q n ≡ false) = neither_true (item_goes_on q o) (item_goes_on q n) e in
      let empty : (us : List Suffix) (b : Bool) → b ≡ false → ((us ≡ [] → ⊥) → b ≡ true) → us ≡ [] = λ us b f g. by_list us b f g in
      share_there ss q y (all_for ss found) (all_for ss rest)
      (subst (λ (r : List ℕ). all_for ss found ++ (with_prefix r (below r ss) ++ all_for ss rest) ≡ ss) path whole) (λ z. some (sym at ∙ z))
      (empty (below q (all_for ss found)) (item_goes_on q o) off.0 (by_last o last).1)
      (empty (below q (all_for ss rest)) (item_goes_on q n) off.1 (by_first rest refl n first).1)
      (ap (λ (r : List ℕ). common_prefix (below r ss)) (sym same) ∙ h.3)
    where
      by_list : (us : List Suffix) (b : Bool) → b ≡ false → ((us ≡ [] → ⊥) → b ≡ true) → us ≡ []
      by_list [] b f g = refl
      by_list (u ∷ us) b f g = let yes : b ≡ true = g (λ z. cc) in absurd cc

-- ---- of a stub among items

pub the_test : (ss : List Suffix) → Sound ss → (found later : List Item) (s : Stub) → IsFrontier ss (found ++ (item.Stub s ∷ reverse later))
    → (hangs_between (slice_get found (length found - 1)) s.path.items (slice_get later (length later - 1)) ≡ true → Hangs ss s.path.items)
    × (hangs_between (slice_get found (length found - 1)) s.path.items (slice_get later (length later - 1)) ≡ false → Hangs ss s.path.items → ⊥)
the_test ss sound found later s f = by_path s.path.items refl
  where
    split : AllByRecursion (IsItem ss) found × AllByRecursion (IsItem ss) (item.Stub s ∷ reverse later)
    split = all_split (IsItem ss) found (item.Stub s ∷ reverse later) f.stubs

    before : Option Item
    before = slice_get found (length found - 1)

    after : Option Item
    after = slice_get later (length later - 1)

    first : slice_get (reverse later) 0 ≡ after
    first = elim (ends_or_none later) [
      | inl none ↦ ap (λ (xs : List Item). slice_get (reverse xs) 0) none ∙ sym (ap (λ (xs : List Item). slice_get xs (length xs - 1)) none)
      | inr more ↦ ap (λ (xs : List Item). slice_get (reverse xs) 0) more.2 ∙ ap (λ (xs : List Item). slice_get xs 0) (reverse-append more.0 (more.1 ∷ []))
          ∙ sym (last_is later more.0 more.1 more.2)
    ]

    by_path : (p : List ℕ) → s.path.items ≡ p → (hangs_between before p after ≡ true → Hangs ss p) × (hangs_between before p after ≡ false → Hangs ss p → ⊥)
    by_path [] e = (λ yes. inl refl, λ no. absurd cc)
    by_path (x ∷ path) e =
        let front : (y : ℕ) × (x ∷ path ≡ take (length path) (x ∷ path) ++ y ∷ []) = up_to_last x path in
        let q : List ℕ = take (length path) (x ∷ path) in
        let some : below (x ∷ path) ss ≡ [] → ⊥ = λ z. elim split.1.0.some [
          | inl root ↦ let no : x ∷ path ≡ [] = sym e ∙ root in cc
          | inr more ↦ more (ap (λ (r : List ℕ). below r ss) e ∙ z)
        ] in
        let whole : all_for ss found ++ (with_prefix (x ∷ path) (below (x ∷ path) ss) ++ all_for ss (reverse later)) ≡ ss =
        ap (λ (r : List ℕ). all_for ss found ++ (with_prefix r (below r ss) ++ all_for ss (reverse later))) (sym e)
        ∙ sym (flat_map-append (suffixes_for ss) found (item.Stub s ∷ reverse later)) ∙ f.whole in (
          between_hangs ss sound (x ∷ path) q front.0 front.1 some found (reverse later) split.0 split.1.1 whole before after refl first,
          hangs_not_between ss sound (x ∷ path) q front.0 front.1 some found (reverse later) split.0 split.1.1 whole before after refl first,
        )
