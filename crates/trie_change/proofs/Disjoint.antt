-- Items that stand for suffixes one after the other have none of their stubs above another.
use Rattle.std.proofs.Common.{◌≡◌, ℕ, ◌+◌, Bool, true, false, eqb, List, [], ◌∷◌, ◌++◌, length, Option, Some, None, refl, ap, sym, ◌∙◌, arith, eq-eqb, length-append}
use Rattle.std.specs.Prelude.{◌||◌, nat_eq, is_some}
use Rattle.std.specs.List.{flat_map, list_any, starts_with}
use Rattle.trie_model.specs.Trie.{Suffix, after_prefix, below, with_prefix}
use Rattle.trie_root.proofs.Prefixes.{below-append}
use Rattle.trie_root.proofs.Rows.{joined}
use Rattle.trie_read.proofs.Ways.{follows, on_its_way, put_back}
use Rattle.trie_change.specs.Frontier.{is_at_stub, suffixes_for}
use Rattle.trie_change.specs.Item.{Item}
use Rattle.trie_change.specs.Item as item
use Rattle.trie_change.proofs.CarriedStep.{no_items}

-- ---- nibbles that begin others

pub begins : (q r : List ℕ) → starts_with nat_eq (q ++ r) q ≡ true
begins q r = on_its_way q r []

pub goes_on_from : (p q : List ℕ) → starts_with nat_eq p q ≡ true → (r : List ℕ) × (p ≡ q ++ r)
goes_on_from p q e = by_rest (after_prefix q p) refl
  where
    by_rest : (o : Option (List ℕ)) → after_prefix q p ≡ o → (r : List ℕ) × (p ≡ q ++ r)
    by_rest None h = let no : true ≡ false = sym e ∙ follows q p ∙ ap is_some h in absurd cc
    by_rest (Some r) h = (r, sym (put_back q p r h))

pub after_itself : (p ks : List ℕ) → after_prefix p (p ++ ks) ≡ Some ks
after_itself [] ks = refl
after_itself (x ∷ p) ks = let same : eqb x x ≡ true = eq-eqb x x refl in rw same (after_itself p ks)

pub below_after : (p : List ℕ) (us : List Suffix) → below p (with_prefix p us) ≡ us
below_after p [] = refl
below_after p (s ∷ us) = rw (after_itself p s.0) (ap (λ (rest : List Suffix). s ∷ rest) (below_after p us))

pub below_after_further : (p r : List ℕ) (us : List Suffix) → below (p ++ r) (with_prefix p us) ≡ below r us
below_after_further p r us = below-append p r (with_prefix p us) ∙ ap (below r) (below_after p us)

pub nothing_joined : {X : Type 0} (xs ys : List X) → xs ++ ys ≡ [] → (xs ≡ []) × (ys ≡ [])
nothing_joined [] ys e = (refl, e)
nothing_joined (x ∷ xs) ys e = absurd cc

-- ---- suffixes around those of a path

pub none_around : (ss : List Suffix) (p : List ℕ) (before after : List Suffix) → before ++ (with_prefix p (below p ss) ++ after) ≡ ss
    → (below p before ≡ []) × (below p after ≡ [])
none_around ss p before after e =
    let us : List Suffix = below p ss in
    let whole : below p before ++ (us ++ below p after) ≡ us =
    ap (λ (xs : List Suffix). below p before ++ (xs ++ below p after)) (sym (below_after p us))
    ∙ ap (λ (xs : List Suffix). below p before ++ xs) (sym (joined p (with_prefix p us) after))
    ∙ sym (joined p before (with_prefix p us ++ after)) ∙ ap (below p) e in
    let sum : length (below p before) + (length us + length (below p after)) ≡ length us =
    ap (λ n. length (below p before) + n) (sym (length-append us (below p after))) ∙ sym (length-append (below p before) (us ++ below p after)) ∙ ap length whole in
    (no_items (below p before) (omega arith), no_items (below p after) (omega arith))

-- no stub is at a path or above it that others stand for
pub not_above : (ss : List Suffix) (p : List ℕ) (items : List Item) → below p (flat_map (suffixes_for ss) items) ≡ [] → (below p ss ≡ [] → ⊥)
    → list_any (is_at_stub p) items ≡ false
not_above ss p [] none some = refl
not_above ss p (item.Entry e ∷ items) none some =
    not_above ss p items (nothing_joined (below p ((e.path.items, e.value) ∷ [])) (below p (flat_map (suffixes_for ss) items))
    (sym (joined p ((e.path.items, e.value) ∷ []) (flat_map (suffixes_for ss) items)) ∙ none)).1 some
not_above ss p (item.Stub s ∷ items) none some =
    let parts : (below p (with_prefix s.path.items (below s.path.items ss)) ≡ []) × (below p (flat_map (suffixes_for ss) items) ≡ []) =
    nothing_joined (below p (with_prefix s.path.items (below s.path.items ss))) (below p (flat_map (suffixes_for ss) items))
    (sym (joined p (with_prefix s.path.items (below s.path.items ss)) (flat_map (suffixes_for ss) items)) ∙ none) in
    by_test parts.0 (not_above ss p items parts.1 some) (starts_with nat_eq p s.path.items) refl
  where
    by_test : below p (with_prefix s.path.items (below s.path.items ss)) ≡ [] → list_any (is_at_stub p) items ≡ false
        → (b : Bool) → starts_with nat_eq p s.path.items ≡ b → (starts_with nat_eq p s.path.items || list_any (is_at_stub p) items) ≡ false
    by_test here rest true h =
        let further : (r : List ℕ) × (p ≡ s.path.items ++ r) = goes_on_from p s.path.items h in
        absurd (some (ap (λ (q : List ℕ). below q ss) further.1 ∙ below-append s.path.items further.0 ss
        ∙ sym (below_after_further s.path.items further.0 (below s.path.items ss))
        ∙ ap (λ (q : List ℕ). below q (with_prefix s.path.items (below s.path.items ss))) (sym further.1) ∙ here))
    by_test here rest false h = ap (λ b. b || list_any (is_at_stub p) items) h ∙ rest
