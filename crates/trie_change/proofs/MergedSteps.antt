-- What items and settings make, one after the other from the last on.
use Rattle.std.proofs.Common.{◌≡◌, ℕ, Bool, true, false, cond, List, [], ◌∷◌, ◌++◌, reverse, Option, Some, None, T, refl, ap, ap₂, subst, sym, ◌∙◌, inl, inr}
use Rattle.std.specs.Ordering.{eq_by_cmp}
use Rattle.std.specs.declared.cmp.Ordering.TheVariants.{Less, Equal}
use Rattle.std.specs.FinMap.{find, is_sorted, nat_cmp-IsAntisymmetric, slice_cmp-IsAntisymmetric}
use Rattle.std.proofs.lemmas.List.{append-nil, map-append, reverse-append}
use Rattle.std.proofs.lemmas.List.Concat.{flat_map-append}
use Rattle.trie_model.specs.Trie.{Suffix}
use Rattle.trie_read.proofs.Among.{Among, among_either, among_left, among_right}
use Rattle.trie_change.specs.Frontier.{suffixes_for}
use Rattle.trie_change.specs.declared.frontier.Entry.{Entry}
use Rattle.trie_change.specs.Item.{Item}
use Rattle.trie_change.specs.Item as item
use Rattle.trie_change.specs.declared.frontier.Stub.{Stub}
use Rattle.trie_change.specs.declared.settings.Setting.{Setting}
use Rattle.trie_change.specs.inner.InOrder.{set_pair, set_pairs, stubs_in, stubs_of}
use Rattle.trie_change.proofs.Neighbours.{all_for}
use Rattle.trie_change.proofs.Orders.{back_sorted, found_joined, found_there, joined_sorted, key_cmp, not_found_above, or_else, precedes}

abbrev pub Setted : Type 0
Setted = List ℕ × Option (List ℕ)

-- what is set, over what was there
abbrev pub overlaid : Option (Option (List ℕ)) → Option (List ℕ) → Option (List ℕ)
overlaid None o = o
overlaid (Some v) o = v

-- suffixes and settings of items and settings, the last first
abbrev pub rising : List Suffix → List Item → List Suffix
rising ss items = all_for ss (reverse items)

abbrev pub rising_pairs : List Setting → List Setted
rising_pairs settings = set_pairs (reverse settings)

pub record IsMergedWell (ss : List Suffix) (items : List Item) (settings : List Setting) (merged : List Item) : Type 0 where
  pub sorted : T (is_sorted key_cmp (rising ss merged))
  pub found : (q : List ℕ) → find key_cmp q (rising ss merged) ≡ overlaid (find key_cmp q (rising_pairs settings)) (find key_cmp q (rising ss items))
  pub bounded : (b : List ℕ) → ((e : Suffix) → Among e (rising ss items) → key_cmp e.0 b ≡ Less) → ((e : Setted) → Among e (rising_pairs settings) → key_cmp e.0 b ≡ Less)
      → (e : Suffix) → Among e (rising ss merged) → key_cmp e.0 b ≡ Less
  pub stubs : stubs_of (reverse merged) ≡ stubs_of (reverse items)

pub rising_more : (ss : List Suffix) (i : Item) (items : List Item) → rising ss (i ∷ items) ≡ rising ss items ++ suffixes_for ss i
rising_more ss i items =
    ap (all_for ss) (reverse-append (i ∷ []) items) ∙ flat_map-append (suffixes_for ss) (reverse items) (i ∷ [])
    ∙ ap (λ (us : List Suffix). rising ss items ++ us) (append-nil (suffixes_for ss i))

pub pairs_more : (s : Setting) (settings : List Setting) → rising_pairs (s ∷ settings) ≡ rising_pairs settings ++ set_pair s ∷ []
pairs_more s settings = ap set_pairs (reverse-append (s ∷ []) settings) ∙ map-append set_pair (reverse settings) (s ∷ [])

pub stubs_more : (i : Item) (items : List Item) → stubs_of (reverse (i ∷ items)) ≡ stubs_of (reverse items) ++ stubs_in i
stubs_more i items =
    ap stubs_of (reverse-append (i ∷ []) items) ∙ flat_map-append stubs_in (reverse items) (i ∷ [])
    ∙ ap (λ (us : List Stub). stubs_of (reverse items) ++ us) (append-nil (stubs_in i))

pub or_nothing : (o : Option (List ℕ)) → or_else o None ≡ o
or_nothing None = refl
or_nothing (Some x) = refl

pub or_not_set : (o : Option (Option (List ℕ))) → or_else o None ≡ o
or_not_set None = refl
or_not_set (Some x) = refl

some_or : (o : Option (Option (List ℕ))) (x : Option (List ℕ)) → or_else o (Some x) ≡ None → ⊥
some_or None x h = cc
some_or (Some y) x h = cc

pub same_key : (a b : List ℕ) → key_cmp a b ≡ Equal → a ≡ b
same_key = slice_cmp-IsAntisymmetric nat_cmp-IsAntisymmetric

-- an item above all that is set stays
pub stays : (ss : List Suffix) (i : Item) (items : List Item) (settings : List Setting) (merged : List Item) → T (is_sorted key_cmp (rising ss (i ∷ items)))
    → ((e : Suffix) → Among e (suffixes_for ss i) → (y : Setted) → Among y (rising_pairs settings) → key_cmp y.0 e.0 ≡ Less)
    → IsMergedWell ss items settings merged → IsMergedWell ss (i ∷ items) settings (i ∷ merged)
stays ss i items settings merged h above w = record {
  sorted = subst (λ (us : List Suffix). T (is_sorted key_cmp us)) (sym (rising_more ss i merged))
      (joined_sorted (rising ss merged) (suffixes_for ss i) w.sorted (back_sorted (rising ss items) (suffixes_for ss i) order)
      (λ a b ia ib. w.bounded b.0 (λ e ie. precedes (rising ss items) (suffixes_for ss i) e b order ie ib) (λ y iy. above b ib y iy) a ia));
  found = λ q. ap (find key_cmp q) (rising_more ss i merged) ∙ found_joined q (rising ss merged) (suffixes_for ss i)
      ∙ by_set q (find key_cmp q (rising_pairs settings)) refl
      ∙ sym (ap (λ (us : List Suffix). overlaid (find key_cmp q (rising_pairs settings)) (find key_cmp q us)) (rising_more ss i items));
  bounded = λ b f g e ie. elim (among_either e (rising ss merged) (suffixes_for ss i) (subst (Among e) (rising_more ss i merged) ie)) [
    | inl a ↦ w.bounded b (λ x ix. f x (subst (Among x) (sym (rising_more ss i items)) (among_left x (rising ss items) (suffixes_for ss i) ix))) g e a
    | inr a ↦ f e (subst (Among e) (sym (rising_more ss i items)) (among_right e (rising ss items) (suffixes_for ss i) a))
  ];
  stubs = stubs_more i merged ∙ ap (λ (us : List Stub). us ++ stubs_in i) w.stubs ∙ sym (stubs_more i items);
}
  where
    order : T (is_sorted key_cmp (rising ss items ++ suffixes_for ss i))
    order = subst (λ (us : List Suffix). T (is_sorted key_cmp us)) (rising_more ss i items) h

    by_set : (q : List ℕ) (o : Option (Option (List ℕ))) → find key_cmp q (rising_pairs settings) ≡ o
        → or_else (find key_cmp q (rising ss merged)) (find key_cmp q (suffixes_for ss i))
        ≡ overlaid (find key_cmp q (rising_pairs settings)) (find key_cmp q (rising ss items ++ suffixes_for ss i))
    by_set q None e =
        ap (λ (x : Option (List ℕ)). or_else x (find key_cmp q (suffixes_for ss i)))
        (w.found q ∙ ap (λ (x : Option (Option (List ℕ))). overlaid x (find key_cmp q (rising ss items))) e)
        ∙ sym (found_joined q (rising ss items) (suffixes_for ss i))
        ∙ sym (ap (λ (x : Option (Option (List ℕ))). overlaid x (find key_cmp q (rising ss items ++ suffixes_for ss i))) e)
    by_set q (Some v) e =
        let y : (y : Setted) × Among y (rising_pairs settings) × (key_cmp q y.0 ≡ Equal) = found_there q (rising_pairs settings) v e in
        let none : find key_cmp q (suffixes_for ss i) ≡ None =
        not_found_above q (suffixes_for ss i) (λ b ib. ap (λ (k : List ℕ). key_cmp k b.0) (same_key q y.0.0 y.2) ∙ above b ib y.0 y.1) in
        ap₂ or_else (w.found q ∙ ap (λ (x : Option (Option (List ℕ))). overlaid x (find key_cmp q (rising ss items))) e) none ∙ or_nothing v
        ∙ sym (ap (λ (x : Option (Option (List ℕ))). overlaid x (find key_cmp q (rising ss items ++ suffixes_for ss i))) e)

-- a key that is set again is left out
pub replaced : (ss : List Suffix) (k : Entry) (items : List Item) (s : Setting) (settings : List Setting) (merged : List Item) → k.path.items ≡ s.path.items
    → IsMergedWell ss items (s ∷ settings) merged → IsMergedWell ss (item.Entry k ∷ items) (s ∷ settings) merged
replaced ss k items s settings merged at w = record {
  sorted = w.sorted;
  found = λ q. w.found q ∙ by_set q (find key_cmp q (rising_pairs (s ∷ settings))) refl;
  bounded = λ b f g e ie. w.bounded b (λ x ix. f x (subst (Among x) (sym (rising_more ss (item.Entry k) items)) (among_left x (rising ss items) (suffixes_for ss (item.Entry k)) ix))) g e ie;
  stubs = w.stubs ∙ sym (append-nil (stubs_of (reverse items))) ∙ sym (stubs_more (item.Entry k) items);
}
  where
    by_set : (q : List ℕ) (o : Option (Option (List ℕ))) → find key_cmp q (rising_pairs (s ∷ settings)) ≡ o
        → overlaid (find key_cmp q (rising_pairs (s ∷ settings))) (find key_cmp q (rising ss items))
        ≡ overlaid (find key_cmp q (rising_pairs (s ∷ settings))) (find key_cmp q (rising ss (item.Entry k ∷ items)))
    by_set q (Some v) e =
        ap (λ (x : Option (Option (List ℕ))). overlaid x (find key_cmp q (rising ss items))) e
        ∙ sym (ap (λ (x : Option (Option (List ℕ))). overlaid x (find key_cmp q (rising ss (item.Entry k ∷ items)))) e)
    by_set q None e = ap (overlaid (find key_cmp q (rising_pairs (s ∷ settings)))) (by_key q e (eq_by_cmp key_cmp q k.path.items) refl)
      where
        by_key : (q : List ℕ) → find key_cmp q (rising_pairs (s ∷ settings)) ≡ None → (b : Bool) → eq_by_cmp key_cmp q k.path.items ≡ b
            → find key_cmp q (rising ss items) ≡ find key_cmp q (rising ss (item.Entry k ∷ items))
        by_key q none false other =
            sym (or_nothing (find key_cmp q (rising ss items)))
            ∙ ap (or_else (find key_cmp q (rising ss items))) (sym (ap (λ t. cond t (Some k.value) None) other))
            ∙ sym (found_joined q (rising ss items) (suffixes_for ss (item.Entry k)))
            ∙ sym (ap (find key_cmp q) (rising_more ss (item.Entry k) items))
        by_key q none true same =
            let last : find key_cmp q (set_pair s ∷ []) ≡ Some s.value = ap (λ t. cond t (Some s.value) None) (ap (eq_by_cmp key_cmp q) (sym at) ∙ same) in
            let there : or_else (find key_cmp q (rising_pairs settings)) (Some s.value) ≡ None =
            ap (or_else (find key_cmp q (rising_pairs settings))) (sym last) ∙ sym (found_joined q (rising_pairs settings) (set_pair s ∷ []))
            ∙ sym (ap (find key_cmp q) (pairs_more s settings)) ∙ none in
            absurd (some_or (find key_cmp q (rising_pairs settings)) s.value there)
