-- Where the suffixes that go on with a path up to its last nibble part.
use Rattle.std.proofs.Common.{◌≡◌, ◌⊎◌, ℕ, true, eqb, List, [], ◌∷◌, ◌++◌, map, Some, None, refl, ap, subst, sym, ◌∙◌, inl, inr, eq-eqb}
use Rattle.std.proofs.lemmas.List.{append-nil}
use Rattle.trie_model.specs.Trie.{Suffix, below, common, common_prefix, with_prefix}
use Rattle.trie_root.proofs.Fronts.{all_with}
use Rattle.trie_root.proofs.Prefixes.{Begins, begins_further, begins_itself, begins_parts, below-append, without}
use Rattle.trie_root.proofs.Rows.{joined}
use Rattle.trie_root.proofs.Stripped.{AllBegin, all_begin}
use Rattle.trie_change.proofs.Disjoint.{below_after, none_around}
use Rattle.trie_change.proofs.Unfolds.{after_further}

-- ---- lists up to their last element

some_end : (a : List ℕ) (x : ℕ) → a ++ x ∷ [] ≡ [] → ⊥
some_end [] x e = cc
some_end (z ∷ a) x e = cc

pub same_front : (a b : List ℕ) (x y : ℕ) → a ++ x ∷ [] ≡ b ++ y ∷ [] → a ≡ b
same_front [] [] x y e = refl
same_front [] (z ∷ b) x y e = let rest : [] ≡ b ++ y ∷ [] = cc in absurd (some_end b y (sym rest))
same_front (w ∷ a) [] x y e = let rest : a ++ x ∷ [] ≡ [] = cc in absurd (some_end a x rest)
same_front (w ∷ a) (z ∷ b) x y e =
    let one : w ≡ z = cc in let rest : a ++ x ∷ [] ≡ b ++ y ∷ [] = cc in
    let more : a ≡ b = same_front a b x y rest in cc

-- ---- suffixes that all begin with a nibble

begin_split : (p : List ℕ) (xs ys : List Suffix) → AllBegin p (xs ++ ys) → AllBegin p xs × AllBegin p ys
begin_split p [] ys h = (tt, h)
begin_split p (x ∷ xs) ys h = let rest : AllBegin p xs × AllBegin p ys = begin_split p xs ys h.1 in ((h.0, rest.0), rest.1)

begin_nibble : (y : ℕ) (r : List ℕ) (xs : List Suffix) → AllBegin (y ∷ r) xs → AllBegin (y ∷ []) xs
begin_nibble y r [] h = tt
begin_nibble y r (x ∷ xs) h = (one x.0 h.0, begin_nibble y r xs h.1)
  where
    one : (ns : List ℕ) → Begins (y ∷ r) ns → Begins (y ∷ []) ns
    one [] b = let no : None ≡ Some [] = b.rest in absurd cc
    one (n ∷ ns) b = begins_further y n [] ns (begins_parts y n r ns b).0 (record { rest = refl })

no_suffixes : (n : ℕ) (xs : List Suffix) → map (without n) xs ≡ [] → xs ≡ []
no_suffixes n [] e = refl
no_suffixes n (x ∷ xs) e = absurd cc

none_begin : (y : ℕ) (xs : List Suffix) → AllBegin (y ∷ []) xs → below (y ∷ []) xs ≡ [] → xs ≡ []
none_begin y xs h none = no_suffixes 1 xs (sym (all_with y xs h) ∙ none)

share_nibble : (y : ℕ) (u : Suffix) (us : List Suffix) → common_prefix (with_prefix (y ∷ []) (u ∷ us)) ≡ y ∷ common_prefix (u ∷ us)
share_nibble y u [] = refl
share_nibble y u (v ∷ us) =
    let same : eqb y y ≡ true = eq-eqb y y refl in
    ap (common (y ∷ u.0)) (share_nibble y v us) ∙ rw same refl

module _ (ss : List Suffix) (q : List ℕ) (y : ℕ) (before after : List Suffix) (whole : before ++ (with_prefix (q ++ y ∷ []) (below (q ++ y ∷ []) ss) ++ after) ≡ ss) where
  parts : below q ss ≡ below q before ++ (with_prefix (y ∷ []) (below (q ++ y ∷ []) ss) ++ below q after)
  parts =
      ap (below q) (sym whole) ∙ joined q before (with_prefix (q ++ y ∷ []) (below (q ++ y ∷ []) ss) ++ after)
      ∙ ap (λ (xs : List Suffix). below q before ++ xs) (joined q (with_prefix (q ++ y ∷ []) (below (q ++ y ∷ []) ss)) after
      ∙ ap (λ (xs : List Suffix). xs ++ below q after)
      (ap (below q) (sym (after_further q (y ∷ []) (below (q ++ y ∷ []) ss))) ∙ below_after q (with_prefix (y ∷ []) (below (q ++ y ∷ []) ss))))

  -- others before or after those of a path go on with it up to its last nibble: they part there
  pub part_there : (below (q ++ y ∷ []) ss ≡ [] → ⊥) → ((below q before ≡ [] → ⊥) ⊎ (below q after ≡ [] → ⊥)) → common_prefix (below q ss) ≡ []
  part_there some others = by_shared (common_prefix (below q ss)) refl
    where
      by_first : (z : ℕ) (r : List ℕ) (us : List Suffix) → (us ≡ [] → ⊥) → AllBegin (z ∷ r) (with_prefix (y ∷ []) us) → z ≡ y
      by_first z r [] more h = absurd (more refl)
      by_first z r (u ∷ us) more h = (begins_parts z y r u.0 h.0).0

      by_shared : (c : List ℕ) → common_prefix (below q ss) ≡ c → common_prefix (below q ss) ≡ []
      by_shared [] e = e
      by_shared (z ∷ r) e =
          let us : List Suffix = below (q ++ y ∷ []) ss in
          let all : AllBegin (z ∷ r) (below q before ++ (with_prefix (y ∷ []) us ++ below q after)) =
          subst (λ (xs : List Suffix). AllBegin (z ∷ r) xs) parts
          (all_begin (z ∷ r) (below q ss) (subst (λ (c : List ℕ). Begins (z ∷ r) c) (sym e) (begins_itself (z ∷ r)))) in
          let one : AllBegin (z ∷ r) (below q before) × AllBegin (z ∷ r) (with_prefix (y ∷ []) us ++ below q after) =
          begin_split (z ∷ r) (below q before) (with_prefix (y ∷ []) us ++ below q after) all in
          let two : AllBegin (z ∷ r) (with_prefix (y ∷ []) us) × AllBegin (z ∷ r) (below q after) =
          begin_split (z ∷ r) (with_prefix (y ∷ []) us) (below q after) one.1 in
          let is : z ≡ y = by_first z r us some two.0 in
          let none : (below (q ++ y ∷ []) before ≡ []) × (below (q ++ y ∷ []) after ≡ []) = none_around ss (q ++ y ∷ []) before after whole in
          let ends : (xs : List Suffix) → AllBegin (z ∷ r) (below q xs) → below (q ++ y ∷ []) xs ≡ [] → below q xs ≡ [] = λ xs h n.
          none_begin y (below q xs) (subst (λ (k : ℕ). AllBegin (k ∷ []) (below q xs)) is (begin_nibble z r (below q xs) h)) (sym (below-append q (y ∷ []) xs) ∙ n) in
          elim others [
            | inl some_before ↦ absurd (some_before (ends before one.0 none.0))
            | inr some_after ↦ absurd (some_after (ends after two.1 none.1))
          ]

  -- where no others do, all that go on with it share the last nibble
  pub share_there : (below (q ++ y ∷ []) ss ≡ [] → ⊥) → below q before ≡ [] → below q after ≡ [] → common_prefix (below q ss) ≡ [] → ⊥
  share_there some none_before none_after e =
      let us : List Suffix = below (q ++ y ∷ []) ss in
      let only : below q ss ≡ with_prefix (y ∷ []) us =
      parts ∙ ap (λ (xs : List Suffix). xs ++ (with_prefix (y ∷ []) us ++ below q after)) none_before
      ∙ ap (λ (xs : List Suffix). with_prefix (y ∷ []) us ++ xs) none_after ∙ append-nil (with_prefix (y ∷ []) us) in
      shares us some (sym (ap common_prefix only) ∙ e)
    where
      shares : (us : List Suffix) → (us ≡ [] → ⊥) → common_prefix (with_prefix (y ∷ []) us) ≡ [] → ⊥
      shares [] more e = more refl
      shares (u ∷ us) more e = let no : y ∷ common_prefix (u ∷ us) ≡ [] = sym (share_nibble y u us) ∙ e in cc
