-- The nodes over sorted suffixes have the shape of nodes.
use Rattle.std.proofs.Common.{◌≡◌, ℕ, ◌<◌, ◌⊎◌, Bool, true, false, eqb, suc, List, [], ◌∷◌, ◌++◌, Option, T, refl, ap, sym, subst, ◌∙◌, inl, inr, eq-eqb}
use Rattle.std.specs.Ordering.{nat_cmp, is_lt}
use Rattle.std.specs.Cmp.Lexicographic.{slice_cmp}
use Rattle.std.specs.FinMap.{is_sorted}
use Rattle.std.specs.List.{AllByRecursion}
use Rattle.std.specs.Option.{is_some}
use Rattle.std.proofs.lemmas.Bool.Decides.{eqb_tells}
use Rattle.trie_model.specs.Node.{Node}
use Rattle.trie_model.specs.Trie.{Suffix, below, child_value, common, common_prefix, node_over, value_here}
use Rattle.trie_root.proofs.Ends.{below_all, first_of_and, second_of_and}
use Rattle.trie_root.proofs.Prefixes.{all_remain, begins_itself, below-append}
use Rattle.trie_root.proofs.ReadOffNibbles.{InNibbles, shorter_in_nibbles}
use Rattle.trie_root.proofs.ReadOffOrder.{all_below}
use Rattle.trie_root.proofs.ShapesCounts.{HasParts, parts_with_two, parts_with_value, two_children}
use Rattle.trie_root.proofs.Stripped.{is_sorted-below}
use Rattle.trie_root.proofs.ShapesShared.{nothing_shared}

-- whether there are suffixes
abbrev pub is_any : List Suffix → Bool
is_any [] = false
is_any (s ∷ ss) = true

-- some suffix goes on with another nibble
record Another (n : ℕ) (ss : List Suffix) : Type 0 where
  nibble : ℕ
  small : nibble < 16
  differs : n ≡ nibble → ⊥
  some : is_any (below (nibble ∷ []) ss) ≡ true

first_below : (n : ℕ) (ns v : List ℕ) (ss : List Suffix) → is_any (below (n ∷ []) ((n ∷ ns, v) ∷ ss)) ≡ true
first_below n ns v ss = let same : eqb n n ≡ true = eq-eqb n n refl in rw same

passed : (n m : ℕ) (ms v : List ℕ) (ss : List Suffix) → n ≡ m → Another n ss → Another n ((m ∷ ms, v) ∷ ss)
passed n m ms v ss same a =
    let other : eqb a.nibble m ≡ false = elim (eqb_tells a.nibble m) [ inl t ↦ absurd (a.differs (same ∙ sym t.1)) | inr f ↦ f.0 ] in record {
      nibble = a.nibble;
      small = a.small;
      differs = a.differs;
      some = rw other a.some;
    }

common_of_same : (n m : ℕ) (ns ms : List ℕ) → n ≡ m → common (n ∷ ns) (m ∷ ms) ≡ [] → ⊥
common_of_same n m ns ms e h = let same : eqb n m ≡ true = eq-eqb n m e in let no : n ∷ common ns ms ≡ [] = rw same at h in cc

common_first : (m : ℕ) (ms b : List ℕ) (k : ℕ) (ks : List ℕ) → common (m ∷ ms) b ≡ k ∷ ks → k ≡ m
common_first m ms [] k ks e = absurd cc
common_first m ms (j ∷ js) k ks e =
    elim (eqb_tells m j) [
      | inl t ↦ let same : eqb m j ≡ true = t.0 in let h : m ∷ common ms js ≡ k ∷ ks = rw same at e in cc
      | inr f ↦ let other : eqb m j ≡ false = f.0 in let h : [] ≡ k ∷ ks = rw other at e in absurd cc
    ]

first_shared : (m : ℕ) (ms w : List ℕ) (ss : List Suffix) (k : ℕ) (ks : List ℕ) → common_prefix ((m ∷ ms, w) ∷ ss) ≡ k ∷ ks → k ≡ m
first_shared m ms w [] k ks e = cc
first_shared m ms w (s ∷ ss) k ks e = common_first m ms (common_prefix (s ∷ ss)) k ks e

-- a suffix between that begins alike has what others share
same_nibble : (n m : ℕ) (ns ms w : List ℕ) (ss : List Suffix) → n ≡ m → common (n ∷ ns) (common_prefix ((m ∷ ms, w) ∷ ss)) ≡ []
    → (common_prefix ((m ∷ ms, w) ∷ ss) ≡ [] → Another m ss) → Another n ss
same_nibble n m ns ms w ss same c next =
    elim (common_prefix ((m ∷ ms, w) ∷ ss)) as (λ q. common_prefix ((m ∷ ms, w) ∷ ss) ≡ q → common (n ∷ ns) q ≡ [] → Another n ss) [
      | [] ↦ λ e h. subst (λ (k : ℕ). Another k ss) (sym same) (next e)
      | k ∷ ks ↦ λ e h. absurd (common_of_same n k ns ks (same ∙ sym (first_shared m ms w ss k ks e)) h)
    ] refl c

-- suffixes above some key that share nothing with one that begins with a nibble
another : (x : List ℕ) (n : ℕ) (ns v : List ℕ) (ss : List Suffix) → common_prefix ((n ∷ ns, v) ∷ ss) ≡ [] → T (below_all x ss) → AllByRecursion InNibbles ss
    → Another n ss
another x n ns v [] e b a = absurd cc
another [] n ns v (([], w) ∷ ss) e b a = absurd b
another (y ∷ x) n ns v (([], w) ∷ ss) e b a = absurd b
another x n ns v ((m ∷ ms, w) ∷ ss) e b a =
    elim (eqb_tells n m) [
      | inl t ↦
          passed n m ms w ss t.1 (same_nibble n m ns ms w ss t.1 e
          (λ none. another x m ms w ss none (second_of_and (is_lt (slice_cmp nat_cmp x (m ∷ ms))) _ b) a.1))
      | inr f ↦ record { nibble = m; small = a.0.0; differs = f.1; some = first_below m ms w ss }
    ]

-- two nibbles with which some suffixes go on
record Two (ss : List Suffix) : Type 0 where
  one : ℕ
  other : ℕ
  one_small : one < 16
  other_small : other < 16
  differ : one ≡ other → ⊥
  with_one : is_any (below (one ∷ []) ss) ≡ true
  with_other : is_any (below (other ∷ []) ss) ≡ true

value_or_two : (ss : List Suffix) → common_prefix ss ≡ [] → T (is_sorted (slice_cmp nat_cmp) ss) → AllByRecursion InNibbles ss → is_any ss ≡ true
    → (is_some (value_here ss) ≡ true) ⊎ Two ss
value_or_two [] e s a h = absurd cc
value_or_two (([], v) ∷ ss) e s a h = inl refl
value_or_two ((n ∷ ns, v) ∷ ss) e s a h =
    let m : Another n ss = another (n ∷ ns) n ns v ss e (first_of_and _ (is_sorted (slice_cmp nat_cmp) ss) s) a.1 in
    let unlike : eqb m.nibble n ≡ false = elim (eqb_tells m.nibble n) [ inl t ↦ absurd (m.differs (sym t.1)) | inr f ↦ f.0 ] in
    inr (record {
      one = n;
      other = m.nibble;
      one_small = a.0.0;
      other_small = m.small;
      differ = m.differs;
      with_one = first_below n ns v ss;
      with_other = rw unlike m.some;
    })

some_child : (f : List Suffix → Node) (ss : List Suffix) → is_some (child_value f ss) ≡ is_any ss
some_child f [] = refl
some_child f (s ∷ ss) = refl

-- a node over sorted suffixes has the parts of a leaf or a branch
pub has_parts : (d : ℕ) (s : Suffix) (ss : List Suffix) → T (is_sorted (slice_cmp nat_cmp) (s ∷ ss)) → AllByRecursion InNibbles (s ∷ ss)
    → HasParts (node_over (suc d) (s ∷ ss))
unfolding node_over
has_parts d s ss sorted nibbles =
    let all : List Suffix = s ∷ ss in
    let p : List ℕ = common_prefix all in
    let rest : List Suffix = below p all in
    let child : ℕ → Option (List ℕ) = λ i. child_value (node_over d) (below (p ++ i ∷ []) all) in
    let some : (i : ℕ) → is_any (below (i ∷ []) rest) ≡ true → is_some (child i) ≡ true = λ i h.
    some_child (node_over d) (below (p ++ i ∷ []) all) ∙ ap is_any (below-append p (i ∷ []) all) ∙ h in
    elim (value_or_two rest (nothing_shared all) (is_sorted-below all sorted) (all_below InNibbles shorter_in_nibbles p all nibbles)
    (ap is_any (all_remain p all (begins_itself p)))) [
      | inl value ↦ parts_with_value (node_over (suc d) all) value
      | inr two ↦
          parts_with_two (node_over (suc d) all)
          (two_children child two.one two.other two.one_small two.other_small two.differ (some two.one two.with_one) (some two.other two.with_other))
    ]
