-- The suffixes of a sorted list that go on with a nibble stand in a row.
use Rattle.std.proofs.Common.{◌≡◌, ℕ, ◌<◌, Bool, true, false, eqb, All, List, [], ◌∷◌, ◌++◌, map, None, T, refl, ap, subst, ◌∙◌, sym, inl, inr, arith, eq-eqb}
use Rattle.std.specs.Ordering.{nat_cmp, is_lt}
use Rattle.std.specs.Cmp.Lexicographic.{slice_cmp}
use Rattle.std.specs.FinMap.{is_sorted}
use Rattle.std.specs.Option.{option_map}
use Rattle.std.proofs.lemmas.Bool.{cases_lt}
use Rattle.std.proofs.lemmas.List.{append-nil}
use Rattle.std.proofs.lemmas.List.Elements.{All-cons, All-nil, filter_map-append}
use Rattle.std.proofs.lemmas.Bool.Decides.{eqb_tells}
use Rattle.trie_model.specs.Trie.{Suffix, after_prefix, below}
use Rattle.trie_root.specs.Suffixes.{HasFirst, IsWithout}
use Rattle.trie_root.proofs.Ends.{AtMost, at_most_from_lt, below_all, first_of_and, second_of_and}
use Rattle.trie_root.proofs.Prefixes.{without}

-- where in a list the suffixes stand that go on with a nibble
pub record Row (i : ℕ) (ss : List Suffix) : Type 0 where
  pub front : List Suffix
  pub middle : List Suffix
  pub back : List Suffix
  pub parts : ss ≡ front ++ (middle ++ back)
  pub before : below (i ∷ []) front ≡ []
  pub inside : below (i ∷ []) middle ≡ map (without 1) middle
  pub after : below (i ∷ []) back ≡ []
  pub begin : All (HasFirst i) middle

pub unlike : (i n : ℕ) → (i ≡ n → ⊥) → eqb i n ≡ false
unlike i n h = elim (eqb_tells i n) [ inl t ↦ absurd (h t.1) | inr f ↦ f.0 ]

pub alike : (i n : ℕ) → eqb i n ≡ true → i ≡ n
alike i n e = elim (eqb_tells i n) [ inl t ↦ t.1 | inr f ↦ absurd cc ]

pub not_with_lower : (i n : ℕ) (ns ts : List ℕ) → i < n → AtMost (n ∷ ns) ts → after_prefix (i ∷ []) ts ≡ None
not_with_lower i n ns [] h k = absurd k
not_with_lower i n ns (m ∷ ts) h (inl k) = let e : eqb i m ≡ false = unlike i m (λ s. omega arith) in rw e
not_with_lower i n ns (m ∷ ts) h (inr k) = let e : eqb i m ≡ false = unlike i m (λ s. omega arith) in rw e

pub none_with_lower : (i n : ℕ) (ns : List ℕ) (ss : List Suffix) → i < n → T (below_all (n ∷ ns) ss) → below (i ∷ []) ss ≡ []
none_with_lower i n ns [] h b = refl
none_with_lower i n ns (s ∷ ss) h b =
    let one : after_prefix (i ∷ []) s.0 ≡ None = not_with_lower i n ns s.0 h (at_most_from_lt (n ∷ ns) s.0 (first_of_and _ (below_all (n ∷ ns) ss) b)) in
    let others : below (i ∷ []) ss ≡ [] = none_with_lower i n ns ss h (second_of_and (is_lt (slice_cmp nat_cmp (n ∷ ns) s.0)) _ b) in
    rw (one, others)

-- one suffix more before a row, or at its front
passed : (i : ℕ) (s : Suffix) (ss : List Suffix) → after_prefix (i ∷ []) s.0 ≡ None → Row i ss → Row i (s ∷ ss)
passed i s ss none r = record {
  front = s ∷ r.front;
  middle = r.middle;
  back = r.back;
  parts = ap (λ (t : List Suffix). s ∷ t) r.parts;
  before = rw (none, r.before);
  inside = r.inside;
  after = r.after;
  begin = r.begin;
}

begun : (i n : ℕ) (ks v : List ℕ) (ss : List Suffix) (r : Row i ss) → eqb i n ≡ true → r.front ≡ [] → Row i ((n ∷ ks, v) ∷ ss)
begun i n ks v ss r same none = record {
  front = [];
  middle = (n ∷ ks, v) ∷ r.middle;
  back = r.back;
  parts = ap (λ (t : List Suffix). (n ∷ ks, v) ∷ t) (r.parts ∙ ap (λ (t : List Suffix). t ++ (r.middle ++ r.back)) none);
  before = refl;
  inside = rw (same, r.inside);
  after = r.after;
  begin = All-cons (HasFirst i) (n ∷ ks, v) r.middle (ks, ap (λ (m : ℕ). m ∷ ks) (sym (alike i n same))) r.begin;
}

ended : (i n : ℕ) (ns v : List ℕ) (ss : List Suffix) → i < n → T (below_all (n ∷ ns) ss) → Row i ((n ∷ ns, v) ∷ ss)
ended i n ns v ss h b = let other : eqb i n ≡ false = unlike i n (λ s. omega arith) in record {
  front = [];
  middle = [];
  back = (n ∷ ns, v) ∷ ss;
  parts = refl;
  before = refl;
  inside = refl;
  after = rw (other, none_with_lower i n ns ss h b);
  begin = All-nil (HasFirst i);
}

-- a row at the very front, as what follows a suffix with the nibble has
abbrev AtFront : ℕ → List Suffix → Type 0
AtFront i ss = (r : Row i ss) × (r.front ≡ [])

here_next : (i : ℕ) (ns ks v : List ℕ) (ss : List Suffix) → AtMost (i ∷ ns) ks → T (below_all ks ss) → AtFront i ss → AtFront i ((ks, v) ∷ ss)
unfolding ended begun
here_next i ns [] v ss a b r = absurd a
here_next i ns (m ∷ ms) v ss (inl lower) b r = (ended i m ms v ss lower b, refl)
here_next i ns (m ∷ ms) v ss (inr same) b r = (begun i m ms v ss r.0 (eq-eqb i m same.0) r.1, refl)

row_here : (i : ℕ) (ns : List ℕ) (ss : List Suffix) → T (below_all (i ∷ ns) ss) → T (is_sorted (slice_cmp nat_cmp) ss) → AtFront i ss
row_here i ns [] b s = (record { front = []; middle = []; back = []; parts = refl; before = refl; inside = refl; after = refl; begin = All-nil (HasFirst i) }, refl)
row_here i ns (t ∷ ts) b s =
    here_next i ns t.0 t.1 ts (at_most_from_lt (i ∷ ns) t.0 (first_of_and _ (below_all (i ∷ ns) ts) b))
    (first_of_and (below_all t.0 ts) (is_sorted (slice_cmp nat_cmp) ts) s)
    (row_here i ns ts (second_of_and (is_lt (slice_cmp nat_cmp (i ∷ ns) t.0)) (below_all (i ∷ ns) ts) b)
    (second_of_and (below_all t.0 ts) (is_sorted (slice_cmp nat_cmp) ts) s))

row_next : (i : ℕ) (ks v : List ℕ) (ss : List Suffix) → T (below_all ks ss) → T (is_sorted (slice_cmp nat_cmp) ss) → Row i ss → Row i ((ks, v) ∷ ss)
row_next i [] v ss b s r = passed i ([], v) ss refl r
row_next i (n ∷ ns) v ss b s r =
    elim (cases_lt i n) [
      | inl lower ↦ ended i n ns v ss lower b
      | inr other ↦ elim (eqb_tells i n) [
        | inl t ↦
            let at : AtFront i ss = row_here i ns ss (subst (λ (k : ℕ). T (below_all (k ∷ ns) ss)) (sym t.1) b) s in
            begun i n ns v ss at.0 t.0 at.1
        | inr f ↦ let differ : eqb i n ≡ false = f.0 in passed i (n ∷ ns, v) ss (rw differ) r
      ]
    ]

pub row : (i : ℕ) (ss : List Suffix) → T (is_sorted (slice_cmp nat_cmp) ss) → Row i ss
row i [] s = record { front = []; middle = []; back = []; parts = refl; before = refl; inside = refl; after = refl; begin = All-nil (HasFirst i) }
row i (t ∷ ts) s =
    let others : T (is_sorted (slice_cmp nat_cmp) ts) = second_of_and (below_all t.0 ts) (is_sorted (slice_cmp nat_cmp) ts) s in
    row_next i t.0 t.1 ts (first_of_and (below_all t.0 ts) (is_sorted (slice_cmp nat_cmp) ts) s) others (row i ts others)

pub joined : (q : List ℕ) (xs ys : List Suffix) → below q (xs ++ ys) ≡ below q xs ++ below q ys
joined q xs ys = filter_map-append (λ (s : Suffix). option_map (λ (rest : List ℕ). (rest, s.1)) (after_prefix q s.0)) xs ys

-- below a nibble stands the row, without the nibble
pub below_row : (i : ℕ) (ss : List Suffix) (r : Row i ss) → below (i ∷ []) ss ≡ map (without 1) r.middle
below_row i ss r =
    ap (below (i ∷ [])) r.parts
    ∙ rw (joined (i ∷ []) r.front (r.middle ++ r.back), joined (i ∷ []) r.middle r.back, r.before, r.inside, r.after) (append-nil (map (without 1) r.middle))

-- where nothing is below a nibble, no suffix begins with it
without_nibble : (t : Bool) (i n : ℕ) (ns v : List ℕ) (ss : List Suffix) → eqb i n ≡ t → (below (i ∷ []) ss ≡ [] → All (IsWithout i) ss)
    → below (i ∷ []) ((n ∷ ns, v) ∷ ss) ≡ [] → All (IsWithout i) ((n ∷ ns, v) ∷ ss)
without_nibble true i n ns v ss is others e = let some : (ns, v) ∷ below (i ∷ []) ss ≡ [] = rw is at e in absurd cc
without_nibble false i n ns v ss is others e =
    let none : below (i ∷ []) ss ≡ [] = rw is at e in
    All-cons (IsWithout i) (n ∷ ns, v) ss (λ b. let same : n ≡ i = first_of n i ns b.0 b.1 in let yes : eqb i n ≡ true = eq-eqb i n (sym same) in absurd cc) (others none)
  where
    first_of : (n i : ℕ) (ns rest : List ℕ) → n ∷ ns ≡ i ∷ rest → n ≡ i
    first_of n i ns rest e = cc

pub none_begin : (i : ℕ) (ss : List Suffix) → below (i ∷ []) ss ≡ [] → All (IsWithout i) ss
none_begin i [] e = All-nil (IsWithout i)
none_begin i (([], v) ∷ ss) e = All-cons (IsWithout i) ([], v) ss (λ b. let none : [] ≡ i ∷ b.0 = b.1 in absurd cc) (none_begin i ss e)
none_begin i ((n ∷ ns, v) ∷ ss) e = without_nibble (eqb i n) i n ns v ss refl (none_begin i ss) e
