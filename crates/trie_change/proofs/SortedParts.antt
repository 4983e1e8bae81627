-- Suffixes in order: what lies between two that begin with some nibbles begins with them too.
use Rattle.std.proofs.Common.{◌≡◌, ◌⊎◌, ℕ, true, false, eqb, List, [], ◌∷◌, ◌++◌, Option, Some, None, T, refl, ap, subst, sym, ◌∙◌, inl, inr, arith, eq-eqb}
use Rattle.std.specs.Prelude.{◌&&◌, nat_eq, is_some}
use Rattle.std.specs.List.{starts_with}
use Rattle.std.specs.Ordering.{is_lt, nat_cmp}
use Rattle.std.specs.Cmp.Lexicographic.{slice_cmp}
use Rattle.std.specs.FinMap.{is_sorted}
use Rattle.std.proofs.lemmas.Bool.Decides.{eqb_tells}
use Rattle.trie_model.specs.Trie.{Suffix, after_prefix, below}
use Rattle.trie_root.proofs.Ends.{AtMost, at_most_from_lt, below_all, first_of_and, second_of_and}
use Rattle.trie_read.proofs.Among.{Among, among_right}
use Rattle.trie_read.proofs.Ways.{follows}

abbrev pub Lies : Suffix → Suffix → Type 0
Lies a b = T (is_lt (slice_cmp nat_cmp a.0 b.0))

above_one : (k : List ℕ) (ss : List Suffix) (b : Suffix) → T (below_all k ss) → Among b ss → T (is_lt (slice_cmp nat_cmp k b.0))
above_one k [] b h a = absurd a
above_one k (s ∷ ss) b h (inl e) = subst (λ (x : Suffix). T (is_lt (slice_cmp nat_cmp k x.0))) e (first_of_and _ (below_all k ss) h)
above_one k (s ∷ ss) b h (inr a) = above_one k ss b (second_of_and (is_lt (slice_cmp nat_cmp k s.0)) _ h) a

pub lies_before : (xs ys : List Suffix) (a b : Suffix) → T (is_sorted (slice_cmp nat_cmp) (xs ++ ys)) → Among a xs → Among b ys → Lies a b
lies_before [] ys a b h i j = absurd i
lies_before (x ∷ xs) ys a b h (inl e) j =
    subst (λ (z : Suffix). Lies z b) e (above_one x.0 (xs ++ ys) b (first_of_and _ (is_sorted (slice_cmp nat_cmp) (xs ++ ys)) h) (among_right b xs ys j))
lies_before (x ∷ xs) ys a b h (inr i) j = lies_before xs ys a b (second_of_and (below_all x.0 (xs ++ ys)) _ h) i j

-- ---- between two

begun : (x y : ℕ) (q r : List ℕ) → (eqb x y && starts_with nat_eq r q) ≡ true → (x ≡ y) × (starts_with nat_eq r q ≡ true)
begun x y q r e = elim (eqb_tells x y) [
  | inl t ↦ let same : eqb x y ≡ true = t.0 in (t.1, rw same at e)
  | inr f ↦ let other : eqb x y ≡ false = f.0 in let no : false ≡ true = rw other at e in absurd cc
]

begin_also : (x y : ℕ) (q r : List ℕ) → x ≡ y → starts_with nat_eq r q ≡ true → (eqb x y && starts_with nat_eq r q) ≡ true
begin_also x y q r e h = let same : eqb x y ≡ true = eq-eqb x y e in rw same h

pub between : (q a b c : List ℕ) → AtMost a b → AtMost b c → starts_with nat_eq a q ≡ true → starts_with nat_eq c q ≡ true → starts_with nat_eq b q ≡ true
between [] a b c h k i j = refl
between (x ∷ q) [] b c h k i j = absurd cc
between (x ∷ q) (y ∷ a) b [] h k i j = absurd cc
between (x ∷ q) (y ∷ a) [] (z ∷ c) h k i j = absurd h
between (x ∷ q) (y ∷ a) (w ∷ b) (z ∷ c) h k i j =
    let one : (x ≡ y) × (starts_with nat_eq a q ≡ true) = begun x y q a i in
    let two : (x ≡ z) × (starts_with nat_eq c q ≡ true) = begun x z q c j in
    elim h [
      | inl less ↦ elim k [
        | inl more ↦ absurd (omega (arith, one.0, two.0, less, more))
        | inr same ↦ absurd (omega (arith, one.0, two.0, less, same.0))
      ]
      | inr first ↦ elim k [
        | inl more ↦ absurd (omega (arith, one.0, two.0, first.0, more))
        | inr same ↦ begin_also x w q b (one.0 ∙ first.0) (between q a b c first.1 same.1 one.1 two.1)
      ]
    ]

pub lies_between : (q : List ℕ) (a b c : Suffix) → Lies a b → Lies b c → starts_with nat_eq a.0 q ≡ true → starts_with nat_eq c.0 q ≡ true → starts_with nat_eq b.0 q ≡ true
lies_between q a b c h k i j = between q a.0 b.0 c.0 (at_most_from_lt a.0 b.0 h) (at_most_from_lt b.0 c.0 k) i j

-- two lists of nibbles that begin one list: one of them begins the other
pub one_begins : (p q r : List ℕ) → starts_with nat_eq (p ++ r) q ≡ true → (starts_with nat_eq p q ≡ true) ⊎ (starts_with nat_eq q p ≡ true)
one_begins [] q r e = inr refl
one_begins (x ∷ p) [] r e = inl refl
one_begins (x ∷ p) (y ∷ q) r e =
    let one : (y ≡ x) × (starts_with nat_eq (p ++ r) q ≡ true) = begun y x q (p ++ r) e in
    elim (one_begins p q r one.1) [
      | inl h ↦ inl (begin_also y x q p one.0 h)
      | inr h ↦ inr (begin_also x y p q (sym one.0) h)
    ]

-- ---- those that go on with some nibbles

pub some_there : (q : List ℕ) (us : List Suffix) → (below q us ≡ [] → ⊥) → (v : Suffix) × Among v us × (starts_with nat_eq v.0 q ≡ true)
some_there q [] some = absurd (some refl)
some_there q (u ∷ us) some = by_rest (some_there q us) (after_prefix q u.0) refl
  where
    by_rest : ((below q us ≡ [] → ⊥) → (v : Suffix) × Among v us × (starts_with nat_eq v.0 q ≡ true))
        → (o : Option (List ℕ)) → after_prefix q u.0 ≡ o → (v : Suffix) × Among v (u ∷ us) × (starts_with nat_eq v.0 q ≡ true)
    by_rest further None h =
        let more : (v : Suffix) × Among v us × (starts_with nat_eq v.0 q ≡ true) = further (λ z. some (rw h z)) in
        (more.0, inr more.1, more.2)
    by_rest further (Some r) h = (u, inl refl, follows q u.0 ∙ ap is_some h)

pub there_some : (q : List ℕ) (us : List Suffix) (v : Suffix) → Among v us → starts_with nat_eq v.0 q ≡ true → below q us ≡ [] → ⊥
there_some q [] v a e none = a
there_some q (u ∷ us) v a e none = by_rest (there_some q us v) (after_prefix q u.0) refl
  where
    by_rest : (Among v us → starts_with nat_eq v.0 q ≡ true → below q us ≡ [] → ⊥) → (o : Option (List ℕ)) → after_prefix q u.0 ≡ o → ⊥
    by_rest further (Some r) h = let no : (r, u.1) ∷ below q us ≡ [] = rw h at none in cc
    by_rest further None h = elim a [
      | inl same ↦ let no : true ≡ false = sym e ∙ ap (λ (x : Suffix). starts_with nat_eq x.0 q) (sym same) ∙ follows q u.0 ∙ ap is_some h in cc
      | inr i ↦ further i e (rw h at none)
    ]
