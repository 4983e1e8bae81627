-- Keys in order, and what is found among entries in their order.
use Rattle.std.proofs.Common.{◌≡◌, ℕ, true, false, eqb, cond, List, [], ◌∷◌, ◌++◌, Option, Some, None, T, refl, ap, subst, sym, ◌∙◌, inl, inr, eq-eqb}
use Rattle.std.specs.Prelude.{nat_eq}
use Rattle.std.specs.List.{starts_with}
use Rattle.std.specs.Ordering.{eq_by_cmp, is_eq, is_lt, nat_cmp, ordering_reverse, ordering_then}
use Rattle.std.specs.declared.cmp.Ordering.{Ordering}
use Rattle.std.specs.declared.cmp.Ordering.TheVariants.{Less, Equal, Greater}
use Rattle.std.specs.Cmp.Lexicographic.{slice_cmp}
use Rattle.std.specs.FinMap.{find, is_sorted}
use Rattle.std.specs.FinMap.Entries.{below_all}
use Rattle.std.proofs.lemmas.Cmp.{nat_list_cmp_total, ranked, tied_itself}
use Rattle.trie_root.proofs.Ends.{first_of_and, second_of_and}
use Rattle.trie_root.proofs.Stripped.{and}
use Rattle.trie_read.proofs.Among.{Among, among_either, among_right}

abbrev pub key_cmp : List ℕ → List ℕ → Ordering
key_cmp = slice_cmp nat_cmp

-- ---- two keys

pub flipped : (a b : List ℕ) → key_cmp a b ≡ Greater → key_cmp b a ≡ Less
flipped a b e = nat_list_cmp_total.antisymm b a ∙ ap ordering_reverse e

pub less_from : (a b : List ℕ) → T (is_lt (key_cmp a b)) → key_cmp a b ≡ Less
less_from a b h = elim (key_cmp a b) as (λ o. T (is_lt o) → o ≡ Less) [ Less ↦ λ t. refl | Equal ↦ λ t. absurd t | Greater ↦ λ t. absurd t ] h

pub from_less : (a b : List ℕ) → key_cmp a b ≡ Less → T (is_lt (key_cmp a b))
from_less a b e = subst (λ o. T (is_lt o)) (sym e) tt

pub through : (a b c : List ℕ) → key_cmp a b ≡ Less → key_cmp b c ≡ Less → key_cmp a c ≡ Less
through a b c e f = nat_list_cmp_total.trans a b c e f

pub not_itself : (a : List ℕ) → key_cmp a a ≡ Less → ⊥
not_itself a e = let no : Equal ≡ Less = sym (tied_itself nat_list_cmp_total a) ∙ e in cc

pub below_longer : (k p r : List ℕ) → key_cmp k p ≡ Less → key_cmp k (p ++ r) ≡ Less
below_longer [] [] r e = absurd cc
below_longer [] (y ∷ p) r e = refl
below_longer (x ∷ k) [] r e = absurd cc
below_longer (x ∷ k) (y ∷ p) r e =
    elim (nat_cmp x y) as (λ o. ordering_then o (key_cmp k p) ≡ Less → ordering_then o (key_cmp k (p ++ r)) ≡ Less) [
      | Less ↦ λ h. refl
      | Equal ↦ λ h. below_longer k p r h
      | Greater ↦ λ h. h
    ] e

pub longer_below : (p r k : List ℕ) → key_cmp p k ≡ Less → starts_with nat_eq k p ≡ false → key_cmp (p ++ r) k ≡ Less
longer_below [] r k e off = absurd cc
longer_below (x ∷ p) r [] e off = absurd cc
longer_below (x ∷ p) r (y ∷ k) e off =
    elim (nat_cmp x y) as (λ o. nat_cmp x y ≡ o → ordering_then o (key_cmp p k) ≡ Less → ordering_then o (key_cmp (p ++ r) k) ≡ Less) [
      | Less ↦ λ is h. refl
      | Equal ↦ λ is h.
          let same : eqb x y ≡ true = eq-eqb x y (ranked x y Equal (sym is)) in
          let rest : starts_with nat_eq k p ≡ false = rw same at off in
          longer_below p r k h rest
      | Greater ↦ λ is h. h
    ] refl e

unlike_less : (q k : List ℕ) → key_cmp q k ≡ Less → eq_by_cmp key_cmp q k ≡ false
unlike_less q k e = ap is_eq e

pub unlike_more : (q k : List ℕ) → key_cmp k q ≡ Less → eq_by_cmp key_cmp q k ≡ false
unlike_more q k e = ap is_eq (nat_list_cmp_total.antisymm q k ∙ ap ordering_reverse e)

-- ---- entries in order

module _ {X : Type 0} where
  abbrev pub Precedes : List ℕ × X → List ℕ × X → Type 0
  Precedes a b = key_cmp a.0 b.0 ≡ Less

  pub above_one : (k : List ℕ) (es : List (List ℕ × X)) (b : List ℕ × X) → T (below_all key_cmp k es) → Among b es → key_cmp k b.0 ≡ Less
  above_one k [] b h a = absurd a
  above_one k (e ∷ es) b h (inl same) = subst (λ (x : List ℕ × X). key_cmp k x.0 ≡ Less) same (less_from k e.0 (first_of_and _ (below_all key_cmp k es) h))
  above_one k (e ∷ es) b h (inr a) = above_one k es b (second_of_and (is_lt (key_cmp k e.0)) _ h) a

  pub precedes : (xs ys : List (List ℕ × X)) (a b : List ℕ × X) → T (is_sorted key_cmp (xs ++ ys)) → Among a xs → Among b ys → Precedes a b
  precedes [] ys a b h i j = absurd i
  precedes (x ∷ xs) ys a b h (inl e) j =
      subst (λ (z : List ℕ × X). Precedes z b) e (above_one x.0 (xs ++ ys) b (first_of_and _ (is_sorted key_cmp (xs ++ ys)) h) (among_right b xs ys j))
  precedes (x ∷ xs) ys a b h (inr i) j = precedes xs ys a b (second_of_and (below_all key_cmp x.0 (xs ++ ys)) _ h) i j

  pub front_sorted : (xs ys : List (List ℕ × X)) → T (is_sorted key_cmp (xs ++ ys)) → T (is_sorted key_cmp xs)
  front_sorted [] ys h = tt
  front_sorted (x ∷ xs) ys h =
      and _ _ (below_front x.0 xs ys (first_of_and _ (is_sorted key_cmp (xs ++ ys)) h)) (front_sorted xs ys (second_of_and (below_all key_cmp x.0 (xs ++ ys)) _ h))
    where
      below_front : (k : List ℕ) (us vs : List (List ℕ × X)) → T (below_all key_cmp k (us ++ vs)) → T (below_all key_cmp k us)
      below_front k [] vs t = tt
      below_front k (u ∷ us) vs t = and _ _ (first_of_and _ (below_all key_cmp k (us ++ vs)) t) (below_front k us vs (second_of_and (is_lt (key_cmp k u.0)) _ t))

  pub back_sorted : (xs ys : List (List ℕ × X)) → T (is_sorted key_cmp (xs ++ ys)) → T (is_sorted key_cmp ys)
  back_sorted [] ys h = h
  back_sorted (x ∷ xs) ys h = back_sorted xs ys (second_of_and (below_all key_cmp x.0 (xs ++ ys)) _ h)

  below_each : (k : List ℕ) (es : List (List ℕ × X)) → ((b : List ℕ × X) → Among b es → key_cmp k b.0 ≡ Less) → T (below_all key_cmp k es)
  below_each k [] f = tt
  below_each k (e ∷ es) f = and _ _ (from_less k e.0 (f e (inl refl))) (below_each k es (λ b a. f b (inr a)))

  pub joined_sorted : (xs ys : List (List ℕ × X)) → T (is_sorted key_cmp xs) → T (is_sorted key_cmp ys) → ((a b : List ℕ × X) → Among a xs → Among b ys → Precedes a b)
      → T (is_sorted key_cmp (xs ++ ys))
  joined_sorted [] ys g h f = h
  joined_sorted (x ∷ xs) ys g h f =
      and _ _ (below_each x.0 (xs ++ ys) (λ b a. elim (among_either b xs ys a) [
        | inl i ↦ above_one x.0 xs b (first_of_and _ (is_sorted key_cmp xs) g) i
        | inr j ↦ f x b (inl refl) j
      ])) (joined_sorted xs ys (second_of_and (below_all key_cmp x.0 xs) _ g) h (λ a b i j. f a b (inr i) j))

  -- ---- what is found

  abbrev pub or_else : Option X → Option X → Option X
  or_else None o = o
  or_else (Some x) o = Some x

  pub found_joined : (q : List ℕ) (xs ys : List (List ℕ × X)) → find key_cmp q (xs ++ ys) ≡ or_else (find key_cmp q xs) (find key_cmp q ys)
  found_joined q [] ys = refl
  found_joined q (x ∷ xs) ys =
      elim (eq_by_cmp key_cmp q x.0) as (λ b. cond b (Some x.1) (find key_cmp q (xs ++ ys)) ≡ or_else (cond b (Some x.1) (find key_cmp q xs)) (find key_cmp q ys)) [
        | true ↦ refl
        | false ↦ found_joined q xs ys
      ]

  pub not_found_above : (q : List ℕ) (es : List (List ℕ × X)) → ((b : List ℕ × X) → Among b es → key_cmp q b.0 ≡ Less) → find key_cmp q es ≡ None
  not_found_above q [] f = refl
  not_found_above q (e ∷ es) f =
      ap (λ b. cond b (Some e.1) (find key_cmp q es)) (unlike_less q e.0 (f e (inl refl))) ∙ not_found_above q es (λ b a. f b (inr a))

  pub not_found_below : (q : List ℕ) (es : List (List ℕ × X)) → ((b : List ℕ × X) → Among b es → key_cmp b.0 q ≡ Less) → find key_cmp q es ≡ None
  not_found_below q [] f = refl
  not_found_below q (e ∷ es) f =
      ap (λ b. cond b (Some e.1) (find key_cmp q es)) (unlike_more q e.0 (f e (inl refl))) ∙ not_found_below q es (λ b a. f b (inr a))

  -- what is found is there
  pub found_there : (q : List ℕ) (es : List (List ℕ × X)) (x : X) → find key_cmp q es ≡ Some x → (e : List ℕ × X) × Among e es × (key_cmp q e.0 ≡ Equal)
  found_there q [] x h = absurd cc
  found_there q (e ∷ es) x h = by_test (found_there q es x) (key_cmp q e.0) refl
    where
      by_test : (find key_cmp q es ≡ Some x → (f : List ℕ × X) × Among f es × (key_cmp q f.0 ≡ Equal)) → (o : Ordering) → key_cmp q e.0 ≡ o
          → (f : List ℕ × X) × Among f (e ∷ es) × (key_cmp q f.0 ≡ Equal)
      by_test further Equal is = (e, inl refl, is)
      by_test further Less is =
          let more : (f : List ℕ × X) × Among f es × (key_cmp q f.0 ≡ Equal) = further (sym (ap (λ o. cond (is_eq o) (Some e.1) (find key_cmp q es)) is) ∙ h) in
          (more.0, inr more.1, more.2)
      by_test further Greater is =
          let more : (f : List ℕ × X) × Among f es × (key_cmp q f.0 ≡ Equal) = further (sym (ap (λ o. cond (is_eq o) (Some e.1) (find key_cmp q es)) is) ∙ h) in
          (more.0, inr more.1, more.2)
