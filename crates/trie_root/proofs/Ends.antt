-- What a sorted list shares, its ends share.
use Rattle.std.proofs.Common.{◌≡◌, ℕ, ◌<◌, ◌⊎◌, Bool, true, false, eqb, List, [], ◌∷◌, ◌++◌, T, refl, ap, ◌∙◌, inl, inr, arith, eq-eqb}
use Rattle.std.specs.Prelude.{◌&&◌}
use Rattle.std.specs.Ordering.{nat_cmp, is_lt, ordering_then}
use Rattle.std.specs.declared.cmp.Ordering.TheVariants.{Less, Equal, Greater}
use Rattle.std.specs.Cmp.Lexicographic.{slice_cmp}
use Rattle.std.specs.FinMap.{is_sorted}
use Rattle.std.proofs.lemmas.Bool.Decides.{eqb_tells}
use Rattle.std.proofs.lemmas.Cmp.{ranked}
use Rattle.trie_model.specs.Trie.{Suffix, common, common_prefix}

-- the first list is no later in the order of bytes
abbrev pub AtMost : List ℕ → List ℕ → Type 0
AtMost [] ys = Unit {0}
AtMost (x ∷ xs) [] = ⊥
AtMost (x ∷ xs) (y ∷ ys) = (x < y) ⊎ ((x ≡ y) × AtMost xs ys)

-- whether a key is below each of others, as a sorted list asks of its first
abbrev pub below_all : List ℕ → List Suffix → Bool
below_all x [] = true
below_all x (s ∷ ss) = is_lt (slice_cmp nat_cmp x s.0) && below_all x ss

apart : (x y : ℕ) → x < y → eqb x y ≡ false
apart x y h = elim (eqb_tells x y) [ inl p ↦ absurd (omega (arith, p.1)) | inr p ↦ p.0 ]

-- a list between two others has all that they share
pub common_between : (a b c : List ℕ) → AtMost a b → AtMost b c → common a (common b c) ≡ common a c
common_between [] b c h k = refl
common_between (x ∷ a) [] c h k = absurd h
common_between (x ∷ a) (y ∷ b) [] h k = absurd k
common_between (x ∷ a) (y ∷ b) (z ∷ c) (inl h) (inl k) =
    let yz : eqb y z ≡ false = apart y z k in let xz : eqb x z ≡ false = apart x z (omega arith) in rw (yz, xz)
common_between (x ∷ a) (y ∷ b) (z ∷ c) (inl h) (inr k) =
    let yz : eqb y z ≡ true = eq-eqb y z k.0 in let xz : eqb x z ≡ false = apart x z (omega arith) in
    let xy : eqb x y ≡ false = apart x y h in rw (yz, xz, xy)
common_between (x ∷ a) (y ∷ b) (z ∷ c) (inr h) (inl k) =
    let yz : eqb y z ≡ false = apart y z k in let xz : eqb x z ≡ false = apart x z (omega arith) in rw (yz, xz)
common_between (x ∷ a) (y ∷ b) (z ∷ c) (inr h) (inr k) =
    let yz : eqb y z ≡ true = eq-eqb y z k.0 in let xz : eqb x z ≡ true = eq-eqb x z (omega arith) in
    let xy : eqb x y ≡ true = eq-eqb x y h.0 in
    rw (yz, xz, xy) (ap (λ (t : List ℕ). x ∷ t) (common_between a b c h.1 k.1))

pub at_most_from_lt : (xs ys : List ℕ) → T (is_lt (slice_cmp nat_cmp xs ys)) → AtMost xs ys
at_most_from_lt [] ys h = tt
at_most_from_lt (x ∷ xs) [] h = absurd h
at_most_from_lt (x ∷ xs) (y ∷ ys) h =
    elim (nat_cmp x y) as (λ r. r ≡ nat_cmp x y → T (is_lt (ordering_then r (slice_cmp nat_cmp xs ys))) → AtMost (x ∷ xs) (y ∷ ys)) [
      | Less ↦ λ e t. inl (ranked x y Less e)
      | Equal ↦ λ e t. inr (ranked x y Equal e, at_most_from_lt xs ys t)
      | Greater ↦ λ e t. absurd t
    ] refl h

pub first_of_and : (a b : Bool) → T (a && b) → T a
first_of_and true b h = tt
first_of_and false b h = h

pub second_of_and : (a b : Bool) → T (a && b) → T b
second_of_and true b h = h
second_of_and false b h = absurd h

-- a key below all is below the last
pub below_the_last : (x : List ℕ) (ss : List Suffix) (l : Suffix) → T (below_all x (ss ++ l ∷ [])) → T (is_lt (slice_cmp nat_cmp x l.0))
below_the_last x [] l h = first_of_and _ _ h
below_the_last x (s ∷ ss) l h = below_the_last x ss l (second_of_and (is_lt (slice_cmp nat_cmp x s.0)) _ h)

pub common_of_ends : (s l : Suffix) (ss : List Suffix) → T (is_sorted (slice_cmp nat_cmp) (s ∷ (ss ++ l ∷ [])))
    → common_prefix (s ∷ (ss ++ l ∷ [])) ≡ common s.0 l.0
common_of_ends s l [] h = refl
common_of_ends s l (t ∷ ss) h =
    let lower : T (below_all s.0 (t ∷ (ss ++ l ∷ []))) = first_of_and _ (is_sorted (slice_cmp nat_cmp) (t ∷ (ss ++ l ∷ []))) h in
    let rest : T (is_sorted (slice_cmp nat_cmp) (t ∷ (ss ++ l ∷ []))) = second_of_and (below_all s.0 (t ∷ (ss ++ l ∷ []))) _ h in
    let next : AtMost s.0 t.0 = at_most_from_lt s.0 t.0 (first_of_and _ (below_all s.0 (ss ++ l ∷ [])) lower) in
    let end : AtMost t.0 l.0 =
    at_most_from_lt t.0 l.0 (below_the_last t.0 ss l (first_of_and _ (is_sorted (slice_cmp nat_cmp) (ss ++ l ∷ [])) rest)) in
    ap (common s.0) (common_of_ends t l ss rest) ∙ common_between s.0 t.0 l.0 next end
