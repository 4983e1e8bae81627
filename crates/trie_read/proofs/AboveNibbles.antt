-- Nibbles above others, and paths that lead to some or are above them.
use Rattle.std.proofs.Common.{◌≡◌, ◌⊎◌, ℕ, ◌<◌, ◌/◌, ◌%◌, Bool, true, false, cond, List, [], ◌∷◌, ◌++◌, None, refl, ap, ap₂, sym, ◌∙◌, inl, inr, arith, eq-eqb}
use Rattle.std.specs.Prelude.{◌||◌, is_some, nat_eq}
use Rattle.std.specs.List.{starts_with}
use Rattle.std.specs.Ordering.{nat_cmp, is_lt, ordering_then}
use Rattle.std.specs.declared.cmp.Ordering.{Ordering}
use Rattle.std.specs.declared.cmp.Ordering.TheVariants.{Less, Equal, Greater}
use Rattle.std.specs.Cmp.Lexicographic.{slice_cmp}
use Rattle.std.proofs.lemmas.Cmp.{ranked}
use Rattle.sdb_base.specs.Nibbles.{nibbles_of}
use Rattle.trie_model.specs.Trie.{after_prefix}
use Rattle.trie_root.proofs.Rows.{unlike}
use Rattle.trie_read.specs.inner.Parts.{is_above, leads_above}
use Rattle.trie_read.proofs.PartsOfChildren.{IsClosed}
use Rattle.trie_read.proofs.Ways.{follows}

-- ---- by the first number

abbrev Three : ℕ → ℕ → Type 0
Three x y = ((x < y) × (nat_cmp x y ≡ Less)) ⊎ (((x ≡ y) × (nat_cmp x y ≡ Equal)) ⊎ ((y < x) × (nat_cmp x y ≡ Greater)))

three : (x y : ℕ) → Three x y
three x y = elim (nat_cmp x y) as (λ r. r ≡ nat_cmp x y → Three x y) [
  | Less ↦ λ e. inl (ranked x y Less e, sym e)
  | Equal ↦ λ e. inr (inl (ranked x y Equal e, sym e))
  | Greater ↦ λ e. inr (inr (ranked x y Greater e, sym e))
] refl

by_first : (x y : ℕ) (q p : List ℕ) (o : Ordering) → nat_cmp x y ≡ o → is_above (x ∷ q) (y ∷ p) ≡ is_lt (ordering_then o (slice_cmp nat_cmp q p))
by_first x y q p o e = ap (λ r. is_lt (ordering_then r (slice_cmp nat_cmp q p))) e

leads_same : (x y : ℕ) (p q : List ℕ) → x ≡ y → is_some (after_prefix (x ∷ p) (y ∷ q)) ≡ is_some (after_prefix p q)
leads_same x y p q e = ap (λ b. is_some (cond b (after_prefix p q) None)) (eq-eqb x y e)

leads_not : (x y : ℕ) (p q : List ℕ) → (x ≡ y → ⊥) → is_some (after_prefix (x ∷ p) (y ∷ q)) ≡ false
leads_not x y p q e = ap (λ b. is_some (cond b (after_prefix p q) None)) (unlike x y e)

-- ---- what goes on from a path

pub above_further : (q p r : List ℕ) → is_above q p ≡ true → is_above q (p ++ r) ≡ true
above_further [] [] r h = let no : false ≡ true = h in absurd cc
above_further (x ∷ q) [] r h = let no : false ≡ true = h in absurd cc
above_further [] (y ∷ p) r h = refl
above_further (x ∷ q) (y ∷ p) r h = elim (three x y) [
  | inl less ↦ by_first x y q (p ++ r) Less less.1
  | inr (inl same) ↦ by_first x y q (p ++ r) Equal same.1 ∙ above_further q p r (sym (by_first x y q p Equal same.1) ∙ h)
  | inr (inr more) ↦ let no : false ≡ true = sym (by_first x y q p Greater more.1) ∙ h in absurd cc
]

-- a path above nibbles doesn't lead to them
pub above_off : (q p : List ℕ) → is_above q p ≡ true → is_some (after_prefix p q) ≡ false
above_off [] [] h = let no : false ≡ true = h in absurd cc
above_off (x ∷ q) [] h = let no : false ≡ true = h in absurd cc
above_off [] (y ∷ p) h = refl
above_off (x ∷ q) (y ∷ p) h = elim (three x y) [
  | inl less ↦ leads_not y x p q (λ e. omega (arith, less.0))
  | inr (inl same) ↦ leads_same y x p q (sym same.0) ∙ above_off q p (sym (by_first x y q p Equal same.1) ∙ h)
  | inr (inr more) ↦ let no : false ≡ true = sym (by_first x y q p Greater more.1) ∙ h in absurd cc
]

abbrev Under : List ℕ → List ℕ → Type 0
Under q p = (is_some (after_prefix p q) ≡ false) × (is_above q p ≡ false)

under_further : (q p r : List ℕ) → Under q p → Under q (p ++ r)
under_further q [] r h = let no : true ≡ false = h.0 in absurd cc
under_further [] (y ∷ p) r h = let no : true ≡ false = h.1 in absurd cc
under_further (x ∷ q) (y ∷ p) r h = elim (three x y) [
  | inl less ↦ let no : true ≡ false = sym (by_first x y q p Less less.1) ∙ h.1 in absurd cc
  | inr (inl same) ↦
      let more : Under q (p ++ r) =
      under_further q p r (sym (leads_same y x p q (sym same.0)) ∙ h.0, sym (by_first x y q p Equal same.1) ∙ h.1) in
      (leads_same y x (p ++ r) q (sym same.0) ∙ more.0, by_first x y q (p ++ r) Equal same.1 ∙ more.1)
  | inr (inr more) ↦ (leads_not y x (p ++ r) q (λ e. omega (arith, more.0)), by_first x y q (p ++ r) Greater more.1)
]

-- ---- the children where nibbles go on

equal_first : (x : ℕ) → nat_cmp x x ≡ Equal
equal_first x = elim (three x x) [
  | inl less ↦ absurd (omega (arith, less.0))
  | inr (inl same) ↦ same.1
  | inr (inr more) ↦ absurd (omega (arith, more.0))
]

pub above_end : (e : List ℕ) (i : ℕ) → is_above e (e ++ i ∷ []) ≡ true
above_end [] i = refl
above_end (x ∷ e) i = by_first x x e (e ++ i ∷ []) Equal (equal_first x) ∙ above_end e i

less_first : (x y : ℕ) → x < y → nat_cmp x y ≡ Less
less_first x y h = elim (three x y) [
  | inl less ↦ less.1
  | inr (inl same) ↦ absurd (omega (arith, same.0))
  | inr (inr more) ↦ absurd (omega (arith, more.0))
]

more_first : (x y : ℕ) → y < x → nat_cmp x y ≡ Greater
more_first x y h = elim (three x y) [
  | inl less ↦ absurd (omega (arith, less.0))
  | inr (inl same) ↦ absurd (omega (arith, same.0))
  | inr (inr more) ↦ more.1
]

pub above_next : (e : List ℕ) (j : ℕ) (r : List ℕ) (i : ℕ) → j < i → is_above (e ++ j ∷ r) (e ++ i ∷ []) ≡ true
above_next [] j r i h = by_first j i r [] Less (less_first j i h)
above_next (x ∷ e) j r i h = by_first x x (e ++ j ∷ r) (e ++ i ∷ []) Equal (equal_first x) ∙ above_next e j r i h

under_next : (e : List ℕ) (j : ℕ) (r : List ℕ) (i : ℕ) → i < j → Under (e ++ j ∷ r) (e ++ i ∷ [])
under_next [] j r i h = (leads_not i j [] r (λ e. omega arith), by_first j i r [] Greater (more_first j i h))
under_next (x ∷ e) j r i h =
    let more : Under (e ++ j ∷ r) (e ++ i ∷ []) = under_next e j r i h in
    (leads_same x x (e ++ i ∷ []) (e ++ j ∷ r) refl ∙ more.0, by_first x x (e ++ j ∷ r) (e ++ i ∷ []) Equal (equal_first x) ∙ more.1)

-- ---- paths that are gone into

neither : (a b : Bool) → (a || b) ≡ false → (a ≡ false) × (b ≡ false)
neither true b e = let no : true ≡ false = e in absurd cc
neither false b e = (refl, e)

under : (q p : List ℕ) → leads_above q p ≡ false → Under q p
under q p e =
    let both : (starts_with nat_eq q p ≡ false) × (is_above q p ≡ false) = neither (starts_with nat_eq q p) (is_above q p) e in
    (sym (follows p q) ∙ both.0, both.1)

from_under : (q p : List ℕ) → Under q p → leads_above q p ≡ false
from_under q p h = ap₂ (λ a b. a || b) (follows p q ∙ h.0) h.1

pub above_closed : (q : List ℕ) → IsClosed (is_above q) (leads_above q)
above_closed q = record {
  keys = λ p r e. (under_further q p r (under q p e)).1;
  paths = λ p r e. from_under q (p ++ r) (under_further q p r (under q p e));
}

pub lower_not : (e : List ℕ) (j : ℕ) (r : List ℕ) (i : ℕ) → i < j → leads_above (e ++ j ∷ r) (e ++ i ∷ []) ≡ false
lower_not e j r i h = from_under (e ++ j ∷ r) (e ++ i ∷ []) (under_next e j r i h)

-- ---- keys and their nibbles

halves : (x y : ℕ) (n m : List ℕ) (o : Ordering) → nat_cmp (x / 16) (y / 16) ≡ Equal → nat_cmp (x % 16) (y % 16) ≡ o
    → is_above ((x / 16) ∷ ((x % 16) ∷ n)) ((y / 16) ∷ ((y % 16) ∷ m)) ≡ is_lt (ordering_then o (slice_cmp nat_cmp n m))
halves x y n m o high low =
    by_first (x / 16) (y / 16) ((x % 16) ∷ n) ((y % 16) ∷ m) Equal high ∙ by_first (x % 16) (y % 16) n m o low

pub nibbles_above : (a b : List ℕ) → is_above (nibbles_of a) (nibbles_of b) ≡ is_above a b
nibbles_above [] [] = refl
nibbles_above [] (y ∷ b) = refl
nibbles_above (x ∷ a) [] = refl
nibbles_above (x ∷ a) (y ∷ b) =
    let n : List ℕ = nibbles_of a in let m : List ℕ = nibbles_of b in
    elim (three x y) [
      | inl less ↦ elim (three (x / 16) (y / 16)) [
        | inl l ↦ by_first (x / 16) (y / 16) ((x % 16) ∷ n) ((y % 16) ∷ m) Less l.1 ∙ sym (by_first x y a b Less less.1)
        | inr (inl s) ↦ halves x y n m Less s.1 (less_first (x % 16) (y % 16) (omega (arith, less.0, s.0))) ∙ sym (by_first x y a b Less less.1)
        | inr (inr g) ↦ absurd (omega (arith, less.0, g.0))
      ]
      | inr (inl same) ↦
          let high : nat_cmp (x / 16) (y / 16) ≡ Equal = ap (λ (k : ℕ). nat_cmp (x / 16) (k / 16)) (sym same.0) ∙ equal_first (x / 16) in
          let low : nat_cmp (x % 16) (y % 16) ≡ Equal = ap (λ (k : ℕ). nat_cmp (x % 16) (k % 16)) (sym same.0) ∙ equal_first (x % 16) in
          halves x y n m Equal high low ∙ nibbles_above a b ∙ sym (by_first x y a b Equal same.1)
      | inr (inr more) ↦ elim (three (x / 16) (y / 16)) [
        | inl l ↦ absurd (omega (arith, more.0, l.0))
        | inr (inl s) ↦ halves x y n m Greater s.1 (more_first (x % 16) (y % 16) (omega (arith, more.0, s.0))) ∙ sym (by_first x y a b Greater more.1)
        | inr (inr g) ↦ by_first (x / 16) (y / 16) ((x % 16) ∷ n) ((y % 16) ∷ m) Greater g.1 ∙ sym (by_first x y a b Greater more.1)
      ]
    ]
