-- With which nibble a path goes on after another.
use Rattle.std.proofs.Common.{◌≡◌, ◌<◌, ◌≤◌, ℕ, Bool, true, false, eqb, List, [], ◌∷◌, ◌++◌, length, get_or, slice_set, refl, ap, sym, ◌∙◌, inl, inr, arith, eq-eqb}
use Rattle.std.specs.Prelude.{◌&&◌, ◌||◌, nat_eq}
use Rattle.std.specs.List.{starts_with}
use Rattle.std.proofs.lemmas.Bool.Decides.{eqb_tells}
use Rattle.std.proofs.lemmas.List.{get_or-set_other, get_or-set_same}
use Rattle.trie_change.proofs.ChildOrder.{key_after}

pub or_false : (b : Bool) → (b || false) ≡ b
or_false true = refl
or_false false = refl

or_true : (b : Bool) → (b || true) ≡ true
or_true true = refl
or_true false = refl

and_true : (b : Bool) → (b && true) ≡ b
and_true true = refl
and_true false = refl

and_false : (b : Bool) → (b && false) ≡ false
and_false true = refl
and_false false = refl

-- ---- one that ends there

pub ends_before : (path end : List ℕ) (n : ℕ) → length path ≤ length end → starts_with nat_eq path (end ++ n ∷ []) ≡ false
ends_before [] [] n h = refl
ends_before [] (x ∷ end) n h = refl
ends_before (y ∷ path) [] n h = absurd (omega (arith, h))
ends_before (y ∷ path) (x ∷ end) n h =
    ap (λ b. eqb x y && b) (ends_before path end n (omega (arith, h))) ∙ and_false (eqb x y)

-- ---- one that goes on

begins_alike : (p a b : List ℕ) → starts_with nat_eq (p ++ a) (p ++ b) ≡ starts_with nat_eq a b
begins_alike [] a b = refl
begins_alike (x ∷ p) a b = ap (λ t. t && starts_with nat_eq (p ++ a) (p ++ b)) (eq-eqb x x refl) ∙ begins_alike p a b

pub goes_on_by : (path end : List ℕ) (n x : ℕ) → length end < length path → starts_with nat_eq path end ≡ true → x ≡ get_or path (length end) 0
    → starts_with nat_eq path (end ++ n ∷ []) ≡ eqb n x
goes_on_by path end n x few h is =
    let after : (rest : List ℕ) × (path ≡ end ++ get_or path (length end) 0 ∷ rest) = key_after end path few h in
    ap (λ (p : List ℕ). starts_with nat_eq p (end ++ n ∷ [])) after.1 ∙ begins_alike end (get_or path (length end) 0 ∷ after.0) (n ∷ [])
    ∙ and_true (eqb n (get_or path (length end) 0)) ∙ ap (eqb n) (sym is)

-- ---- nibbles that are noted

pub is_no_nibble : (n x : ℕ) → n < 16 → 16 ≤ x → eqb n x ≡ false
is_no_nibble n x few many = elim (eqb_tells n x) [
  | inl t ↦ absurd (omega (arith, t.1, few, many))
  | inr f ↦ f.0
]

pub noted : (set : List Bool) (x n : ℕ) → length set ≡ 16 → x < 16 → get_or (slice_set set x true) n false ≡ (get_or set n false || eqb n x)
noted set x n len few = elim (eqb_tells n x) [
  | inl t ↦ ap (λ k. get_or (slice_set set x true) k false) t.1 ∙ get_or-set_same set x true false (omega (arith, len, few))
      ∙ sym (or_true (get_or set n false)) ∙ ap (λ b. get_or set n false || b) (sym t.0)
  | inr f ↦ get_or-set_other set x n true false f.1 ∙ sym (or_false (get_or set n false)) ∙ ap (λ b. get_or set n false || b) (sym f.0)
]
