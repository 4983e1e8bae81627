-- Records of a list, and their numbers.
use Rattle.std.proofs.Common.{◌≡◌, ◌⊎◌, inl, inr, ⊎_elim, ℕ, zero, suc, ◌+◌, ◌≤◌, ◌<◌, List, [], ◌∷◌, ◌++◌, length, get_or, sym, ◌∙◌, ap, subst, arith}
use Rattle.std.specs.Prelude.{Contains}
use Rattle.pdb_model.specs.Records.{IsRecord, Record}
use Rattle.pdb_log.specs.Ledger.{AreNumbered}

-- `Contains` by cases
abbrev pub In : List Record → Record → Type 0
In [] r = ⊥
In (x ∷ xs) r = (x ≡ r) ⊎ In xs r

pub to_in : (xs : List Record) (r : Record) → Contains xs r → In xs r
to_in xs r h = at xs h.0 h.1 h.2
  where
    at : (xs : List Record) (k : ℕ) → k < length xs → get_or xs k r ≡ r → In xs r
    at [] k l e = absurd (omega (arith, l))
    at (x ∷ xs) zero l e = inl e
    at (x ∷ xs) (suc k) l e = inr (at xs k (omega (arith, l)) e)

pub from_in : (xs : List Record) (r : Record) → In xs r → Contains xs r
from_in [] r i = absurd i
from_in (x ∷ xs) r i = ⊎_elim
    (λ e. (0, omega arith, e))
    (λ j. let k = from_in xs r j in let l = k.1 in (suc k.0, omega (arith, l), k.2))
    i

-- the empty list has none
pub in_none : (r : Record) → Contains [] r → ⊥
in_none r h = let l = h.1 in omega (arith, l)

pub in_nothing : (xs : List Record) (r : Record) → xs ≡ [] → Contains xs r → ⊥
in_nothing xs r e h = in_none r (subst (λ rs. Contains rs r) e h)

pub numbered_front : (n : ℕ) (xs ys : List Record) → AreNumbered n (xs ++ ys) → AreNumbered n xs
numbered_front n [] ys num = tt
numbered_front n (x ∷ xs) ys num = (num.0, num.1, numbered_front (n + 1) xs ys num.2)

pub numbered_rest : (n : ℕ) (xs ys : List Record) → AreNumbered n (xs ++ ys) → AreNumbered (n + length xs) ys
numbered_rest n [] ys num = let e : n ≡ n + 0 = omega arith in subst (λ m. AreNumbered m ys) e num
numbered_rest n (x ∷ xs) ys num = let e : n + 1 + length xs ≡ n + suc (length xs) = omega arith in subst (λ m. AreNumbered m ys) e (numbered_rest (n + 1) xs ys num.2)

upto_in : (n : ℕ) (xs ys : List Record) (r : Record) → AreNumbered n (xs ++ ys) → In xs r → r.number < n + length xs
upto_in n [] ys r num i = absurd i
upto_in n (x ∷ xs) ys r num i = ⊎_elim
    (λ e. let m = ap (λ (s : Record). s.number) e in let k = num.1 in omega (arith, m, k))
    (λ j. let m = upto_in (n + 1) xs ys r num.2 j in omega (arith, m))
    i

pub numbered_upto : (n : ℕ) (xs ys : List Record) (r : Record) → AreNumbered n (xs ++ ys) → Contains xs r → r.number < n + length xs
numbered_upto n xs ys r num h = upto_in n xs ys r num (to_in xs r h)

pub from_first_in : (n : ℕ) (rs : List Record) (r : Record) → AreNumbered n rs → In rs r → n ≤ r.number
from_first_in n [] r num i = absurd i
from_first_in n (a ∷ rs) r num i = ⊎_elim
    (λ e. let m = ap (λ (s : Record). s.number) e in let k = num.1 in omega (arith, m, k))
    (λ j. let m = from_first_in (n + 1) rs r num.2 j in omega (arith, m))
    i

pub numbered_from : (n : ℕ) (rs : List Record) (r : Record) → AreNumbered n rs → Contains rs r → n ≤ r.number
numbered_from n rs r num h = from_first_in n rs r num (to_in rs r h)

-- one number has one record
same_in : (n : ℕ) (rs : List Record) (r s : Record) → AreNumbered n rs → In rs r → In rs s → r.number ≡ s.number → r ≡ s
same_in n [] r s num i j e = absurd i
same_in n (a ∷ rs) r s num i j e = ⊎_elim
    (λ p. ⊎_elim
    (λ q. sym p ∙ q)
    (λ k. let m = ap (λ (t : Record). t.number) p in let l = from_first_in (n + 1) rs s num.2 k in let o = num.1 in absurd (omega (arith, m, l, o, e)))
    j)
    (λ k. ⊎_elim
    (λ q. let m = ap (λ (t : Record). t.number) q in let l = from_first_in (n + 1) rs r num.2 k in let o = num.1 in absurd (omega (arith, m, l, o, e)))
    (λ l. same_in (n + 1) rs r s num.2 k l e)
    j)
    i

pub same_member : (n : ℕ) (rs : List Record) (r s : Record) → AreNumbered n rs → Contains rs r → Contains rs s → r.number ≡ s.number → r ≡ s
same_member n rs r s num i j e = same_in n rs r s num (to_in rs r i) (to_in rs s j) e

is_in : (n : ℕ) (rs : List Record) (r : Record) → AreNumbered n rs → In rs r → IsRecord r
is_in n [] r num i = absurd i
is_in n (a ∷ rs) r num i = ⊎_elim (λ e. subst IsRecord e num.0) (λ j. is_in (n + 1) rs r num.2 j) i

pub member_is : (n : ℕ) (rs : List Record) (r : Record) → AreNumbered n rs → Contains rs r → IsRecord r
member_is n rs r num i = is_in n rs r num (to_in rs r i)

pub numbered_push : (n : ℕ) (rs : List Record) (r : Record) → AreNumbered n rs → IsRecord r → r.number ≡ n + length rs → AreNumbered n (rs ++ r ∷ [])
numbered_push n [] r num is e = (is, (let q : r.number ≡ n = omega (arith, e) in q), tt)
numbered_push n (a ∷ rs) r num is e = (num.0, num.1, numbered_push (n + 1) rs r num.2 is (omega (arith, e)))
