-- Numbers are their decimal digits.
use Rattle.std.proofs.Common.{◌≡◌, ℕ, ◌+◌, ◌-◌, ◌*◌, ◌^◌, ◌<◌, ◌≤◌, ◌==◌, Bool, true, false, ◌&&◌, cond, List, [], ◌∷◌, length, get_or, Option, Some, None, refl, sym, ap, ◌∙◌, arith, rules, inl, inr}
use Rattle.std.specs.Char.{is_ascii_digit}
use Rattle.std.specs.Fmt.{decimal}
use Rattle.std.specs.Str.{all_ascii_digits}
use Rattle.std.proofs.lemmas.Bool.{cases_eq, eqb-false}
use Rattle.std.proofs.lemmas.Option.{cond_some}
use Rattle.std.proofs.lemmas.Fmt.{decimal_digit, decimal_nonempty, first_decimal, digits_decimal, digits_value-decimal, decimal-digits_value}
use Rattle.std.proofs.lemmas.Str.Parse.{IsNumeralModel, numerals_by_fold, tells_all_ascii_digits}
use Rattle.sdb_script.specs.Numbers.{digits_value, number_spelled}
use Rattle.sdb_script.proofs.Digits.{plain}

abbrev pub read_on : ℕ → List ℕ → ℕ
read_on n [] = n
read_on n (c ∷ cs) = read_on (10 * n + (c - 48)) cs

pub own : IsNumeralModel (λ ds. all_ascii_digits ds ≡ true) (read_on 0)
own = numerals_by_fold _ tells_all_ascii_digits read_on (search rules)

both : {A : Type 0} (b a : Bool) (x : Option A) → cond b (cond a x None) None ≡ cond (b && a) x None
both true a x = refl
both false a x = refl

value_is : (n : ℕ) (cs : List ℕ) → digits_value n cs ≡ cond (all_ascii_digits cs) (Some (read_on n cs)) None
unfolding digits_value
value_is n [] = refl
value_is n (c ∷ cs) = ap (λ d. cond (is_ascii_digit c) d None) (value_is (10 * n + (c - 48)) cs) ∙ both (is_ascii_digit c) (all_ascii_digits cs) (Some (read_on (10 * n + (c - 48)) cs))

zero_led : (n : ℕ) → n < 2 ^ 64 → get_or (decimal n) 0 0 ≡ 48 → length (decimal n) ≤ 1
zero_led n lt z = elim (cases_eq n 0) [
  | inl e ↦ rw (e, decimal_digit 0 (omega arith)) (omega arith)
  | inr ne ↦ absurd (omega (arith, first_decimal n (omega arith) lt))
]

pub decimal_read : (n : ℕ) → n < 2 ^ 64 → number_spelled (decimal n) ≡ Some n
decimal_read n lt =
    plain (decimal n) (decimal_nonempty n lt) (zero_led n lt)
    ∙ value_is 0 (decimal n) ∙ rw (digits_decimal own n lt, digits_value-decimal own n lt) refl

record Spells (w : List ℕ) (n : ℕ) : Type 0 where
  nonempty : 0 < length w
  no_zero : get_or w 0 0 ≡ 48 → length w ≡ 1
  value : digits_value 0 w ≡ Some n

longer : (c n : ℕ) (b : Bool) (w : List ℕ) → b ≡ (c == 48) → cond b None (digits_value 0 w) ≡ Some n → (c ≡ 48 → ⊥) × (digits_value 0 w ≡ Some n)
longer c n true w e h = absurd cc
longer c n false w e h = (eqb-false c 48 (sym e), h)

spells : (w : List ℕ) (n : ℕ) → number_spelled w ≡ Some n → Spells w n
unfolding number_spelled
spells [] n h = absurd cc
spells (c ∷ []) n h = record { nonempty = omega arith; no_zero = λ _. refl; value = h }
spells (c ∷ (d ∷ cs)) n h =
    let l = longer c n (c == 48) (c ∷ (d ∷ cs)) refl h in
    record { nonempty = omega arith; no_zero = λ z. absurd (l.0 z); value = l.1 }

pub read_only : (w : List ℕ) (n : ℕ) → n < 2 ^ 64 → number_spelled w ≡ Some n → w ≡ decimal n
read_only w n lt h =
    let s = spells w n h in
    let p = cond_some (all_ascii_digits w) (read_on 0 w) n (sym (value_is 0 w) ∙ s.value) in
    let small : read_on 0 w < 2 ^ 64 = rw p.1 lt in
    sym (decimal-digits_value own w p.0 s.nonempty s.no_zero small) ∙ ap decimal p.1
