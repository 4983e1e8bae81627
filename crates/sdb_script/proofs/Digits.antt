-- Digits one after the other.
use Rattle.std.proofs.Common.{◌≡◌, ℕ, suc, ◌+◌, ◌-◌, ◌*◌, ◌<◌, ◌≤◌, ◌==◌, Bool, true, false, ◌&&◌, cond, leb, List, [], ◌∷◌, length, get_or, drop, Option, Some, None, refl, sym, ap, ◌∙◌, arith, drop-cons, add-one, inl, inr}
use Rattle.std.specs.Prelude.{nat_le, if◌then◌else◌, option_and_then}
use Rattle.std.proofs.lemmas.Bool.{lt-leb, le-leb, ne_eqb, eq-eqb, eqb-true, eqb-false, cases_lt}
use Rattle.std.proofs.lemmas.List.{nil_from_length, length-drop}
use Rattle.std.specs.Char.{is_ascii_digit}
use Rattle.sdb_script.specs.Numbers.{digits_value, number_spelled, number_within}

-- the number, if it is at most `high`
abbrev pub capped : ℕ → Option ℕ → Option ℕ
capped high given = option_and_then (λ n. if nat_le n high then Some n else None) given

above_step : (b : Bool) (high : ℕ) (rest : Option ℕ) → capped high rest ≡ None → capped high (cond b rest None) ≡ None
above_step true high rest e = e
above_step false high rest e = refl

-- more digits make no less
pub above : (high n : ℕ) → high < n → (cs : List ℕ) → capped high (digits_value n cs) ≡ None
unfolding digits_value
above high n lt [] = rw (lt-leb n high lt) refl
above high n lt (c ∷ cs) = above_step (nat_le 48 c && nat_le c 57) high (digits_value (10 * n + (c - 48)) cs) (above high (10 * n + (c - 48)) (omega arith) cs)

step : (n c : ℕ) (cs : List ℕ) → digits_value n (c ∷ cs) ≡ cond (is_ascii_digit c) (digits_value (10 * n + (c - 48)) cs) None
unfolding digits_value
step n c cs = refl

step_at : (n i : ℕ) (w : List ℕ) → i < length w
    → digits_value n (drop i w) ≡ cond (is_ascii_digit (get_or w i 0)) (digits_value (10 * n + (get_or w i 0 - 48)) (drop (i + 1) w)) None
step_at n i w lt = rw (drop-cons w i 0 lt, add-one) (step n (get_or w i 0) (drop (suc i) w))

-- at a digit
pub digit_at : (n i : ℕ) (w : List ℕ) → i < length w → is_ascii_digit (get_or w i 0) ≡ true → digits_value n (drop i w) ≡ digits_value (10 * n + (get_or w i 0 - 48)) (drop (i + 1) w)
digit_at n i w lt e = step_at n i w lt ∙ rw e refl

-- at anything else
pub other_at : (n i : ℕ) (w : List ℕ) → i < length w → is_ascii_digit (get_or w i 0) ≡ false → digits_value n (drop i w) ≡ None
other_at n i w lt e = step_at n i w lt ∙ rw e refl

-- after the last
pub past_end : (n i : ℕ) (w : List ℕ) → length w ≤ i → digits_value n (drop i w) ≡ Some n
unfolding digits_value
past_end n i w le = rw (nil_from_length (drop i w) (omega (arith, length-drop i w))) refl

pub within : (high n : ℕ) → n ≤ high → capped high (Some n) ≡ Some n
within high n le = rw (le-leb n high le) refl

window_at : (f : ℕ → Option ℕ) (b a : Bool) (n : ℕ) → f n ≡ cond b (Some n) None → cond (b && a) (Some n) None ≡ option_and_then f (cond a (Some n) None)
window_at f true true n e = sym e
window_at f true false n e = refl
window_at f false true n e = sym e
window_at f false false n e = refl

-- the number between both limits
pub window : (low high : ℕ) (d : Option ℕ) → option_and_then (λ n. if nat_le low n && nat_le n high then Some n else None) d ≡ option_and_then (λ n. if nat_le low n then Some n else None) (capped high d)
window low high None = refl
window low high (Some n) = window_at (λ m. if nat_le low m then Some m else None) (leb low n) (leb n high) n refl

-- a word without a leading zero
pub plain : (w : List ℕ) → 0 < length w → ((get_or w 0 0 ≡ 48) → length w ≤ 1) → number_spelled w ≡ digits_value 0 w
unfolding number_spelled
plain [] h z = absurd (omega arith)
plain (c ∷ []) h z = refl
plain (c ∷ (d ∷ cs)) h z = rw (ne_eqb c 48 (λ e. omega (arith, z e))) refl

pub leading_zero : (w : List ℕ) → get_or w 0 0 ≡ 48 → 1 < length w → number_spelled w ≡ None
unfolding number_spelled
leading_zero [] z h = absurd (omega arith)
leading_zero (c ∷ []) z h = absurd (omega arith)
leading_zero (c ∷ (d ∷ cs)) z h = rw (eq-eqb c 48 z) refl

pub no_digits : number_spelled [] ≡ None
unfolding number_spelled
no_digits = refl

abbrev pub from_low : ℕ → Option ℕ → Option ℕ
from_low low given = option_and_then (λ n. if nat_le low n then Some n else None) given

not_above : (n : ℕ) → (1 < n → ⊥) → n ≤ 1
not_above n h = elim (cases_lt 1 n) [ inl lt ↦ absurd (h lt) | inr le ↦ le ]

-- the number of a word that may be one
pub spelled : (low high : ℕ) (w : List ℕ) → (length w == 0) ≡ false → ((get_or w 0 0 ≡ 48) × (1 < length w) → ⊥) → number_within low high w ≡ from_low low (capped high (digits_value 0 w))
spelled low high w e z =
    let long : length w ≡ 0 → ⊥ = eqb-false (length w) 0 e in
    let same = plain w (omega arith) (λ h. not_above (length w) (λ k. z (h, k))) in
    ap (λ d. option_and_then (λ n. if nat_le low n && nat_le n high then Some n else None) d) same ∙ window low high (digits_value 0 w)

pub empty_word : (low high : ℕ) (w : List ℕ) → (length w == 0) ≡ true → number_within low high w ≡ None
empty_word low high w e = rw (nil_from_length w (eqb-true (length w) 0 e), no_digits) refl

pub zero_led : (low high : ℕ) (w : List ℕ) → (get_or w 0 0 ≡ 48) × (1 < length w) → number_within low high w ≡ None
zero_led low high w h = rw (leading_zero w h.0 h.1) refl

pub too_low : (low n : ℕ) → n < low → from_low low (Some n) ≡ None
too_low low n lt = rw (lt-leb low n lt) refl

pub not_low : (low n : ℕ) → low ≤ n → from_low low (Some n) ≡ Some n
not_low low n le = rw (le-leb low n le) refl
