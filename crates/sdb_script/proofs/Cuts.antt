-- A text is cut at the first byte that passes a test, and a line so into words.
use Rattle.std.proofs.Common.{◌≡◌, ℕ, suc, ◌==◌, ◌+◌, ◌<◌, Bool, true, false, cond, ltb, List, [], ◌∷◌, length, All, Option, Some, None, Bor, refl, sym, ap, ap₂, ◌∙◌, arith, inl, inr, not, ◌||◌}
use Rattle.std.specs.Prelude.{is_some, IfSome, IfNone}
use Rattle.std.specs.List.{before_first, after_first, list_any, position, position_or_len, slice_split}
use Rattle.std.proofs.lemmas.Bool.{lt-ltb, ltb-true, le-ltb, cases_lt, or_parts}
use Rattle.std.proofs.lemmas.List.Elements.{All-cons, All-nil}
use Rattle.std.proofs.lemmas.List.Splits.{slice_split_first, slice_split_none}
use Rattle.sdb_script.specs.Grammar.{words_of}
use Rattle.sdb_script.specs.inner.Reading.{words_left}

longer : (k n : ℕ) → ltb k n ≡ ltb (1 + k) (suc n)
longer k n = elim (cases_lt k n) [
  | inl lt ↦ lt-ltb k n lt ∙ sym (lt-ltb (1 + k) (suc n) (omega arith))
  | inr le ↦ le-ltb k n le ∙ sym (le-ltb (1 + k) (suc n) (omega arith))
]

any_step : (b a : Bool) (k n : ℕ) → a ≡ ltb k n → (b || a) ≡ ltb (cond (not b) (1 + k) 0) (suc n)
any_step true a k n e = sym (lt-ltb 0 (suc n) (omega arith))
any_step false a k n e = e ∙ longer k n

-- an element passes exactly where the first place that passes is within the list
pub any_is_within : {X : Type 0} (p : X → Bool) (xs : List X) → list_any p xs ≡ ltb (position_or_len p xs) (length xs)
any_is_within p [] = refl
any_is_within p (x ∷ xs) = any_step (p x) (list_any p xs) (position_or_len p xs) (length xs) (any_is_within p xs)

all_fail : {X : Type 0} (p : X → Bool) (xs : List X) → list_any p xs ≡ false → All (λ x. p x ≡ false) xs
all_fail p [] e = All-nil (λ x. p x ≡ false)
all_fail p (x ∷ xs) e =
    let parts = or_parts (p x) (list_any p xs) e in
    All-cons (λ y. p y ≡ false) x xs parts.0 (all_fail p xs parts.1)

some_within : (b : Bool) (k i : ℕ) → cond b (Some k) None ≡ Some i → true ≡ b
some_within true k i e = refl
some_within false k i e = absurd cc

none_within : (b : Bool) (k : ℕ) → cond b (Some k) None ≡ None → false ≡ b
none_within true k e = absurd cc
none_within false k e = refl

pub found_some : (p : ℕ → Bool) (xs : List ℕ) (i : ℕ) → Some i ≡ position p xs → true ≡ list_any p xs
found_some p xs i e = some_within (ltb (position_or_len p xs) (length xs)) (position_or_len p xs) i (sym e) ∙ sym (any_is_within p xs)

pub found_none : (p : ℕ → Bool) (xs : List ℕ) → None ≡ position p xs → false ≡ list_any p xs
found_none p xs e = none_within (ltb (position_or_len p xs) (length xs)) (position_or_len p xs) (sym e) ∙ sym (any_is_within p xs)

-- the words of a line, from its first word and the rest
pub first_word_is : (text before : List ℕ) (rest : Option (Bor (List ℕ))) → before ≡ before_first (λ c. c == 32) text → is_some rest ≡ list_any (λ c. c == 32) text
    → IfSome rest (λ r. r.now ≡ after_first (λ c. c == 32) text) → IfNone rest (before ≡ text) → words_of text ≡ before ∷ words_left rest
first_word_is text before (Some r) b f a n =
    let lt : position_or_len (λ c. c == 32) text < length text = ltb-true _ _ (sym (any_is_within (λ c. c == 32) text) ∙ sym f) in
    slice_split_first (λ c. c == 32) text 0 lt ∙ ap₂ (λ (w : List ℕ) (ws : List (List ℕ)). w ∷ ws) (sym b) (ap (slice_split (λ c. c == 32)) (sym a))
first_word_is text before None b f a n = slice_split_none (λ c. c == 32) text (all_fail (λ c. c == 32) text (sym f)) ∙ ap (λ (w : List ℕ). w ∷ []) (sym n)
