-- What a writer holds after some calls.
use Rattle.std.proofs.Common.{◌≡◌, ℕ, ◌+◌, ◌-◌, List, [], ◌∷◌, ◌++◌, take, drop, length, ◌==◌, true, false, refl, sym, ap, ◌∙◌, arith, inl, inr, Option, None, Some, append_assoc, append-nil}
use Rattle.std.proofs.lemmas.List.{drop-take, take-append-drop}
use Rattle.std.proofs.lemmas.Bool.{ne_eqb}
use Rattle.std.proofs.lemmas.Grind.{common_steps}
use Rattle.std.specs.Io.KnownBytes.{Appends, Keeps}
use Rattle.sdb_io.specs.Output.{GetsPrefix}

some_is : (xs ys : List ℕ) → ◌≡◌ {A = Option (List ℕ)} (Some xs) (Some ys) → xs ≡ ys
some_is xs ys e = cc

none_is : (xs : List ℕ) → ◌≡◌ {A = Option (List ℕ)} None (Some xs) → ⊥
none_is xs e = absurd cc

pub appends : (old new : Option (List ℕ)) (xs bs : List ℕ) → old ≡ Some xs → Appends old new bs → new ≡ Some (xs ++ bs)
appends None new xs bs e h = absurd (none_is xs e)
appends (Some ys) None xs bs e h = absurd h
appends (Some ys) (Some zs) xs bs e h = ap (λ (t : List ℕ). Some t) (h ∙ ap (λ (t : List ℕ). t ++ bs) (some_is ys xs e))

pub keeps : (old new : Option (List ℕ)) (xs : List ℕ) → old ≡ Some xs → Keeps old new → new ≡ Some xs
keeps None new xs e h = absurd (none_is xs e)
keeps (Some ys) None xs e h = absurd h
keeps (Some ys) (Some zs) xs e h = ap (λ (t : List ℕ). Some t) (h ∙ some_is ys xs e)

front : (n m : ℕ) (xs : List ℕ) → take n (take (n + m) xs) ≡ take n xs
front n m xs = grind (arith, common_steps)

take_more : (n m : ℕ) (xs : List ℕ) → take (n + m) xs ≡ take n xs ++ take m (drop n xs)
take_more n m xs = sym (take-append-drop n (take (n + m) xs)) ∙ ap (λ (t : List ℕ). t ++ drop n (take (n + m) xs)) (front n m xs)
    ∙ ap (λ (t : List ℕ). take n xs ++ t) (drop-take n m xs)

drop_more : (n m : ℕ) (xs : List ℕ) → drop (n + m) xs ≡ drop m (drop n xs)
drop_more n m xs = grind (arith, common_steps)

pub whole_rest : (m : ℕ) (xs : List ℕ) → take (length xs - m) (drop m xs) ≡ drop m xs
whole_rest m xs = grind (arith, common_steps)

-- one call more
pub writes_more : (old new : Option (List ℕ)) (before bytes rest : List ℕ) (n m : ℕ) → old ≡ Some (before ++ take n bytes) → rest ≡ drop n bytes → Appends old new (take m rest)
    → (new ≡ Some (before ++ take (n + m) bytes)) × (drop m rest ≡ drop (n + m) bytes)
writes_more old new before bytes rest n m e f h = (
  appends old new (before ++ take n bytes) (take m rest) e h
      ∙ ap (λ (t : List ℕ). Some t) (append_assoc before (take n bytes) (take m rest) ∙ ap (λ (t : List ℕ). before ++ (take n bytes ++ take m t)) f
      ∙ ap (λ (t : List ℕ). before ++ t) (sym (take_more n m bytes))),
  ap (drop m) f ∙ sym (drop_more n m bytes),
)

no_test : false ≡ true → ⊥
no_test e = cc

no_rest : (rest : List ℕ) → (length rest == 0) ≡ true → rest ≡ []
no_rest [] e = refl
no_rest (x ∷ xs) e = absurd (no_test (sym (ne_eqb (length (x ∷ xs)) 0 (λ h. absurd (omega (arith, h)))) ∙ e))

-- where nothing is left, all was taken
pub all_taken : (n : ℕ) (bytes rest : List ℕ) → rest ≡ drop n bytes → (length rest == 0) ≡ true → take n bytes ≡ bytes
all_taken n bytes rest e none =
    sym (append-nil (take n bytes)) ∙ ap (λ (t : List ℕ). take n bytes ++ t) (sym (sym e ∙ no_rest rest none)) ∙ take-append-drop n bytes

-- a prefix was got, as far as the bytes can be observed
pub prefix_got : (old new : Option (List ℕ)) (bytes : List ℕ) → ((before : List ℕ) → old ≡ Some before → (n : ℕ) × (new ≡ Some (before ++ take n bytes)))
    → GetsPrefix (record { bytes = old; pieces = None }) (record { bytes = new; pieces = None }) [] bytes
prefix_got None new bytes h = inl (record {
  bytes = λ before told. absurd (none_is before told);
  pieces = λ before told. absurd cc;
})
prefix_got (Some xs) new bytes h =
    let p = h xs refl in
    inr (
      p.0,
      record {
        bytes = λ before told. p.1 ∙ ap (λ (t : List ℕ). Some (t ++ take p.0 bytes)) (some_is xs before told)
            ∙ ap (λ (t : List ℕ). Some (before ++ t)) (sym (append-nil (take p.0 bytes)));
        pieces = λ before told. absurd cc;
      },
    )
