-- Where the newest operation of a key is after a commit more, a commit less, and an operation more.
use Rattle.std.proofs.Common.{◌≡◌, ℕ, suc, ◌+◌, ◌≤◌, ◌<◌, ◌^◌, ◌==◌, Bool, true, false, if◌then◌else◌, cond, List, [], ◌∷◌, ◌++◌, length, Option, Some, None, is_some, refl, sym, ap, ap₂, ◌∙◌, arith, rules}
use Rattle.std.specs.Option.{option_map, option_or}
use Rattle.sdb_base.specs.declared.op.Op.{Op}
use Rattle.pdb_overlay.specs.inner.Placing.{AreFound, AreReleased, AreSet, SamePlaces, newest_at, newest_place, place_in_commit, speaks}
use Rattle.pdb_overlay.specs.inner.Slots.{without}
use Rattle.pdb_overlay.specs.declared.place.Place.{Place}
use Rattle.pdb_overlay.specs.declared.places.Places.{Places}
use Rattle.pdb_overlay.proofs.Sayings.{FoundAt, found_at, or_assoc, or_none}

-- ---- one operation more

more_by : (t : Bool) (n : ℕ) (o : Option ℕ) (x : Option ℕ) → option_or (option_map suc (cond t (Some n) o)) x ≡ cond t (Some (suc n)) (option_or (option_map suc o) x)
more_by true n o x = refl
more_by false n o x = refl

pub newest_at-more : (column : ℕ) (key : List ℕ) (ops : List Op) (op : Op)
    → newest_at column key (ops ++ op ∷ []) ≡ cond (speaks column key op) (Some (length ops)) (newest_at column key ops)
newest_at-more column key [] op = refl
newest_at-more column key (x ∷ ops) op =
    ap (λ o. option_or (option_map suc o) (if speaks column key x then Some 0 else None)) (newest_at-more column key ops op)
    ∙ more_by (speaks column key op) (length ops) (newest_at column key ops) (if speaks column key x then Some 0 else None)

-- ---- one commit more

pub newest_place-more : (n column : ℕ) (key : List ℕ) (commits : List (List Op)) (ops : List Op)
    → newest_place n column key (commits ++ ops ∷ []) ≡ option_or (place_in_commit (n + length commits) column key ops) (newest_place n column key commits)
newest_place-more n column key [] ops =
    let e : n ≡ n + 0 = omega arith in ap (λ m. place_in_commit m column key ops) e ∙ sym (or_none (place_in_commit (n + 0) column key ops))
newest_place-more n column key (x ∷ xs) ops =
    let e : (n + 1) + length xs ≡ n + suc (length xs) = omega arith in
    ap (λ o. option_or o (place_in_commit n column key x)) (newest_place-more (n + 1) column key xs ops)
    ∙ or_assoc (place_in_commit ((n + 1) + length xs) column key ops) (newest_place (n + 1) column key xs) (place_in_commit n column key x)
    ∙ ap (λ m. option_or (place_in_commit m column key ops) (newest_place n column key (x ∷ xs))) e

pub found_more : (n number : ℕ) (commits : List (List Op)) (ops : List Op) (a b : Places) → AreFound n commits a → number ≡ n + length commits → number + 1 < 2 ^ 64
    → AreSet number ops a b → AreFound n (commits ++ ops ∷ []) b
found_more n number commits ops a b are e low set = record {
  fits = let long = length-more commits ops in omega (arith, e, low, long);
  found = λ column key. set column key
      ∙ ap₂ (λ (m : ℕ) (o : Option Place). option_or (place_in_commit m column key ops) o) e (are.found column key)
      ∙ sym (newest_place-more n column key commits ops);
}
  where
    length-more : (xs : List (List Op)) (x : List Op) → length (xs ++ x ∷ []) ≡ length xs + 1
    length-more [] x = refl
    length-more (y ∷ xs) x = let h = length-more xs x in omega (arith, h)

-- ---- one commit less

same_number : (n : ℕ) → (n == n) ≡ true
same_number n = search rules

other_number : (m n : ℕ) → n + 1 ≤ m → (m == n) ≡ false
other_number m n low = grind (arith, low)

taken : (t : Bool) (o : Option Place) → t ≡ true → (if t then None else o) ≡ None
taken true o e = refl
taken false o e = cc

kept : (t : Bool) (o : Option Place) → t ≡ false → (if t then None else o) ≡ o
kept true o e = cc
kept false o e = refl

without_later : (n column : ℕ) (key : List ℕ) (rest : List (List Op)) (o : Option Place) (i : Option ℕ) → FoundAt (n + 1) column key rest o
    → cond (is_some i) (without n (option_or o (option_map (λ at. record { number = n; at = at }) i))) (option_or o (option_map (λ at. record { number = n; at = at }) i)) ≡ o
without_later n column key rest None None h = refl
without_later n column key rest None (Some at) h = taken (n == n) _ (same_number n)
without_later n column key rest (Some p) None h = refl
without_later n column key rest (Some p) (Some at) h = kept (p.number == n) _ (other_number p.number n h.from)

pub found_less : (n : ℕ) (ops : List Op) (rest : List (List Op)) (a b : Places) → AreFound n (ops ∷ rest) a → AreReleased n ops a b → AreFound (n + 1) rest b
found_less n ops rest a b are released = record {
  fits = let low = are.fits in omega (arith, low);
  found = λ column key. released column key
      ∙ ap (λ o. cond (is_some (newest_at column key ops)) (without n o) o) (are.found column key)
      ∙ without_later n column key rest (newest_place (n + 1) column key rest) (newest_at column key ops) (found_at (n + 1) column key rest);
}

-- ---- the same places

pub found_same : (n : ℕ) (commits : List (List Op)) (a b : Places) → AreFound n commits a → SamePlaces a b → AreFound n commits b
found_same n commits a b are same = record { fits = are.fits; found = λ column key. same column key ∙ are.found column key }
