-- Numbers of commits that rise along a pipeline, and that one more keeps rising.
use Rattle.std.proofs.Common.{◌≡◌, ◌≤◌, ℕ, zero, suc, List, [], ◌∷◌, ◌++◌, take, refl, sym, ◌∙◌, ap, subst, arith, length-append}
use Rattle.std.proofs.lemmas.List.{take-append-le}
use Rattle.pdb_redo.specs.Reaches.{Reach, with_logged}
use Rattle.pdb_pipe.specs.inner.Order.{NumbersRise, NeverFall, last_or}

last-one_more : (n m : ℕ) (ms : List ℕ) → last_or n (ms ++ m ∷ []) ≡ m
last-one_more n m [] = refl
last-one_more n m (k ∷ ms) = last-one_more k m ms

rises-one_more : (n m : ℕ) (ms : List ℕ) → NeverFall n ms → last_or n ms ≤ m → NeverFall n (ms ++ m ∷ [])
rises-one_more n m [] rise le = (le, tt)
rises-one_more n m (k ∷ ms) rise le = (rise.0, rises-one_more k m ms rise.1 le)

below_last : (n : ℕ) (ms : List ℕ) → NeverFall n ms → n ≤ last_or n ms
below_last n [] rise = omega arith
below_last n (k ∷ ms) rise = let a = rise.0 in let b = below_last k ms rise.1 in omega (arith, a, b)

below_ready : (k n : ℕ) (ms : List ℕ) → NeverFall n ms → n ≤ last_or n (take k ms)
below_ready zero n ms rise = omega arith
below_ready (suc k) n [] rise = omega arith
below_ready (suc k) n (m ∷ ms) rise = let a = rise.0 in let b = below_ready k m ms rise.1 in omega (arith, a, b)

ready_below_last : (k n : ℕ) (ms : List ℕ) → NeverFall n ms → last_or n (take k ms) ≤ last_or n ms
ready_below_last zero n ms rise = below_last n ms rise
ready_below_last (suc k) n [] rise = omega arith
ready_below_last (suc k) n (m ∷ ms) rise = ready_below_last k m ms rise.1

-- What is cleaned, enacted, flushed and logged are numbers that don't fall.
pub record Rise (cleaned : ℕ) (r : Reach) : Type 0 where
  pub enacted : cleaned ≤ r.enacted
  pub flushed : r.enacted ≤ r.flushed
  pub logged : r.flushed ≤ r.logged

pub rise_in_order : (r : Reach) (cleaned : ℕ) → NumbersRise r cleaned → Rise cleaned r
rise_in_order r cleaned is = record {
  enacted = is.cleaned_first;
  flushed = subst (λ (n : ℕ). r.enacted ≤ n) (sym is.flushed) (below_ready r.ready r.enacted r.waiting is.rise);
  logged = subst (λ (n : ℕ). n ≤ r.logged) (sym is.flushed)
      (subst (λ (n : ℕ). last_or r.enacted (take r.ready r.waiting) ≤ n) (sym is.logged) (ready_below_last r.ready r.enacted r.waiting is.rise));
}

pub logged_in_order : (r : Reach) (cleaned n : ℕ) → NumbersRise r cleaned → r.logged ≤ n → NumbersRise (with_logged r n) cleaned
logged_in_order r cleaned n is le = record {
  cleaned_first = is.cleaned_first;
  rise = rises-one_more r.enacted n r.waiting is.rise (let e = is.logged in omega (arith, e, le));
  within = let w = is.within in let l = length-append r.waiting (n ∷ []) in omega (arith, w, l);
  flushed = is.flushed ∙ ap (last_or r.enacted) (sym (take-append-le r.ready r.waiting (n ∷ []) is.within));
  logged = sym (last-one_more r.enacted n r.waiting);
}
