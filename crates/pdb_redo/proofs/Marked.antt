-- The numbers of the records that wait, between the marks.
use Rattle.std.proofs.Common.{◌≡◌, ℕ, zero, suc, ◌+◌, List, [], ◌∷◌, ◌++◌, length, length-append, None, refl, ap, arith}
use Rattle.std.specs.Prelude.{slice_get}
use Rattle.std.proofs.lemmas.Option.{same_Some}
use Rattle.pdb_model.specs.Records.{Record}
use Rattle.pdb_redo.specs.inner.Carrying.{AreMarked, AreNumberedAfter}

numbers_more : (n : ℕ) (rs : List Record) (r : Record) → AreNumberedAfter n rs → r.number ≡ n + length rs + 1 → AreNumberedAfter n (rs ++ r ∷ [])
numbers_more n [] r h e zero s there = let same = ap (λ (q : Record). q.number) (same_Some r s there) in omega (arith, same, e)
numbers_more n [] r h e (suc k) s there = cc
numbers_more n (q ∷ rs) r h e zero s there = h zero s there
numbers_more n (q ∷ rs) r h e (suc k) s there =
    let is = numbers_more (n + 1) rs r (λ j t at. let m = h (suc j) t at in omega (arith, m)) (omega (arith, e)) k s there in omega (arith, is)

-- no record waits
pub marked_none : (n : ℕ) → AreMarked n n n []
marked_none n = ((λ k r there. cc), omega arith, omega arith, omega arith)

-- one record more waits
pub marked_more : (enacted flushed appended : ℕ) (rs : List Record) (r : Record) → AreMarked enacted flushed appended rs → r.number ≡ appended + 1
    → AreMarked enacted flushed (appended + 1) (rs ++ r ∷ [])
marked_more enacted flushed appended rs r h next =
    let count = h.1 in let ahead = h.3 in let more = length-append rs (r ∷ []) in
    (numbers_more enacted rs r h.0 (omega (arith, next, count)), omega (arith, count, more), h.2, omega (arith, ahead))

-- all are flushed
pub marked_flushed : (enacted flushed appended : ℕ) (rs : List Record) → AreMarked enacted flushed appended rs → AreMarked enacted appended appended rs
marked_flushed enacted flushed appended rs h = let behind = h.2 in let ahead = h.3 in (h.0, h.1, omega (arith, behind, ahead), omega arith)

-- the oldest one has the next number, and is enacted
pub next_number : (enacted flushed appended : ℕ) (r : Record) (rs : List Record) → AreMarked enacted flushed appended (r ∷ rs) → r.number ≡ enacted + 1
next_number enacted flushed appended r rs h = let e = h.0 0 r refl in omega (arith, e)

pub marked_rest : (enacted flushed appended : ℕ) (r : Record) (rs : List Record) → AreMarked enacted flushed appended (r ∷ rs) → (enacted ≡ flushed → ⊥)
    → AreMarked r.number flushed appended rs
marked_rest enacted flushed appended r rs h waits =
    let e = next_number enacted flushed appended r rs h in let count = h.1 in let behind = h.2 in
    ((λ k s there. let m = h.0 (suc k) s there in omega (arith, m, e)), omega (arith, count, e), omega (arith, behind, waits, e), h.3)

-- where none waits, all that are flushed are enacted
pub none_waits : (enacted flushed appended : ℕ) (rs : List Record) → AreMarked enacted flushed appended rs → slice_get rs 0 ≡ None → enacted ≡ flushed
none_waits enacted flushed appended [] h none = let count = h.1 in let behind = h.2 in let ahead = h.3 in omega (arith, count, behind, ahead)
none_waits enacted flushed appended (r ∷ rs) h none = cc
