-- What a redo knows of the records that wait, as they come and go.
use Rattle.std.proofs.Common.{◌≡◌, ⊎_elim, ℕ, zero, suc, ◌+◌, List, [], ◌∷◌, ◌++◌, length, get_or, length-append, All, Some, refl, sym, ◌∙◌, ap, subst, arith}
use Rattle.std.specs.Prelude.{slice_get}
use Rattle.std.proofs.lemmas.Option.{get_or_from_slice_get, same_Some, slice_get-get_or, slice_get_past}
use Rattle.std.proofs.lemmas.Bool.{cases_lt}
use Rattle.std.proofs.lemmas.List.Elements.{All-get_or}
use Rattle.pdb_cells.specs.Puts.{IsWholeCell}
use Rattle.pdb_cells.specs.declared.Put.{Put}
use Rattle.pdb_model.specs.Records.{Record}
use Rattle.pdb_redo.specs.Backlogs.{IsNextNumber}
use Rattle.pdb_redo.specs.inner.Carrying.{EndAt, HaveWholeCells}

pub next_after : (rs : List Record) (n : ℕ) → EndAt rs n → IsNextNumber rs (n + 1)
next_after [] n h = tt
next_after (r ∷ []) n h = ap (λ k. k + 1) (h 0 r (omega arith) refl)
next_after (r ∷ q ∷ rs) n h = next_after (q ∷ rs) n (λ k s e there. h (suc k) s (omega (arith, e)) there)

whole_at : (ps : List Put) (j : ℕ) (p : Put) → All IsWholeCell ps → slice_get ps j ≡ Some p → IsWholeCell p
whole_at ps j p all e = ⊎_elim
    (λ l. subst IsWholeCell (get_or_from_slice_get ps j p p e) (All-get_or IsWholeCell ps j p l all))
    (λ past. let none = slice_get_past ps j past in cc)
    (cases_lt j (length ps))

pub carries_more : (rs : List Record) (r : Record) → HaveWholeCells rs → All IsWholeCell r.puts → HaveWholeCells (rs ++ r ∷ [])
carries_more [] r h all zero j s p at there = whole_at r.puts j p all (ap (λ (q : Record). slice_get q.puts j) (same_Some r s at) ∙ there)
carries_more [] r h all (suc k) j s p at there = cc
carries_more (q ∷ rs) r h all zero j s p at there = h 0 j s p at there
carries_more (q ∷ rs) r h all (suc k) j s p at there = carries_more rs r (λ i. h (suc i)) all k j s p at there

pub ends_at : (rs : List Record) (r : Record) → EndAt (rs ++ r ∷ []) r.number
ends_at [] r zero s e there = ap (λ (q : Record). q.number) (sym (same_Some r s there))
ends_at [] r (suc k) s e there = cc
ends_at (q ∷ rs) r zero s e there = let n = length-append rs (r ∷ []) in absurd (omega (arith, e, n))
ends_at (q ∷ rs) r (suc k) s e there = ends_at rs r k s (omega (arith, e)) there

-- the oldest one
pub first_whole : (rs : List Record) (r : Record) → HaveWholeCells rs → slice_get rs 0 ≡ Some r → All IsWholeCell r.puts
first_whole rs r h at j d l = h 0 j r (get_or r.puts j d) at (slice_get-get_or r.puts j d l)

pub carries_rest : (r : Record) (rs : List Record) → HaveWholeCells (r ∷ rs) → HaveWholeCells rs
carries_rest r rs h k = h (suc k)

pub rest_ends : (r : Record) (rs : List Record) (n : ℕ) → EndAt (r ∷ rs) n → EndAt rs n
rest_ends r rs n h k s e there = h (suc k) s (omega (arith, e)) there

-- and the others
pub first_is : (rs : List Record) (r : Record) → slice_get rs 0 ≡ Some r → (qs : List Record) × (rs ≡ r ∷ qs)
first_is [] r e = cc
first_is (q ∷ qs) r e = (qs, ap (λ (x : Record). x ∷ qs) (same_Some q r e))
