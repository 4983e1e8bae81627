-- Marks of files, one of which is set.
use Rattle.std.proofs.Common.{◌≡◌, ◌≢◌, ⊎_elim, ℕ, zero, suc, Bool, true, false, List, [], ◌∷◌, Some, refl, sym, ◌∙◌, ap, subst}
use Rattle.std.specs.Prelude.{set, slice_get}
use Rattle.std.proofs.lemmas.Bool.{cases_eq}
use Rattle.pdb_disk.specs.Files.{Files}
use Rattle.pdb_log.specs.declared.log.Log.{Log}
use Rattle.pdb_redo.specs.inner.Writing.{IsDone, MarksOthers}
use Rattle.pdb_cells.specs.declared.Put.{Put}

pub mark_else : (marks : List Bool) (i j : ℕ) (v : Bool) → j ≢ i → slice_get (set marks i v) j ≡ slice_get marks j
mark_else [] i j v ne = refl
mark_else (x ∷ xs) zero zero v ne = absurd (ne refl)
mark_else (x ∷ xs) zero (suc j) v ne = refl
mark_else (x ∷ xs) (suc i) zero v ne = refl
mark_else (x ∷ xs) (suc i) (suc j) v ne = mark_else xs i j v (λ e. ne (ap suc e))

marked : (marks : List Bool) (i : ℕ) → slice_get (set marks i true) i ≡ Some false → ⊥
marked [] i e = cc
marked (x ∷ xs) zero e = cc
marked (x ∷ xs) (suc i) e = marked xs i e

module _ {D : Type 0} (clock : D → ℕ) (past : D → ℕ → Files) where
  pub marks_none : (marks : List Bool) (log : Log D) → MarksOthers clock past marks marks log log
  marks_none marks log j un = (un, refl)

  pub marks_next : (before marks after : List Bool) (p : Put) (old mid new : Log D) → after ≡ set marks p.name.file true → IsDone clock past p mid new
      → MarksOthers clock past before marks old mid → MarksOthers clock past before after old new
  marks_next before marks after p old mid new is done h j un =
      let e : slice_get (set marks p.name.file true) j ≡ Some false = sym (ap (λ (ms : List Bool). slice_get ms j) is) ∙ un in
      ⊎_elim
      (λ same. absurd (marked marks p.name.file (subst (λ k. slice_get (set marks p.name.file true) k ≡ Some false) same e)))
      (λ ne.
      let was = h j (sym (mark_else marks p.name.file j true ne) ∙ e) in
      (was.0, done.others j ne ∙ was.1))
      (cases_eq j p.name.file)
