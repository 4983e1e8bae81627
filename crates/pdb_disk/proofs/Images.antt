-- What a step and a sync do to what is read, and to what a crash may leave.
use Rattle.std.proofs.Common.{◌≡◌, ◌≢◌, ℕ, ◌+◌, ◌-◌, List, [], ◌∷◌, ◌++◌, length, get_or, Bool, true, false, nat_le, nat_lt, ◌&&◌, if◌then◌else◌, inl, inr, refl, sym, ◌∙◌, ap, subst, arith, ⊎_elim, ◌⊎◌}
use Rattle.std.proofs.lemmas.Bool.{cases_lt}
use Rattle.std.proofs.lemmas.Bool.Decides.{nat_tests}
use Rattle.pdb_disk.specs.Files.{FileBytes, FileState, Files, Step, Begins, Settles, Spares, AllSpare, IsImage, IsFileImage, done, reads_of}
use Rattle.pdb_disk.specs.Files.{Step as step}

-- a place beside a step reads as before
pub done_spared : (c : FileBytes) (s : Step) (i : ℕ) → Spares s i → done c s i ≡ c i
done_spared c (step.Write at bytes) i (inl low) =
    let out : nat_le at i ≡ false = grind (arith, nat_tests) in
    rw out refl
done_spared c (step.Write at bytes) i (inr high) =
    let out : nat_lt i (at + length bytes) ≡ false = grind (arith, nat_tests) in
    pick (nat_le at i) (nat_lt i (at + length bytes)) out
  where
    pick : (a b : Bool) → b ≡ false → (if a && b then get_or bytes (i - at) 0 else c i) ≡ c i
    pick true b e = rw e refl
    pick false b e = refl
done_spared c step.Cut i sp = absurd sp

-- a place that all steps spare, and a further one
pub spared_last : (ss : List Step) (s : Step) (i : ℕ) → AllSpare (ss ++ s ∷ []) i → AllSpare ss i × Spares s i
spared_last [] s i h = (tt, h.0)
spared_last (r ∷ ss) s i h = let rest = spared_last ss s i h.1 in ((h.0, rest.0), rest.1)

same_file : (j : ℕ) (old new : Files) → new j ≡ old j → IsFileImage (old j) (old j).read → IsFileImage (new j) (new j).read
same_file j old new e h = subst (λ (f : FileState). IsFileImage f f.read) (sym e) h

-- any file is this one or another
which : (j file : ℕ) → (j ≢ file) ⊎ (file ≡ j)
which j file = ⊎_elim
    (λ low. inl (λ e. absurd (omega (arith, low, e))))
    (λ le. ⊎_elim (λ high. inl (λ e. absurd (omega (arith, high, e)))) (λ ge. inr (omega (arith, le, ge))) (cases_lt file j))
    (cases_lt j file)

pub begins_image : (file : ℕ) (s : Step) (old new : Files) → Begins file s old new → IsImage old (reads_of old) → IsImage new (reads_of new)
begins_image file s old new b h j = ⊎_elim
    (λ other. same_file j old new (b.others j other) (h j))
    (λ e. subst (λ k. IsFileImage (new k) (new k).read) e here)
    (which j file)
  where
    here : IsFileImage (new file) (new file).read
    here i sp =
        let rest = spared_last (old file).since s i (subst (λ (ss : List Step). AllSpare ss i) b.since sp) in
        b.spared i rest.1 ∙ h file i rest.0 ∙ sym (ap (λ (c : FileBytes). c i) b.kept)

pub settles_image : (file : ℕ) (old new : Files) → Settles file old new → IsImage old (reads_of old) → IsImage new (reads_of new)
settles_image file old new b h j = ⊎_elim
    (λ other. same_file j old new (b.others j other) (h j))
    (λ e. subst (λ k. IsFileImage (new k) (new k).read) e here)
    (which j file)
  where
    here : IsFileImage (new file) (new file).read
    here i sp = ap (λ (c : FileBytes). c i) b.read ∙ sym (ap (λ (c : FileBytes). c i) b.kept)

-- after a sync a crash leaves what is read
pub synced_image : (file : ℕ) (old new : Files) (c : FileBytes) → Settles file old new → IsFileImage (new file) c → (i : ℕ) → c i ≡ (old file).read i
synced_image file old new c b h i = h i (subst (λ (ss : List Step). AllSpare ss i) (sym b.since) tt) ∙ ap (λ (d : FileBytes). d i) b.kept
