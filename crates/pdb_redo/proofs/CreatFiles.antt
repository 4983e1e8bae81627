-- The files of the store are emptied, one after the other.
use Rattle.std.proofs.Common.{◌≡◌, ⊎_elim, ℕ, ◌+◌, sym, subst, arith}
use Rattle.std.proofs.lemmas.Bool.{cases_lt}
use Rattle.pdb_disk.specs.Files.{Files}
use Rattle.pdb_disk.specs.Moments.{Moments}
use Rattle.pdb_disk.proofs.Calls.{no_call}
use Rattle.pdb_log.specs.Ledger.{IsEmptyFile}
use Rattle.pdb_log.specs.Recovered.{IsStoreFile}
use Rattle.pdb_redo.specs.inner.Creation.{AreEmpty, HasNoGateYet, IsEmptiedIfStored, NeverHasGate}
use Rattle.pdb_redo.proofs.CreatGates.{emptied_never, never_yet}

pub never_next : (file : ℕ) (old new : Files) → IsEmptiedIfStored file old new → NeverHasGate old → NeverHasGate new
never_next file old new emptied never = ⊎_elim
    (λ done. emptied_never file old new never done)
    (λ stays. subst NeverHasGate (sym stays.1) never)
    emptied

pub empty_next : (file : ℕ) (old new : Files) → AreEmpty file old → IsEmptiedIfStored file old new → AreEmpty (file + 1) new
empty_next file old new empty emptied j stored low = ⊎_elim
    (λ less. ⊎_elim
    (λ done. subst IsEmptyFile (sym (done.others j (λ e. omega (arith, e, less)))) (empty j stored less))
    (λ stays. subst (λ (fs : Files). IsEmptyFile (fs j)) (sym stays.1) (empty j stored less))
    emptied)
    (λ ge. let at : j ≡ file = omega (arith, low, ge) in ⊎_elim
    (λ done. subst (λ k. IsEmptyFile (new k)) (sym at) done.empty)
    (λ stays. absurd (stays.0 (subst IsStoreFile at stored)))
    emptied)
    (cases_lt j file)

module _ {D : Type 0} (clock : D → ℕ) (past : D → ℕ → Files) where
  -- what holds of a disk of which some files were emptied
  pub record StaysUngated (old new : D) : Type 0 where
    pub moments : Moments (clock old) (clock new) (past old) (past new) HasNoGateYet
    pub never : NeverHasGate (past new (clock new))

  pub ungated_at_first : (d : D) → NeverHasGate (past d (clock d)) → StaysUngated d d
  ungated_at_first d never = record { moments = no_call (clock d) (past d) HasNoGateYet (never_yet (past d (clock d)) never); never = never }
