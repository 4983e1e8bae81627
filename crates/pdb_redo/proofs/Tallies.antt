-- How what a redo counts goes on.
use Rattle.std.proofs.Common.{◌≡◌, ◌+◌, ℕ, Bool, List, length, refl, sym, ◌∙◌, ap, subst}
use Rattle.pdb_cells.specs.declared.Put.{Put}
use Rattle.pdb_disk.specs.Files.{Files}
use Rattle.pdb_log.specs.Standing.{next_record}
use Rattle.pdb_log.specs.Tallies.{IsTally, Tally, with_bytes, with_gate}
use Rattle.pdb_log.specs.declared.log.Log.{Log}
use Rattle.pdb_log.proofs.Tallies.{tally_beside, tally_rises}
use Rattle.pdb_model.specs.Records.{record_bytes}
use Rattle.pdb_record.proofs.Lengths.{record_len}
use Rattle.pdb_redo.specs.Standing.{KeepsRedo, next_redo_record}
use Rattle.pdb_redo.specs.Tallies.{IsRedoTally}
use Rattle.pdb_redo.specs.declared.redo_log.Mark.{Mark}
use Rattle.pdb_redo.specs.declared.redo_log.Redo.{Redo}

module _ {D : Type 0} (old : Redo D) (t : Tally) (is : IsRedoTally old t) where
  -- the log goes on, and the last record that was appended stays
  pub redo_tally : (new : Redo D) (u : Tally) → u.records ≡ t.records → IsTally new.log u → new.appended ≡ old.appended → IsRedoTally new u
  redo_tally new u records log same = record { log = log; appended = ap (λ (m : Mark). m.number) same ∙ is.appended ∙ sym records }

  -- one more move of the gate may come
  pub redo_rises : IsRedoTally old (with_gate t)
  redo_rises = record { log = tally_rises old.log t is.log; appended = is.appended }

  -- a record is appended
  pub redo_appends : (log : Log D) (new : Redo D) (commits : ℕ) (puts : List Put)
      → IsTally log (with_bytes t (length (record_bytes (next_record old.log commits puts)))) → new.log ≡ log
      → new.appended ≡ record { number = old.appended.number + 1; commits = commits }
      → IsRedoTally new (with_bytes t (length (record_bytes (next_redo_record old commits puts))))
  redo_appends log new commits puts goes on appended = record {
    log = subst (λ n. IsTally new.log (with_bytes t n))
        (record_len (next_record old.log commits puts) ∙ sym (record_len (next_redo_record old commits puts)))
        (subst (λ (l : Log D). IsTally l (with_bytes t (length (record_bytes (next_record old.log commits puts))))) (sym on) goes);
    appended = ap (λ (m : Mark). m.number) appended ∙ ap (λ n. n + 1) is.appended;
  }

-- after reads
pub keeps_tally : {D : Type 0} (tells : D → Bool) (clock : D → ℕ) (past : D → ℕ → Files) (fault_count : D → ℕ) (a b : Redo D)
    → KeepsRedo tells clock past fault_count a b → (t : Tally) → IsRedoTally a t → IsRedoTally b t
keeps_tally {D} tells clock past fault_count a b keeps t is =
    redo_tally a t is b t refl (tally_beside a.log t is.log b.log keeps.log) (ap (λ (r : Redo D). r.appended) keeps.rest)
