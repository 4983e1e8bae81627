-- Which faults are due for a `log`, before it and after it.
use Rattle.std.proofs.Common.{◌≡◌, ◌⊎◌, ◌+◌, ⊎_elim, ℕ, Bool, List, ◌∷◌, Result, Err, Ok, length, sym, ◌∙◌, ap, ap₂, subst, inl, inr, arith}
use Rattle.std.specs.Prelude.{IfErr}
use Rattle.sdb_base.specs.Keeping.{Commits, IsCause}
use Rattle.sdb_base.specs.declared.numbers.KeepFault.{KeepFault}
use Rattle.sdb_base.specs.declared.numbers.KeepFault.TheVariants.{IndexFull, TierFull}
use Rattle.sdb_base.specs.declared.op.Op.{Op}
use Rattle.pdb_cells.specs.declared.puts.Put.{Put}
use Rattle.pdb_disk.specs.Files.{Files}
use Rattle.pdb_log.specs.Standing.{end_of_log}
use Rattle.pdb_log.specs.declared.log.Log.{Log}
use Rattle.pdb_model.specs.Records.{Record, record_bytes}
use Rattle.pdb_redo.specs.Reaches.{Reach, reach_of}
use Rattle.pdb_redo.specs.Standing.{KeepsRedo, cells_under_records, next_redo_record}
use Rattle.pdb_redo.specs.declared.redo_log.Mark.{Mark}
use Rattle.pdb_redo.specs.declared.redo_log.Redo.{Redo}
use Rattle.pdb_redo.proofs.Kept.{keeps_reach}
use Rattle.pdb_pipe.specs.Commits.{contents_of}
use Rattle.pdb_pipe.specs.Faults.{CannotBePlanned, EndsLog, IsCrowdedNext, IsFullNext, IsNoDamage, IsStoppedBy, seen_cells}
use Rattle.pdb_pipe.specs.Going.{ComesAfter}
use Rattle.pdb_pipe.specs.Planning.{IsPlanFault, PlanEnds}
use Rattle.pdb_pipe.specs.Stages.{logged_of}
use Rattle.pdb_pipe.specs.Standing.{StandsFor, bases_of}
use Rattle.pdb_pipe.specs.declared.database.Database.{Database}
use Rattle.pdb_pipe.proofs.DueSince.{causes_since}
use Rattle.pdb_pipe.proofs.StageLogged.{next_alone}

module _ {D : Type 0} (tells : D → Bool) (clock : D → ℕ) (past : D → ℕ → Files) where
  abbrev LogDue : Database D → KeepFault → Type 0
  LogDue db fault = IsStoppedBy db fault ⊎ (EndsLog db fault ⊎ CannotBePlanned tells clock past db fault)

  -- the fault of a `log` that came to its record, after reads
  module _ (fault_count : D → ℕ) (old new : Database D) (keeps : KeepsRedo tells clock past fault_count old.redo new.redo) where
    mark_same : new.redo.appended ≡ old.redo.appended
    mark_same = ap (λ (r : Redo D). r.appended) keeps.rest

    end_same : end_of_log new.redo.log ≡ end_of_log old.redo.log
    end_same = ap (λ (l : Log D). end_of_log l) keeps.log

    record_same : (puts : List Put)
        → next_redo_record new.redo ((reach_of new.redo).logged + 1) puts ≡ next_redo_record old.redo ((reach_of old.redo).logged + 1) puts
    record_same puts = ap₂ (λ (m : Mark) (n : ℕ). record { number = m.number + 1; commits = n + 1; puts = puts }) mark_same
        (ap (λ (t : Reach). t.logged) (keeps_reach tells clock past fault_count old.redo new.redo keeps))

    pub ends_read : (fault : KeepFault) → EndsLog new fault → EndsLog old fault
    ends_read fault ends = ⊎_elim
        (λ e. inl (e.0, ⊎_elim (λ a. inl (sym (ap (λ (m : Mark). m.number) mark_same) ∙ a)) (λ b. inr (sym (ap (λ (l : Log D). l.number) keeps.log) ∙ b)) e.1))
        (λ e. inr (
          e.0,
          (
            e.1.0,
            e.1.1,
            e.1.2,
            (let low = e.1.3 in let r = ap (λ (q : Record). length (record_bytes q)) (record_same e.1.0) in let at = end_same in omega (arith, low, r, at)),
          ),
        ))
        ends

    -- what a call on it answered that made the third one
    pub append_due : {T : Type 0} (after : Database D) (r : Result T KeepFault) → ComesAfter clock past fault_count new after
        → IfErr r (IsCause (EndsLog new)) → IfErr r (IsCause (LogDue old))
    append_due after (Ok t) comes cause = tt
    append_due after (Err fault) comes cause = ⊎_elim (λ e. inl e) (λ later. ⊎_elim (λ e. inr (inl e)) (λ ends. inr (inr (inr (inl (ends_read fault ends))))) later) cause

  -- the fault of a plan over the first database, after which the second is there
  module _ (db after : Database D) (ops : List Op) (rest : Commits) (waiting : db.queue ≡ ops ∷ rest) (fault : KeepFault)
      (ends : (commits : Commits) → StandsFor tells clock past db commits
      → PlanEnds (cells_under_records clock past db.redo) (bases_of db) (contents_of (logged_of db commits)) ops fault)
      (since : CannotBePlanned tells clock past db fault → CannotBePlanned tells clock past after fault) where
    abbrev Ends : Commits → List Op → KeepFault → Type 0
    Ends commits xs f = PlanEnds (cells_under_records clock past db.redo) (bases_of db) (contents_of (logged_of db commits)) xs f

    pub plan_due : IsCause (IsPlanFault (seen_cells tells clock past db)) fault → IsCause (LogDue after) fault
    plan_due =
        causes_since (IsPlanFault (seen_cells tells clock past db)) (LogDue after) fault (λ is. inr (inr (since (is, crowded, full, undamaged))))
      where
        crowded : IsCrowdedNext tells clock past db fault
        crowded column bits chunk commits xs is s next =
            subst (λ (ys : List Op). Ends commits ys (IndexFull column bits chunk))
            (next_alone tells clock past db commits s ops rest waiting xs next)
            (subst (λ (f : KeepFault). Ends commits ops f) is (ends commits s))

        full : IsFullNext tells clock past db fault
        full column tier commits xs is s next =
            subst (λ (ys : List Op). Ends commits ys (TierFull column tier))
            (next_alone tells clock past db commits s ops rest waiting xs next)
            (subst (λ (f : KeepFault). Ends commits ops f) is (ends commits s))

        undamaged : IsNoDamage tells clock past db fault
        undamaged file cell commits is s = subst (λ (f : KeepFault). Ends commits ops f) is (ends commits s)
