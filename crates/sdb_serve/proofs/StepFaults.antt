-- Why a run stops in a stage's line, and what is counted there.
use Rattle.std.proofs.Common.{◌≡◌, ◌<◌, ℕ, Bool, true, List, Option, None, Some, refl, sym, ap, subst, inl, inr}
use Rattle.std.specs.Prelude.{IsTrue}
use Rattle.sdb_io.specs.Faults.{CountsFault}
use Rattle.sdb_base.specs.Keeping.{Commits, IsCause, is_disk}
use Rattle.sdb_base.specs.declared.Counter.{Counter}
use Rattle.sdb_base.specs.declared.numbers.KeepFault.{KeepFault}
use Rattle.sdb_base.specs.declared.numbers.KeepFault.TheVariants.{OutOfMemory, Disk, Stopped, ValueTooLong, IndexFull, TierFull, Damaged, NumbersEnd}
use Rattle.sdb_model.specs.Clear.{Clear}
use Rattle.sdb_script.specs.declared.Line.TheVariants as lines
use Rattle.sdb_script.specs.declared.LineReply.TheVariants as replies
use Rattle.sdb_script.specs.declared.Stage.{Stage}
use Rattle.sdb_script.specs.declared.Stage.TheVariants.{Log, Flush, Enact, Clean, Grow}
use Rattle.pdb_disk.specs.Files.{Files}
use Rattle.pdb_pipe.specs.Faults.{CannotBePlanned, EndsLog, IsAtLastGate, IsDue, IsNoDamage, IsStoppedBy}
use Rattle.pdb_pipe.specs.Standing.{StandsFor, pipeline_of}
use Rattle.pdb_pipe.specs.declared.database.Database.{Database}
use Rattle.sdb_serve.specs.BlockCommits.{commits_of}
use Rattle.sdb_serve.specs.Marks.{Reached}
use Rattle.sdb_serve.specs.Runs.{EndsWithin, LogsNext, MeetsEnd}
use Rattle.sdb_serve.specs.Session.{SessionState, answer}
use Rattle.sdb_serve.specs.StageLines.{after_stage, stage_reply}
use Rattle.sdb_serve.specs.inner.Steps.{CountsWhere, call_of, cause_of_keeper}
use Rattle.sdb_serve.specs.inner.Stores.{seen_at}
use Rattle.sdb_serve.specs.declared.blocks.BlockMap.{BlockMap}
use Rattle.sdb_serve.specs.declared.cause.Cause.TheVariants as causes
use Rattle.sdb_serve.specs.declared.outcome.Mark.{Mark}
use Rattle.sdb_serve.proofs.Answering.{stage_line}
use Rattle.sdb_serve.proofs.StepEnds.{EndsIn}
use Rattle.sdb_serve.proofs.StepRoom.{crowds, fills_up}
use Rattle.sdb_serve.proofs.StepStores.{EndsLine}

-- the disk's fault is counted where a run stops for it
pub step_counts : (fault : KeepFault) (before after : ℕ) → ((call : ℕ) → fault ≡ Stopped call → ⊥) → CountsFault (is_disk fault) before after
    → CountsWhere (cause_of_keeper fault ≡ causes.Disk) before after
step_counts OutOfMemory before after running c = (λ e. absurd cc, λ not. c)
step_counts Disk before after running c = (λ e. c, λ not. absurd (not refl))
step_counts (Stopped call) before after running c = absurd (running call refl)
step_counts (ValueTooLong len) before after running c = (λ e. absurd cc, λ not. c)
step_counts (IndexFull column bits chunk) before after running c = (λ e. absurd cc, λ not. c)
step_counts (TierFull column tier) before after running c = (λ e. absurd cc, λ not. c)
step_counts (Damaged file cell) before after running c = (λ e. absurd cc, λ not. c)
step_counts (NumbersEnd which) before after running c = (λ e. absurd cc, λ not. c)

module _ {D : Type 0} (tells : D → Bool) (clock : D → ℕ) (past : D → ℕ → Files) (db : Database D) where
  -- what a stage's fault says
  abbrev Says : Stage → KeepFault → Type 0
  Says stage OutOfMemory = Unit {0}
  Says stage Disk = Unit {0}
  Says stage (Stopped call) = Unit {0}
  Says stage (ValueTooLong len) = ⊥
  Says stage (IndexFull column bits chunk) = (stage ≡ Log) × CannotBePlanned tells clock past db (IndexFull column bits chunk)
  Says stage (TierFull column tier) = (stage ≡ Log) × CannotBePlanned tells clock past db (TierFull column tier)
  Says stage (Damaged file cell) = IsNoDamage tells clock past db (Damaged file cell)
  Says stage (NumbersEnd which) = EndsIn stage which

  of_stop : (stage : Stage) (fault : KeepFault) → IsStoppedBy db fault → Says stage fault
  of_stop stage fault h = subst (λ (f : KeepFault). Says stage f) (sym h.1) tt

  of_log_end : (fault : KeepFault) → EndsLog db fault → Says Log fault
  of_log_end fault (inl h) = subst (λ (f : KeepFault). Says Log f) (sym h.0) refl
  of_log_end fault (inr h) = subst (λ (f : KeepFault). Says Log f) (sym h.0) refl

  of_last_gate : (fault : KeepFault) → IsAtLastGate db fault → Says Clean fault
  of_last_gate fault h = subst (λ (f : KeepFault). Says Clean f) (sym h.0) refl

  of_planning : (fault : KeepFault) → CannotBePlanned tells clock past db fault → Says Log fault
  of_planning OutOfMemory h = tt
  of_planning Disk h = tt
  of_planning (Stopped call) h = tt
  of_planning (ValueTooLong len) h = h.0
  of_planning (IndexFull column bits chunk) h = (refl, h)
  of_planning (TierFull column tier) h = (refl, h)
  of_planning (Damaged file cell) h = h.3
  of_planning (NumbersEnd which) h = absurd h.0

  due_says : (stage : Stage) (fault : KeepFault) → IsDue tells clock past db (call_of stage) fault → Says stage fault
  due_says Log fault (inl h) = of_stop Log fault h
  due_says Log fault (inr (inl h)) = of_log_end fault h
  due_says Log fault (inr (inr h)) = of_planning fault h
  due_says Flush fault h = of_stop Flush fault h
  due_says Enact fault h = of_stop Enact fault h
  due_says Clean fault (inl h) = of_stop Clean fault h
  due_says Clean fault (inr h) = of_last_gate fault h
  due_says Grow fault h = of_stop Grow fault h

  says : (stage : Stage) (fault : KeepFault) → IsCause (IsDue tells clock past db (call_of stage)) fault → Says stage fault
  says stage fault (inl e) = subst (λ (f : KeepFault). Says stage f) (sym e) tt
  says stage fault (inr (inl e)) = subst (λ (f : KeepFault). Says stage f) (sym e) tt
  says stage fault (inr (inr due)) = due_says stage fault due

  module _ (given : D) (a : Reached) (stage : Stage) (disk : Option D) (blocks : Option (BlockMap (Database D))) (marks : List Mark) (begun : a.session.begun ≡ true) (same : pipeline_of db ≡ a.session.pipeline)
      (kept : IsTrue (tells given) → (commits : Commits) × StandsFor tells clock past db commits × (Clear a.session.blocks → commits ≡ commits_of a.session.blocks))
      (waits : stage ≡ Log → a.session.pipeline.numbers.logged < a.session.pipeline.numbers.accepted)
      (ends : EndsWithin (record { left = None; clock = seen_at clock disk blocks; marks = marks }) a) where
    abbrev next : SessionState
    next = record a.session { pipeline = after_stage a.session.pipeline stage }

    in_log : stage ≡ Log → LogsNext a.session (lines.Stage stage)
    in_log is = (ap lines.Stage is, waits is)

    pub step_ends : (fault : KeepFault) → ((call : ℕ) → fault ≡ Stopped call → ⊥) → IsCause (IsDue tells clock past db (call_of stage)) fault
        → ((which : Counter) → EndsIn stage which → fault ≡ NumbersEnd which → MeetsEnd a (lines.Stage stage) which)
        → EndsLine tells clock past given a (lines.Stage stage) (cause_of_keeper fault) disk blocks marks
    step_ends fault running cause meets = by_fault fault running (says stage fault cause) meets
      where
        said : answer a.session (lines.Stage stage) ≡ Some (Some (replies.Stage (stage_reply a.session.pipeline stage)), next)
        said = stage_line a.session stage begun

        by_fault : (fault : KeepFault) → ((call : ℕ) → fault ≡ Stopped call → ⊥) → Says stage fault
            → ((which : Counter) → EndsIn stage which → fault ≡ NumbersEnd which → MeetsEnd a (lines.Stage stage) which)
            → EndsLine tells clock past given a (lines.Stage stage) (cause_of_keeper fault) disk blocks marks
        by_fault OutOfMemory running h meets = (tt, ends, λ e. absurd cc)
        by_fault Disk running h meets = ((_, next, said, tt), ends, λ e. absurd cc)
        by_fault (Stopped call) running h meets = absurd (running call refl)
        by_fault (ValueTooLong len) running h meets = absurd h
        by_fault (IndexFull column bits chunk) running h meets = (
          (_, next, said, (in_log h.0, λ told. let k = kept told in crowds tells clock past db a.session same k.0 k.1 k.2 column bits chunk (waits h.0) h.1)),
          ends,
          λ e. absurd cc,
        )
        by_fault (TierFull column tier) running h meets = (
          (_, next, said, (in_log h.0, λ told. let k = kept told in fills_up tells clock past db a.session same k.0 k.1 k.2 column tier (waits h.0) h.1)),
          ends,
          λ e. absurd cc,
        )
        by_fault (Damaged file cell) running h meets = ((_, next, said, λ told. let k = kept told in h file cell k.0 refl k.1), ends, λ e. absurd cc)
        by_fault (NumbersEnd which) running h meets = ((_, next, said, meets which h refl), ends, λ e. absurd cc)
