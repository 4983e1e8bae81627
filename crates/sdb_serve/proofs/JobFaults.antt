-- Where a job's fault comes from a database that wasn't stopped.
use Rattle.std.proofs.Common.{◌≡◌, ◌⊎◌, ℕ, Bool, Option, Some, None, Err, IsErrOf, IsTrue, inl, inr, refl, sym, ap, ◌∙◌}
use Rattle.sdb_io.specs.Faults.{CountsFault}
use Rattle.sdb_base.specs.Keeping.{Commits, is_disk}
use Rattle.sdb_base.specs.Pipeline.{Pipeline}
use Rattle.sdb_base.specs.declared.numbers.KeeperCall.TheVariants as calls
use Rattle.sdb_base.specs.declared.numbers.KeepFault.{KeepFault}
use Rattle.sdb_base.specs.declared.numbers.KeepFault.TheVariants as keeper
use Rattle.sdb_model.specs.Clear.{Clear}
use Rattle.sdb_script.specs.declared.Line.{Line}
use Rattle.sdb_script.specs.declared.LineReply.{LineReply}
use Rattle.pdb_disk.specs.Files.{Files}
use Rattle.pdb_pipe.specs.Faults.{IsDue}
use Rattle.pdb_pipe.specs.Standing.{StandsFor, pipeline_of}
use Rattle.pdb_pipe.specs.declared.database.Database.{Database}
use Rattle.sdb_serve.specs.Marks.{Reached}
use Rattle.sdb_serve.specs.Session.{SessionState, answer}
use Rattle.sdb_serve.specs.inner.Kept.{IsKeeperCause, MeetsNoBadNode, is_of_disk}
use Rattle.sdb_serve.specs.inner.Steps.{CountsWhere, LineFails, cause_of_job, cause_of_keeper}
use Rattle.sdb_serve.specs.declared.nodes.NodeFault.{NodeFault}
use Rattle.sdb_serve.specs.declared.nodes.NodeFault.TheVariants as nodes
use Rattle.sdb_serve.specs.declared.cause.Cause.{Cause}
use Rattle.sdb_serve.specs.declared.cause.Cause.TheVariants as causes

module _ {D : Type 0} (tells : D → Bool) (clock : D → ℕ) (past : D → ℕ → Files) (db : Database D) where
  -- what may be due for a look-up of a node, and for a commit
  abbrev pub IsDueInJob : KeepFault → Type 0
  IsDueInJob fault = IsDue tells clock past db calls.Node fault ⊎ IsDue tells clock past db calls.Commit fault

  -- what is due for a commit alone
  pub due_in_commit : (fault : NodeFault) → IsKeeperCause (IsDue tells clock past db calls.Commit) fault → IsKeeperCause IsDueInJob fault
  due_in_commit nodes.OutOfMemory h = tt
  due_in_commit (nodes.BadNode hash) h = tt
  due_in_commit (nodes.Keep fault) (inl e) = inl e
  due_in_commit (nodes.Keep fault) (inr d) = inr (inr d)

  -- ---- the disk's count

  module _ (T : Type 0) (before after : ℕ) (running : db.redo.stopped ≡ None) where
    abbrev Counts : Cause → Type 0
    Counts cause = CountsWhere (IsErrOf {T = T} {E = Cause} (Err cause) causes.Disk) before after

    counts_keeper : (fault : KeepFault) → (fault ≡ keeper.Disk) ⊎ IsDueInJob fault → CountsFault (is_disk fault) before after
        → Counts (cause_of_keeper fault)
    counts_keeper fault (inl e) = rw e (λ counted. (λ _. counted, λ no. absurd (no refl)))
    counts_keeper fault (inr (inl d)) = rw d.0.2 (λ counted. (λ e. absurd cc, λ _. counted))
    counts_keeper fault (inr (inr (inl st))) = absurd (cc (st.2, running))
    counts_keeper fault (inr (inr (inr end))) = rw end.0 (λ counted. (λ e. absurd cc, λ _. counted))

    counts_fault : (fault : NodeFault) → IsKeeperCause IsDueInJob fault → CountsFault (is_of_disk fault) before after
        → Counts (cause_of_job fault)
    counts_fault nodes.OutOfMemory why counted = (λ e. absurd cc, λ _. counted)
    counts_fault (nodes.BadNode hash) why counted = (λ e. absurd cc, λ _. counted)
    counts_fault (nodes.Keep fault) why counted = counts_keeper fault why counted

    pub counts_job : (fault : NodeFault) (cause : Cause) → cause ≡ cause_of_job fault → IsKeeperCause IsDueInJob fault
        → CountsFault (is_of_disk fault) before after → CountsWhere (IsErrOf {T = T} {E = Cause} (Err cause) causes.Disk) before after
    counts_job fault cause is why counted = rw is (counts_fault fault why counted)

  -- ---- the cause

  module _ (given : D) (a : Reached) (line : Line) (model : Option LineReply) (next : SessionState)
      (answered : answer a.session line ≡ Some (model, next)) (pipeline : pipeline_of db ≡ a.session.pipeline)
      (stands : IsTrue (tells given) → (commits : Commits) × StandsFor tells clock past db commits) where
    keeper_fails : (fault : KeepFault) → (fault ≡ keeper.Disk) ⊎ IsDueInJob fault
        → LineFails tells clock past given a line (cause_of_keeper fault)
    keeper_fails fault (inl e) = rw e (model, next, answered, tt)
    keeper_fails fault (inr (inl d)) = rw d.0.2 (model, next, answered, λ told. let k = stands told in d.1 d.0.0 d.0.1 k.0 d.0.2 k.1)
    keeper_fails fault (inr (inr (inl st))) = rw st.1 (model, next, answered, tt)
    keeper_fails fault (inr (inr (inr end))) =
        rw end.0 (model, next, answered, sym (ap (λ (p : Pipeline). p.numbers.accepted) pipeline) ∙ end.1)

    pub job_fails : (fault : NodeFault) → IsKeeperCause IsDueInJob fault → (IsTrue (tells given) → Clear next.blocks → MeetsNoBadNode fault)
        → LineFails tells clock past given a line (cause_of_job fault)
    job_fails nodes.OutOfMemory why sound = tt
    job_fails (nodes.BadNode hash) why sound = (model, next, answered, sound)
    job_fails (nodes.Keep fault) why sound = keeper_fails fault why
