-- What a stage's line makes of a session.
use Rattle.std.proofs.Common.{◌≡◌, ◌≤◌, ◌<◌, ℕ, Bool, Option, None, Some, refl, sym, ap, subst, ◌∙◌, arith}
use Rattle.std.specs.Prelude.{IsTrue}
use Rattle.sdb_base.specs.Keeping.{Commits, IsCause}
use Rattle.sdb_base.specs.Pipeline.{Pipeline}
use Rattle.sdb_base.specs.declared.numbers.KeeperCall.TheVariants as calls
use Rattle.sdb_base.specs.declared.numbers.KeepFault.{KeepFault}
use Rattle.sdb_base.specs.declared.numbers.KeepFault.TheVariants.{Stopped}
use Rattle.sdb_base.specs.declared.numbers.StageAnswer.{StageAnswer}
use Rattle.sdb_script.specs.declared.Line.TheVariants as lines
use Rattle.sdb_script.specs.declared.Stage.{Stage}
use Rattle.sdb_script.specs.declared.Stage.TheVariants.{Log, Clean}
use Rattle.pdb_disk.specs.Files.{Files}
use Rattle.pdb_redo.specs.Tallies.{IsRedoTally}
use Rattle.pdb_pipe.specs.Faults.{IsDue}
use Rattle.pdb_pipe.specs.Stages.{TakesStep, TakesTime}
use Rattle.pdb_pipe.specs.Standing.{StandsFor, pipeline_of}
use Rattle.pdb_pipe.specs.declared.database.Database.{Database}
use Rattle.sdb_serve.specs.Marks.{Reached}
use Rattle.sdb_serve.specs.Session.{SessionState}
use Rattle.sdb_serve.specs.StageLines.{after_stage, stage_answered, stage_reply}
use Rattle.sdb_serve.specs.inner.Blocks.{IsSameMap, KeepsBlocks, RepresentsBlocks}
use Rattle.sdb_serve.specs.inner.Steps.{StageTaken, call_of, cause_of_keeper}
use Rattle.sdb_serve.specs.inner.Stores.{HoldsStore, HoldsTally, Represents}
use Rattle.sdb_serve.specs.declared.blocks.BlockMap.{BlockMap}
use Rattle.sdb_serve.specs.declared.session.Session.{Session}
use Rattle.sdb_serve.proofs.Keeping.{keeps_same, represents_same}
use Rattle.sdb_serve.proofs.StageSteps.{step_of}
use Rattle.sdb_serve.proofs.StepEnds.{meets}
use Rattle.sdb_serve.proofs.StepFaults.{step_ends}
use Rattle.sdb_serve.proofs.StepRoom.{logged_fits}
use Rattle.sdb_serve.proofs.StepStores.{Begun, EndsLine, begun_holds, seen_in}

module _ {D : Type 0} (tells : D → Bool) (clock : D → ℕ) (past : D → ℕ → Files) (given : D) where
  abbrev Stands : Database D → Commits → Type 0
  Stands db commits = StandsFor tells clock past db commits

  -- what the log of a session's database counts
  tally_in : (a : Reached) (p : Session D) (m : BlockMap (Database D)) → HoldsTally p.blocks a.tally → p.blocks ≡ Some m → IsRedoTally m.keeper.redo a.tally
  tally_in a p m h some = subst (λ (x : Option (BlockMap (Database D))). HoldsTally x a.tally) some h

  module _ (a : Reached) (stage : Stage) (p q : Session D) (m n : BlockMap (Database D)) (h : Represents tells clock past given p a) (some : p.blocks ≡ Some m)
      (same_disk : q.disk ≡ p.disk) (now : q.blocks ≡ Some n) (marks : q.marks.items ≡ p.marks.items) where
    -- what is known after the line
    abbrev after : SessionState
    after = record a.session { pipeline = after_stage a.session.pipeline stage }

    abbrev same_map : IsSameMap m (record m { keeper = n.keeper })
    same_map = record { entries = λ id. refl; levels = refl }

    holds : Begun tells clock past given p.disk m a.session
    holds = begun_holds tells clock past given p.disk p.blocks m a.session h.store some

    time_was : clock m.keeper.redo.log.disk ≡ a.clock
    time_was = sym (seen_in clock p.disk p.blocks m some) ∙ h.time

    kept_after : n ≡ record m { keeper = n.keeper } → ((commits : Commits) → Stands m.keeper commits → Stands n.keeper commits)
        → IsTrue (tells given) → (commits : Commits) × KeepsBlocks Stands n a.session.blocks commits
    kept_after map stands told =
        let k = holds.2.kept told in (
          k.0,
          subst (λ (x : BlockMap (Database D)). KeepsBlocks Stands x a.session.blocks k.0) (sym map)
              (keeps_same Stands m (record m { keeper = n.keeper }) a.session.blocks k.0 same_map (stands k.0) k.1),
        )

    pub taken : (answer : StageAnswer) → q.window ≡ p.window → q.read ≡ p.read → q.lines ≡ p.lines → n ≡ record m { keeper = n.keeper }
        → stage_answered answer ≡ stage → TakesStep tells clock past m.keeper answer n.keeper
        → ((commits : Commits) → Stands m.keeper commits → Stands n.keeper commits) → StageTaken tells clock past given a stage answer q
    taken answer window read count map of_stage step stands =
        let is = step_of (pipeline_of m.keeper) (pipeline_of n.keeper) stage answer of_stage step.step in
        let went = step.tally a.tally (tally_in a p m h.tally some) in
        record {
          is = is.0 ∙ ap (λ (x : Pipeline). stage_reply x stage) holds.2.pipeline;
          fits = λ told clear. let k = holds.2.kept told in
              logged_fits tells clock past m.keeper a.session holds.2.pipeline k.0 k.1.keeper answer (let states = k.1.states clear in states.commits_are) step.room;
          begun = holds.1;
          now = clock n.keeper.redo.log.disk;
          time = subst (λ (t : ℕ). TakesTime answer t (clock n.keeper.redo.log.disk)) time_was step.time;
          counted = went.0;
          tally = went.1;
          represents = record {
            window = window ∙ h.window;
            read = read ∙ h.read;
            lines = count ∙ h.lines;
            time = seen_in clock q.disk q.blocks n now;
            marks = marks ∙ h.marks;
            tally = subst (λ (x : Option (BlockMap (Database D))). HoldsTally x went.0) (sym now) went.2;
            store = subst (λ (x : Option D). HoldsStore tells clock past given x q.blocks after) (sym (same_disk ∙ holds.0))
                (subst (λ (y : Option (BlockMap (Database D))). HoldsStore tells clock past given None y after) (sym now) (
                  holds.1,
                  record {
                    blocks = subst (λ (x : BlockMap (Database D)). RepresentsBlocks x a.session.blocks) (sym map)
                        (represents_same m (record m { keeper = n.keeper }) a.session.blocks same_map holds.2.blocks);
                    pipeline = is.1 ∙ ap (λ (x : Pipeline). after_stage x stage) holds.2.pipeline;
                    running = step.running;
                    kept = kept_after map stands;
                  },
                ));
          };
        }

  module _ (a : Reached) (stage : Stage) (p : Session D) (m n : BlockMap (Database D)) (h : Represents tells clock past given p a) (some : p.blocks ≡ Some m) where
    before : Begun tells clock past given p.disk m a.session
    before = begun_holds tells clock past given p.disk p.blocks m a.session h.store some

    -- it isn't carried out
    pub not_taken : (fault : KeepFault) → pipeline_of n.keeper ≡ pipeline_of m.keeper → clock m.keeper.redo.log.disk ≤ clock n.keeper.redo.log.disk
        → ((commits : Commits) → Stands m.keeper commits → Stands n.keeper commits)
        → (stage ≡ Log → m.keeper.redo.stopped ≡ None → (pipeline_of m.keeper).numbers.logged < (pipeline_of m.keeper).numbers.accepted)
        → ((call : ℕ) → m.keeper.redo.stopped ≡ None → fault ≡ Stopped call → ⊥) → IsCause (IsDue tells clock past n.keeper (call_of stage)) fault
        → (stage ≡ Log → IsCause (IsDue tells clock past m.keeper calls.Log) fault)
        → (stage ≡ Clean → IsCause (IsDue tells clock past m.keeper calls.Clean) fault)
        → EndsLine tells clock past given a (lines.Stage stage) (cause_of_keeper fault) p.disk (Some n) p.marks.items
    not_taken fault unchanged later stands waits unstopped cause in_log in_clean =
        let was = seen_in clock p.disk p.blocks m some in let time = h.time in let is = seen_in clock p.disk (Some n) n refl in
        let waits_now : (stage ≡ Log → a.session.pipeline.numbers.logged < a.session.pipeline.numbers.accepted) =
        λ log. subst (λ (x : Pipeline). x.numbers.logged < x.numbers.accepted) before.2.pipeline (waits log before.2.running) in
        step_ends tells clock past n.keeper given a stage p.disk (Some n) p.marks.items before.1 (unchanged ∙ before.2.pipeline)
        (λ told. let k = before.2.kept told in (k.0, stands k.0 k.1.keeper, λ clear. let states = k.1.states clear in states.commits_are))
        waits_now
        (omega (arith, was, time, is, later), h.marks) fault (λ call. unstopped call before.2.running) cause
        (meets tells clock past m.keeper a stage before.2.pipeline (tally_in a p m h.tally some) (λ log. (ap lines.Stage log, waits_now log)) fault in_log in_clean)
