-- A commit that is logged had room, and its step is one of the pipeline.
use Rattle.std.proofs.Common.{◌≡◌, ℕ, Bool, true, Option, None, Some, Result, Ok, Err, ap, subst}
use Rattle.std.specs.Prelude.{IfOk, if◌then◌else◌}
use Rattle.sdb_base.specs.Pipeline.{Pipeline, StepsUncrowded}
use Rattle.sdb_base.specs.declared.numbers.KeepFault.{KeepFault}
use Rattle.sdb_base.specs.declared.numbers.Logged.{Logged}
use Rattle.sdb_base.specs.declared.numbers.Logged.TheVariants.{Commit, Idle, Moved, Started}
use Rattle.sdb_base.specs.declared.numbers.StageAnswer.TheVariants as stages
use Rattle.pdb_cells.specs.Content.{Content}
use Rattle.pdb_disk.specs.Files.{Files}
use Rattle.pdb_log.specs.Tallies.{Tally}
use Rattle.pdb_redo.specs.Tallies.{IsRedoTally}
use Rattle.pdb_pipe.specs.Faults.{StopsWith}
use Rattle.pdb_pipe.specs.Stages.{HadRoom, NextHasRoom, TakesStep, TakesTime, TallyGoes}
use Rattle.pdb_pipe.specs.Standing.{pipeline_of}
use Rattle.pdb_pipe.specs.declared.database.Database.{Database}

-- cells that the disk tells are observable
pub seen_told : (b : Bool) (cells : Content) → b ≡ true → ◌≡◌ {A = Option Content} (if b then Some cells else None) (Some cells)
seen_told b cells e = ap (λ (t : Bool). if t then Some cells else None) e

module _ {D : Type 0} (tells : D → Bool) (clock : D → ℕ) (past : D → ℕ → Files) (old new : Database D) (before : Pipeline) (now : ℕ)
    (same : before ≡ pipeline_of old) (time : now ≡ clock old.redo.log.disk) where
  -- by what is known of it after the reads, when it was that pipeline and the disk's clock stood there
  abbrev StepsAfterReads : Logged → Type 0
  StepsAfterReads a = StepsUncrowded before (stages.Logged a) (pipeline_of new) × TakesTime (stages.Logged a) now (clock new.redo.log.disk)

  -- how what is counted goes on at an answer
  abbrev Counts : Logged → Tally → Type 0
  Counts a t = (u : Tally) × TallyGoes (stages.Logged a) t u × IsRedoTally new.redo u

  takes_step : (a : Logged) → HadRoom tells clock past old (stages.Logged a) → StepsAfterReads a
      → ((t : Tally) → IsRedoTally old.redo t → Counts a t) → new.redo.stopped ≡ None
      → TakesStep tells clock past old (stages.Logged a) new
  takes_step a room is tally running = record {
    step = subst (λ (p : Pipeline). StepsUncrowded p (stages.Logged a) (pipeline_of new)) same is.0;
    room = room;
    time = subst (λ (n : ℕ). TakesTime (stages.Logged a) n (clock new.redo.log.disk)) time is.1;
    tally = tally;
    running = running;
  }

  pub steps_logged : (r : Result Logged KeepFault) → NextHasRoom tells clock past old
      → IfOk r (λ a. StepsUncrowded before (stages.Logged a) (pipeline_of new))
      → IfOk r (λ a. TakesTime (stages.Logged a) now (clock new.redo.log.disk))
      → ((t : Tally) → IsRedoTally old.redo t → IfOk r (λ a. Counts a t)) → StopsWith (clock new.redo.log.disk) new.redo.stopped r
      → IfOk r (λ a. TakesStep tells clock past old (stages.Logged a) new)
  steps_logged (Ok (Commit n)) room h after tally running = takes_step (Commit n) room (h, after) tally running
  steps_logged (Ok (Started column bits chunk)) room h after tally running = absurd h
  steps_logged (Ok (Moved column bits left)) room h after tally running = absurd h
  steps_logged (Ok Idle) room h after tally running = takes_step Idle tt (h, after) tally running
  steps_logged (Err e) room h after tally running = tt
