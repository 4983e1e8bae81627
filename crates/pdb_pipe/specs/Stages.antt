-- What a stage of a database answers.
use Rattle.std.specs.Prelude.{◌≡◌, ◌≤◌, ◌+◌, ℕ, All, Bool, List, length, slice_get, take, Some, None}
use Rattle.sdb_base.specs.Keeping.{Commits}
use Rattle.sdb_base.specs.Pipeline.{StepsUncrowded}
use Rattle.sdb_base.specs.declared.numbers.Grown.TheVariants as grown
use Rattle.sdb_base.specs.declared.numbers.Logged.TheVariants as logged
use Rattle.sdb_base.specs.declared.numbers.StageAnswer.{StageAnswer}
use Rattle.sdb_base.specs.declared.numbers.StageAnswer.TheVariants as stages
use Rattle.sdb_base.specs.declared.op.Op.{Op}
use Rattle.pdb_cells.specs.Puts.{IsWholeCell, NoCellTwice}
use Rattle.pdb_cells.specs.declared.puts.Put.{Put}
use Rattle.pdb_disk.specs.Files.{Files}
use Rattle.pdb_log.specs.Tallies.{Tally, with_bytes, with_gate}
use Rattle.pdb_model.specs.Records.{record_bytes}
use Rattle.pdb_redo.specs.Reaches.{reach_of}
use Rattle.pdb_redo.specs.Tallies.{IsRedoTally}
use Rattle.pdb_pipe.specs.Commits.{contents_of}
use Rattle.pdb_pipe.specs.Planning.{HasRoomFor}
use Rattle.pdb_pipe.specs.Standing.{StandsFor, bases_of, pipeline_of}
use Rattle.pdb_pipe.specs.declared.database.Database.{Database}

-- the commits that are logged, and the next one's operations
abbrev pub logged_of : {D : Type 0} → Database D → Commits → Commits
logged_of db commits = take (reach_of db.redo).logged commits

abbrev pub IsNextCommit : {D : Type 0} → Database D → Commits → List Op → Type 0
IsNextCommit db commits ops = slice_get commits (reach_of db.redo).logged ≡ Some ops

-- no chunk is without room for the next commit
abbrev pub NextHasRoom : {D : Type 0} → (D → Bool) → (D → ℕ) → (D → ℕ → Files) → Database D → Type 0
NextHasRoom tells clock past db = (commits : Commits) (ops : List Op) → StandsFor tells clock past db commits → IsNextCommit db commits ops
    → HasRoomFor (bases_of db) (contents_of (logged_of db commits)) ops

-- a commit that is logged had room
abbrev pub HadRoom : {D : Type 0} → (D → Bool) → (D → ℕ) → (D → ℕ → Files) → Database D → StageAnswer → Type 0
HadRoom tells clock past db (stages.Logged (logged.Commit n)) = NextHasRoom tells clock past db
HadRoom tells clock past db (stages.Logged (logged.Started column bits chunk)) = Unit {0}
HadRoom tells clock past db (stages.Logged (logged.Moved column bits left)) = Unit {0}
HadRoom tells clock past db (stages.Logged logged.Idle) = Unit {0}
HadRoom tells clock past db (stages.Flushed n) = Unit {0}
HadRoom tells clock past db (stages.Enacted n) = Unit {0}
HadRoom tells clock past db (stages.Cleaned n) = Unit {0}
HadRoom tells clock past db (stages.Grown answer) = Unit {0}

-- By how many writes, cuts and syncs the disk's clock rose at a stage's answer, where that is the same for all: by one for a record,
-- and by none where nothing was to be done.
abbrev pub TakesTime : StageAnswer → ℕ → ℕ → Type 0
TakesTime (stages.Logged (logged.Commit n)) before after = after ≡ before + 1
TakesTime (stages.Logged (logged.Started column bits chunk)) before after = before ≤ after
TakesTime (stages.Logged (logged.Moved column bits left)) before after = before ≤ after
TakesTime (stages.Logged logged.Idle) before after = after ≡ before
TakesTime (stages.Flushed n) before after = before ≤ after
TakesTime (stages.Enacted None) before after = after ≡ before
TakesTime (stages.Enacted (Some n)) before after = before ≤ after
TakesTime (stages.Cleaned n) before after = before ≤ after
TakesTime (stages.Grown (grown.Moved column bits left)) before after = before ≤ after
TakesTime (stages.Grown grown.Idle) before after = after ≡ before

-- a record of this number of commits was appended
abbrev pub AppendsRecord : ℕ → Tally → Tally → Type 0
AppendsRecord commits t u = (puts : List Put) × All IsWholeCell puts × NoCellTwice puts
    × (u ≡ with_bytes t (length (record_bytes (record { number = t.records + 1; commits = commits; puts = puts }))))

-- What a stage's answer adds to what is counted: a logged commit one record, a clean one move of the gate at most.
abbrev pub TallyGoes : StageAnswer → Tally → Tally → Type 0
TallyGoes (stages.Logged (logged.Commit n)) t u = AppendsRecord n t u
TallyGoes (stages.Logged (logged.Started column bits chunk)) t u = ⊥
TallyGoes (stages.Logged (logged.Moved column bits left)) t u = ⊥
TallyGoes (stages.Logged logged.Idle) t u = u ≡ t
TallyGoes (stages.Flushed n) t u = u ≡ t
TallyGoes (stages.Enacted n) t u = u ≡ t
TallyGoes (stages.Cleaned n) t u = u ≡ with_gate t
TallyGoes (stages.Grown answer) t u = u ≡ t

-- The stage gave this answer and made the second database of the first: the pipeline took its step, a commit that was logged had
-- room, the clock and what is counted went on, and no call of the disk failed.
pub record TakesStep {D : Type 0} (tells : D → Bool) (clock : D → ℕ) (past : D → ℕ → Files) (old : Database D) (answer : StageAnswer) (new : Database D) : Type 0 where
  pub step : StepsUncrowded (pipeline_of old) answer (pipeline_of new)
  pub room : HadRoom tells clock past old answer
  pub time : TakesTime answer (clock old.redo.log.disk) (clock new.redo.log.disk)
  pub tally : (t : Tally) → IsRedoTally old.redo t → (u : Tally) × TallyGoes answer t u × IsRedoTally new.redo u
  pub running : new.redo.stopped ≡ None
