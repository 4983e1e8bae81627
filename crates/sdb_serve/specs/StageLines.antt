-- What stage lines are answered where no index is ever without room, and what they make of a pipeline.
use Rattle.std.specs.Prelude.{ℕ, ◌≤◌, ◌+◌, ◌-◌, ◌==◌, List, [], ◌∷◌, length, if◌then◌else◌, slice_get, Option, None}
use Rattle.sdb_base.specs.Pipeline.{Pipeline, all_cleaned, all_flushed, one_enacted, with_commit, with_record}
use Rattle.sdb_base.specs.declared.Grown.TheVariants as grown
use Rattle.sdb_base.specs.declared.Logged.{Logged}
use Rattle.sdb_base.specs.declared.Logged.TheVariants as logged
use Rattle.sdb_base.specs.declared.StageAnswer.{StageAnswer}
use Rattle.sdb_base.specs.declared.StageAnswer.TheVariants as answers
use Rattle.sdb_model.specs.declared.Reply.{Reply}
use Rattle.sdb_model.specs.declared.Reply.TheVariants.{Imported, Value, Key, Nothing, Listed, Root, Refused}
use Rattle.sdb_script.specs.declared.Stage.{Stage}
use Rattle.sdb_script.specs.declared.Stage.TheVariants.{Log, Flush, Enact, Clean, Grow}

-- ---- stages

-- what `log` is answered: the number of the commit that is logged next, if one waits
abbrev pub log_reply : Pipeline → Logged
log_reply p = if p.numbers.logged == p.numbers.accepted then logged.Idle else logged.Commit (p.numbers.logged + 1)

-- and what is known after it: that commit has a record
abbrev pub after_log : Pipeline → Pipeline
after_log p = if p.numbers.logged == p.numbers.accepted then p else with_record p (p.numbers.logged + 1)

-- what `enact` is answered: the number of the oldest record that waits, if one is flushed
abbrev pub enact_reply : Pipeline → Option ℕ
enact_reply p = if p.ready == 0 then None else slice_get p.waiting 0

-- the first of these records is enacted
abbrev pub after_enacting : Pipeline → List ℕ → Pipeline
after_enacting p [] = p
after_enacting p (n ∷ rest) = one_enacted p n rest (p.ready - 1)

-- and what is known after `enact`: that record waits no longer
abbrev pub after_enact : Pipeline → Pipeline
after_enact p = if p.ready == 0 then p else after_enacting p p.waiting

-- what a stage line is answered
unfoldable pub stage_reply : Pipeline → Stage → StageAnswer
stage_reply p Log = answers.Logged (log_reply p)
stage_reply p Flush = answers.Flushed p.numbers.logged
stage_reply p Enact = answers.Enacted (enact_reply p)
stage_reply p Clean = answers.Cleaned p.numbers.enacted
stage_reply p Grow = answers.Grown grown.Idle

-- how far commits have come after a stage line
unfoldable pub after_stage : Pipeline → Stage → Pipeline
after_stage p Log = after_log p
after_stage p Flush = all_flushed p
after_stage p Enact = after_enact p
after_stage p Clean = all_cleaned p
after_stage p Grow = p

-- the stage that gives this answer
abbrev pub stage_answered : StageAnswer → Stage
stage_answered (answers.Logged answer) = Log
stage_answered (answers.Flushed n) = Flush
stage_answered (answers.Enacted answer) = Enact
stage_answered (answers.Cleaned n) = Clean
stage_answered (answers.Grown answer) = Grow

-- No more records are flushed than wait, and no more commits logged than were accepted.
pub record IsInOrder (p : Pipeline) : Type 0 where
  pub flushed : p.ready ≤ length p.waiting
  pub logged : p.numbers.logged ≤ p.numbers.accepted

-- ---- jobs

-- how far commits have come after that reply to a job: an import that is accepted is one commit more
abbrev pub pipeline_after : Reply → Pipeline → Pipeline
pipeline_after (Imported n) p = with_commit p
pipeline_after (Value value) p = p
pipeline_after (Key key) p = p
pipeline_after Nothing p = p
pipeline_after (Listed keys) p = p
pipeline_after (Root root) p = p
pipeline_after (Refused refusal) p = p
