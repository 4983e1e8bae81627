-- How the disk's clock goes on line by line, and the marks of lines.
use Rattle.std.specs.Prelude.{◌≡◌, ◌≤◌, ◌<◌, ℕ, List, [], ◌∷◌, Option, Some, None}
use Rattle.sdb_base.specs.declared.StageAnswer.{StageAnswer}
use Rattle.sdb_base.specs.declared.StageAnswer.TheVariants as answers
use Rattle.sdb_script.specs.declared.LineReply.{LineReply}
use Rattle.sdb_script.specs.declared.LineReply.TheVariants as replies
use Rattle.pdb_log.specs.Tallies.{Tally, no_tally}
use Rattle.pdb_pipe.specs.Stages.{TakesTime, TallyGoes}
use Rattle.sdb_serve.specs.Given.{Given}
use Rattle.sdb_serve.specs.Session.{SessionState, first_session}
use Rattle.sdb_serve.specs.declared.outcome.Mark.{Mark}

-- How the clock goes on at a line that gets this reply: only `new` and the stages write, cut and sync.
abbrev pub ClockGoes : Option LineReply → ℕ → ℕ → Type 0
ClockGoes None before after = after ≡ before
ClockGoes (Some replies.New) before after = before ≤ after
ClockGoes (Some replies.Genesis) before after = after ≡ before
ClockGoes (Some (replies.Job reply)) before after = after ≡ before
ClockGoes (Some (replies.Stage answer)) before after = TakesTime answer before after
ClockGoes (Some (replies.Refused refusal)) before after = after ≡ before

-- the mark of a flush that was answered, at the line of this number
abbrev pub flush_marks : ℕ → StageAnswer → ℕ → ℕ → List Mark
flush_marks line (answers.Logged answer) clock accepted = []
flush_marks line (answers.Flushed n) clock accepted = record { line = line; calls = clock; accepted = accepted; flushed = n } ∷ []
flush_marks line (answers.Enacted answer) clock accepted = []
flush_marks line (answers.Cleaned n) clock accepted = []
flush_marks line (answers.Grown answer) clock accepted = []

-- The marks of the line of this number, by its reply, and by the clock and the accepted commits after it: `new` and each flush get
-- one.
abbrev pub marks_of : ℕ → Option LineReply → ℕ → ℕ → List Mark
marks_of line None clock accepted = []
marks_of line (Some replies.New) clock accepted = record { line = line; calls = clock; accepted = accepted; flushed = 0 } ∷ []
marks_of line (Some replies.Genesis) clock accepted = []
marks_of line (Some (replies.Job reply)) clock accepted = []
marks_of line (Some (replies.Stage answer)) clock accepted = flush_marks line answer clock accepted
marks_of line (Some (replies.Refused refusal)) clock accepted = []

-- What the database's log counts after a line that gets this reply: `new` begins anew, and the stages add to it.
abbrev pub LogGoes : Option LineReply → Tally → Tally → Type 0
LogGoes None t u = u ≡ t
LogGoes (Some replies.New) t u = u ≡ no_tally
LogGoes (Some replies.Genesis) t u = u ≡ t
LogGoes (Some (replies.Job reply)) t u = u ≡ t
LogGoes (Some (replies.Stage answer)) t u = TallyGoes answer t u
LogGoes (Some (replies.Refused refusal)) t u = u ≡ t

-- how far a run has come: what is known, the number of lines, the disk's clock, the marks, and what the database's log counts
pub record Reached : Type 0 where
  pub session : SessionState
  pub lines : ℕ
  pub clock : ℕ
  pub marks : List Mark
  pub tally : Tally

-- nothing was read, and the disk is as it was given
abbrev pub first_reached : Given → Reached
first_reached g = record { session = first_session; lines = 0; clock = g.clock; marks = []; tally = no_tally }

-- The marks are of rising lines, after this one and up to a last one, with clocks that don't fall, from this one up to the one now, and
-- none has more flushed commits than accepted ones.
abbrev pub MarksRise : ℕ → ℕ → ℕ → ℕ → List Mark → Type 0
MarksRise line clock last now [] = (line ≤ last) × (clock ≤ now)
MarksRise line clock last now (m ∷ ms) = (line < m.line) × (clock ≤ m.calls) × (m.flushed ≤ m.accepted) × MarksRise m.line m.calls last now ms
