-- The marks of a run rise.
use Rattle.std.proofs.Common.{◌≡◌, ℕ, ◌<◌, ◌≤◌, Bool, true, false, List, [], ◌∷◌, ◌++◌, Option, Some, None, refl, sym, subst, inl, inr, arith, append-nil}
use Rattle.std.specs.Prelude.{◌⊎◌}
use Rattle.sdb_base.specs.Pipeline.{Pipeline}
use Rattle.sdb_base.specs.declared.Grown.TheVariants as grown
use Rattle.sdb_base.specs.declared.Logged.TheVariants as logged
use Rattle.sdb_base.specs.declared.StageAnswer.{StageAnswer}
use Rattle.sdb_base.specs.declared.StageAnswer.TheVariants as answers
use Rattle.sdb_model.specs.declared.Reply.{Reply}
use Rattle.sdb_script.specs.declared.Line.{Line}
use Rattle.sdb_script.specs.declared.Line.TheVariants as lines
use Rattle.sdb_script.specs.declared.LineReply.{LineReply}
use Rattle.sdb_script.specs.declared.LineReply.TheVariants as replies
use Rattle.sdb_script.specs.declared.Stage.{Stage}
use Rattle.sdb_script.specs.declared.Stage.TheVariants.{Log, Flush, Enact, Clean, Grow}
use Rattle.pdb_pipe.specs.Stages.{TakesTime}
use Rattle.sdb_serve.specs.Given.{Given}
use Rattle.sdb_serve.specs.Marks.{ClockGoes, MarksRise, Reached, flush_marks, marks_of}
use Rattle.sdb_serve.specs.Playing.{MayPlay, MayPlayAll}
use Rattle.sdb_serve.specs.Replies.{MayReply}
use Rattle.sdb_serve.specs.Session.{SessionState, answer, answer_job}
use Rattle.sdb_serve.specs.StageLines.{IsInOrder, after_stage, stage_reply}
use Rattle.sdb_serve.specs.declared.outcome.Mark.{Mark}
use Rattle.sdb_serve.proofs.Answering.{blank, genesis_again, genesis_early, genesis_first, job_early, job_is, job_without_genesis, new_again, new_first, stage_early, stage_line}
use Rattle.sdb_serve.proofs.ClearLines.{Answered, EmptyOrNot, empty_or_not, never, one_answer}
use Rattle.sdb_serve.proofs.ClearRuns.{after_line}
use Rattle.sdb_serve.proofs.InOrder.{line_order}

-- ---- lists of marks

later : (line clock last now far late : ℕ) (ms : List Mark) → last ≤ far → now ≤ late → MarksRise line clock last now ms
    → MarksRise line clock far late ms
later line clock last now far late [] a b rise = (omega (arith, a, rise.0), omega (arith, b, rise.1))
later line clock last now far late (m ∷ ms) a b rise =
    (rise.0, rise.1, rise.2, later m.line m.calls last now far late ms a b rise.3)

one_more : (line clock last now far late : ℕ) (m : Mark) (ms : List Mark) → last < m.line → now ≤ m.calls → m.flushed ≤ m.accepted
    → m.line ≤ far → m.calls ≤ late → MarksRise line clock last now ms → MarksRise line clock far late (ms ++ m ∷ [])
one_more line clock last now far late m [] a b within c d rise =
    (omega (arith, a, rise.0), omega (arith, b, rise.1), within, (c, d))
one_more line clock last now far late m (n ∷ ms) a b within c d rise =
    (rise.0, rise.1, rise.2, one_more n.line n.calls last now far late m ms a b within c d rise.3)

-- ---- the clock

stage_time : (answer : StageAnswer) (before after : ℕ) → TakesTime answer before after → before ≤ after
stage_time (answers.Logged (logged.Commit n)) before after e = omega (arith, e)
stage_time (answers.Logged (logged.Started column bits chunk)) before after e = e
stage_time (answers.Logged (logged.Moved column bits left)) before after e = e
stage_time (answers.Logged logged.Idle) before after e = omega (arith, e)
stage_time (answers.Flushed n) before after e = e
stage_time (answers.Enacted None) before after e = omega (arith, e)
stage_time (answers.Enacted (Some n)) before after e = e
stage_time (answers.Cleaned n) before after e = e
stage_time (answers.Grown (grown.Moved column bits left)) before after e = e
stage_time (answers.Grown grown.Idle) before after e = omega (arith, e)

line_time : (reply : Option LineReply) (before after : ℕ) → ClockGoes reply before after → before ≤ after
line_time None before after e = omega (arith, e)
line_time (Some replies.New) before after e = e
line_time (Some replies.Genesis) before after e = omega (arith, e)
line_time (Some (replies.Job reply)) before after e = omega (arith, e)
line_time (Some (replies.Stage answer)) before after e = stage_time answer before after e
line_time (Some (replies.Refused refusal)) before after e = omega (arith, e)

-- ---- the flushed commits of a reply

-- no more commits are flushed than these
abbrev FlushesWithin : StageAnswer → ℕ → Type 0
FlushesWithin (answers.Logged answer) n = Unit {0}
FlushesWithin (answers.Flushed k) n = k ≤ n
FlushesWithin (answers.Enacted answer) n = Unit {0}
FlushesWithin (answers.Cleaned k) n = Unit {0}
FlushesWithin (answers.Grown answer) n = Unit {0}

abbrev RepliesWithin : Option LineReply → ℕ → Type 0
RepliesWithin None n = Unit {0}
RepliesWithin (Some replies.New) n = Unit {0}
RepliesWithin (Some replies.Genesis) n = Unit {0}
RepliesWithin (Some (replies.Job reply)) n = Unit {0}
RepliesWithin (Some (replies.Stage answer)) n = FlushesWithin answer n
RepliesWithin (Some (replies.Refused refusal)) n = Unit {0}

abbrev AtWithin : Answered → Type 0
AtWithin a = RepliesWithin a.0 a.1.pipeline.numbers.accepted

stage_within : (p : Pipeline) (stage : Stage) → IsInOrder p → FlushesWithin (stage_reply p stage) (after_stage p stage).numbers.accepted
unfolding stage_reply after_stage
stage_within p Log order = tt
stage_within p Flush order = order.logged
stage_within p Enact order = tt
stage_within p Clean order = tt
stage_within p Grow order = tt

so : (x y : Answered) → x ≡ y → AtWithin x → AtWithin y
so x y e within = subst AtWithin e within

model_within : (s : SessionState) (line : Line) (a : Answered) (begun : Bool) → s.begun ≡ begun → EmptyOrNot s.blocks
    → answer s line ≡ Some a → IsInOrder s.pipeline → AtWithin a
model_within s lines.Blank a begun b none e order = so _ a (one_answer s _ _ a (blank s) e) tt
model_within s (lines.New base) a true b none e order = absurd (never s _ a (new_again s base b) e)
model_within s (lines.New base) a false b none e order = so _ a (one_answer s _ _ a (new_first s base b) e) tt
model_within s (lines.Genesis window block) a false b none e order = absurd (never s _ a (genesis_early s window block b) e)
model_within s (lines.Genesis window block) a true b (inl none) e order =
    so _ a (one_answer s _ _ a (genesis_first s window block b none) e) tt
model_within s (lines.Genesis window block) a true b (inr some) e order =
    so _ a (one_answer s _ _ a (genesis_again s window block b some) e) tt
model_within s (lines.Job task) a false b none e order = absurd (never s _ a (job_early s task b) e)
model_within s (lines.Job task) a true b (inl none) e order = so _ a (one_answer s _ _ a (job_without_genesis s task b none) e) tt
model_within s (lines.Job task) a true b (inr some) e order =
    so _ a (one_answer s _ _ a (job_is s task (answer_job s.blocks task).0 b some refl) e) tt
model_within s (lines.Stage stage) a false b none e order = absurd (never s _ a (stage_early s stage b) e)
model_within s (lines.Stage stage) a true b none e order =
    so _ a (one_answer s _ _ a (stage_line s stage b) e) (stage_within s.pipeline stage order)

-- a reply is the model's, or that of a job
same_or_job : (g : Given) (s : SessionState) (line : Line) (model reply : Option LineReply) → MayReply g s line model reply
    → (reply ≡ model) ⊎ ((said : Reply) × (reply ≡ Some (replies.Job said)))
same_or_job g s (lines.Job task) (Some (replies.Job model)) reply may = inr (may.0, may.1)
same_or_job g s (lines.New base) model reply may = inl may.0
same_or_job g s (lines.Stage stage) (Some (replies.Stage model)) reply may = inl may.0
same_or_job g s line model reply may = inl may

reply_within : (g : Given) (s : SessionState) (line : Line) (model reply : Option LineReply) (n : ℕ) → MayReply g s line model reply
    → RepliesWithin model n → RepliesWithin reply n
reply_within g s line model reply n may within = elim (same_or_job g s line model reply may) [
  | inl same ↦ subst (λ (r : Option LineReply). RepliesWithin r n) (sym same) within
  | inr job ↦ subst (λ (r : Option LineReply). RepliesWithin r n) (sym job.1) tt
]

-- ---- a line's marks

-- where a line stands and what is known after it
module _ (line clock last now far late accepted : ℕ) (next : last < far) (time : now ≤ late) (ms : List Mark)
    (rise : MarksRise line clock last now ms) where
  none_more : MarksRise line clock far late (ms ++ [])
  none_more = rw (append-nil ms) (later line clock last now far late ms (omega arith) time rise)

  flush_more : (answer : StageAnswer) → FlushesWithin answer accepted
      → MarksRise line clock far late (ms ++ flush_marks far answer late accepted)
  flush_more (answers.Flushed n) within = one_more line clock last now far late _ ms next time within (omega arith) (omega arith) rise
  flush_more answer within = none_more

  line_more : (reply : Option LineReply) → RepliesWithin reply accepted
      → MarksRise line clock far late (ms ++ marks_of far reply late accepted)
  line_more (Some replies.New) within = one_more line clock last now far late _ ms next time (omega arith) (omega arith) (omega arith) rise
  line_more (Some (replies.Stage answer)) within = flush_more answer within
  line_more reply within = none_more

line_marks : (g : Given) (line clock : ℕ) (a : Reached) (text : List ℕ) (said : List (List ℕ)) (b : Reached) → MayPlay g a text said b
    → IsInOrder a.session.pipeline → MarksRise line clock a.lines a.clock a.marks → MarksRise line clock b.lines b.clock b.marks
line_marks g line clock a text said b play order rise =
    let s = a.session in
    let accepted = b.session.pipeline.numbers.accepted in
    let known = after_line g a text said b play in
    let model = model_within s play.line (play.model, play.answered.0) s.begun refl (empty_or_not s.blocks) play.answered.1 order in
    let reply = reply_within g s play.line play.model play.reply _ play.may model in
    let within : RepliesWithin play.reply accepted =
    subst (λ (t : SessionState). RepliesWithin play.reply t.pipeline.numbers.accepted) (sym known) reply in
    let time = line_time play.reply a.clock b.clock play.time in
    let next : a.lines < b.lines = omega (arith, play.one_line) in
    rw play.marked (line_more line clock a.lines a.clock b.lines b.clock accepted next time a.marks rise play.reply within)

pub lines_marks : (g : Given) (line clock : ℕ) (a : Reached) (texts said : List (List ℕ)) (b : Reached) → MayPlayAll g a texts said b
    → IsInOrder a.session.pipeline → MarksRise line clock a.lines a.clock a.marks → MarksRise line clock b.lines b.clock b.marks
lines_marks g line clock a [] said b play order rise =
    subst (λ (t : Reached). MarksRise line clock t.lines t.clock t.marks) (sym play.1) rise
lines_marks g line clock a (text ∷ texts) said b play order rise =
    lines_marks g line clock play.2 texts play.1 b play.4 (line_order g a text play.0 play.2 play.3 order)
    (line_marks g line clock a text play.0 play.2 play.3 order rise)
