-- In a run no more records are flushed than wait, and no more commits logged than were accepted.
use Rattle.std.proofs.Common.{◌≡◌, ◌≢◌, ℕ, ◌+◌, ◌≤◌, ◌==◌, Bool, true, false, cond, List, [], ◌∷◌, length, length-append, Some, refl, sym, ap, subst, inl, inr, arith}
use Rattle.std.proofs.lemmas.Bool.{eqb-false}
use Rattle.sdb_base.specs.Pipeline.{Pipeline, with_record}
use Rattle.sdb_model.specs.declared.Reply.{Reply}
use Rattle.sdb_model.specs.declared.Reply.TheVariants.{Imported, Value, Key, Nothing, Listed, Root, Refused}
use Rattle.sdb_script.specs.declared.Line.{Line}
use Rattle.sdb_script.specs.declared.Line.TheVariants as lines
use Rattle.sdb_script.specs.declared.Stage.{Stage}
use Rattle.sdb_script.specs.declared.Stage.TheVariants.{Log, Flush, Enact, Clean, Grow}
use Rattle.sdb_serve.specs.Given.{Given}
use Rattle.sdb_serve.specs.Marks.{Reached}
use Rattle.sdb_serve.specs.Playing.{MayPlay, MayPlayAll}
use Rattle.sdb_serve.specs.Session.{SessionState, answer, answer_job, no_commits}
use Rattle.sdb_serve.specs.StageLines.{IsInOrder, after_enacting, after_stage, pipeline_after}
use Rattle.sdb_serve.proofs.Answering.{blank, genesis_again, genesis_early, genesis_first, job_early, job_is, job_without_genesis, new_again, new_first, stage_early, stage_line}
use Rattle.sdb_serve.proofs.ClearLines.{Answered, EmptyOrNot, empty_or_not, never, one_answer}
use Rattle.sdb_serve.proofs.ClearRuns.{after_line}

logged_in_order : (p : Pipeline) (none : Bool) → (p.numbers.logged == p.numbers.accepted) ≡ none → IsInOrder p
    → IsInOrder (cond none p (with_record p (p.numbers.logged + 1)))
logged_in_order p true t order = order
logged_in_order p false t order =
    let apart : p.numbers.logged ≢ p.numbers.accepted = eqb-false p.numbers.logged p.numbers.accepted t in
    let more = length-append p.waiting ((p.numbers.logged + 1) ∷ []) in
    record { flushed = omega (arith, more, order.flushed); logged = omega (arith, apart, order.logged) }

enacted_in_order : (p : Pipeline) (waiting : List ℕ) (none : Bool) → p.ready ≤ length waiting → IsInOrder p
    → IsInOrder (cond none p (after_enacting p waiting))
enacted_in_order p waiting true le order = order
enacted_in_order p [] false le order = order
enacted_in_order p (n ∷ rest) false le order = record { flushed = omega (arith, le); logged = order.logged }

stage_in_order : (p : Pipeline) (stage : Stage) → IsInOrder p → IsInOrder (after_stage p stage)
unfolding after_stage
stage_in_order p Log order = logged_in_order p (p.numbers.logged == p.numbers.accepted) refl order
stage_in_order p Flush order = record { flushed = omega arith; logged = order.logged }
stage_in_order p Enact order = enacted_in_order p p.waiting (p.ready == 0) order.flushed order
stage_in_order p Clean order = record { flushed = order.flushed; logged = order.logged }
stage_in_order p Grow order = order

job_in_order : (p : Pipeline) (reply : Reply) → IsInOrder p → IsInOrder (pipeline_after reply p)
job_in_order p (Imported n) order = record { flushed = order.flushed; logged = omega (arith, order.logged) }
job_in_order p (Value value) order = order
job_in_order p (Key key) order = order
job_in_order p Nothing order = order
job_in_order p (Listed keys) order = order
job_in_order p (Root root) order = order
job_in_order p (Refused refusal) order = order

pub none_in_order : (base : ℕ) → IsInOrder (no_commits base)
none_in_order base = record { flushed = omega arith; logged = omega arith }

-- ---- a line

abbrev AtOrder : Answered → Type 0
AtOrder a = IsInOrder a.1.pipeline

there : (x y : Answered) → x ≡ y → AtOrder x → AtOrder y
there x y e order = subst AtOrder e order

line_in_order : (s : SessionState) (line : Line) (a : Answered) (begun : Bool) → s.begun ≡ begun → EmptyOrNot s.blocks
    → answer s line ≡ Some a → IsInOrder s.pipeline → AtOrder a
line_in_order s lines.Blank a begun b none e order = there _ a (one_answer s _ _ a (blank s) e) order
line_in_order s (lines.New base) a true b none e order = absurd (never s _ a (new_again s base b) e)
line_in_order s (lines.New base) a false b none e order = there _ a (one_answer s _ _ a (new_first s base b) e) (none_in_order base)
line_in_order s (lines.Genesis window block) a false b none e order = absurd (never s _ a (genesis_early s window block b) e)
line_in_order s (lines.Genesis window block) a true b (inl none) e order =
    there _ a (one_answer s _ _ a (genesis_first s window block b none) e) (job_in_order s.pipeline (Imported 0) order)
line_in_order s (lines.Genesis window block) a true b (inr some) e order =
    there _ a (one_answer s _ _ a (genesis_again s window block b some) e) order
line_in_order s (lines.Job task) a false b none e order = absurd (never s _ a (job_early s task b) e)
line_in_order s (lines.Job task) a true b (inl none) e order = there _ a (one_answer s _ _ a (job_without_genesis s task b none) e) order
line_in_order s (lines.Job task) a true b (inr some) e order =
    there _ a (one_answer s _ _ a (job_is s task (answer_job s.blocks task).0 b some refl) e)
    (job_in_order s.pipeline (answer_job s.blocks task).0 order)
line_in_order s (lines.Stage stage) a false b none e order = absurd (never s _ a (stage_early s stage b) e)
line_in_order s (lines.Stage stage) a true b none e order =
    there _ a (one_answer s _ _ a (stage_line s stage b) e) (stage_in_order s.pipeline stage order)

pub line_order : (g : Given) (a : Reached) (text : List ℕ) (said : List (List ℕ)) (b : Reached) → MayPlay g a text said b
    → IsInOrder a.session.pipeline → IsInOrder b.session.pipeline
line_order g a text said b play order =
    let s = a.session in
    let pipeline = ap (λ (t : SessionState). t.pipeline) (after_line g a text said b play) in
    let after : IsInOrder play.answered.0.pipeline =
    line_in_order s play.line (play.model, play.answered.0) s.begun refl (empty_or_not s.blocks) play.answered.1 order in
    subst IsInOrder (sym pipeline) after

pub lines_in_order : (g : Given) (a : Reached) (texts said : List (List ℕ)) (b : Reached) → MayPlayAll g a texts said b
    → IsInOrder a.session.pipeline → IsInOrder b.session.pipeline
lines_in_order g a [] said b play order = subst (λ (t : Reached). IsInOrder t.session.pipeline) (sym play.1) order
lines_in_order g a (text ∷ texts) said b play order =
    lines_in_order g play.2 texts play.1 b play.4 (line_order g a text play.0 play.2 play.3 order)
