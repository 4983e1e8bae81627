-- Runs where no two different nodes of the last blocks have one hash: each reply is the model's.
use Rattle.std.proofs.Common.{◌≡◌, ℕ, ◌+◌, Bool, true, false, List, [], ◌∷◌, length, Option, Some, None, IsTrue, refl, sym, ap, subst, ◌∙◌, inl, inr}
use Rattle.std.proofs.lemmas.Bool.{cases_lt}
use Rattle.sdb_model.specs.Clear.{Clear}
use Rattle.sdb_model.specs.declared.Refusal.TheVariants.{NoGenesis}
use Rattle.sdb_model.specs.declared.Reply.{Reply}
use Rattle.sdb_model.specs.declared.Reply.TheVariants.{Refused}
use Rattle.sdb_model.specs.declared.Task.{Task}
use Rattle.sdb_script.specs.declared.Line.{Line}
use Rattle.sdb_script.specs.declared.Line.TheVariants as lines
use Rattle.sdb_script.specs.declared.LineReply.{LineReply}
use Rattle.sdb_script.specs.declared.LineReply.TheVariants as replies
use Rattle.sdb_serve.specs.Given.{Given}
use Rattle.sdb_serve.specs.Marks.{Reached}
use Rattle.sdb_serve.specs.Playing.{MayPlay, MayPlayAll}
use Rattle.sdb_serve.specs.Replies.{IsOfKind, MayReply}
use Rattle.sdb_serve.specs.Session.{SessionState, answer, answer_job, most_bytes, play_line, play_lines, reply_lines}
use Rattle.sdb_serve.proofs.Answering.{job_early, job_is, job_without_genesis, line_is, too_far}
use Rattle.sdb_serve.proofs.ClearLines.{Answered, EmptyOrNot, at_blocks, before_line, empty_or_not, never, one_answer}

of_job : (x y : Reply) → ◌≡◌ {A = Option LineReply} (Some (replies.Job x)) (Some (replies.Job y)) → x ≡ y
of_job x y e = cc

model_reply : (x y : Reply) (s t : SessionState) → ◌≡◌ {A = Answered} (Some (replies.Job x), s) (Some (replies.Job y), t) → x ≡ y
model_reply x y s t e = of_job x y (ap (λ (a : Answered). a.0) e)

-- a job's reply is the model's
job_reply : (s : SessionState) (task : Task) (model said : Reply) (after : SessionState) (begun : Bool) → s.begun ≡ begun
    → EmptyOrNot s.blocks → answer s (lines.Job task) ≡ Some (Some (replies.Job model), after) → IsOfKind task model said
    → (Clear (answer_job s.blocks task).1 → said ≡ model) → Clear after.blocks → said ≡ model
job_reply s task model said after false b none e kind same clear = absurd (never s _ _ (job_early s task b) e)
job_reply s task model said after true b (inl none) e kind same clear =
    let is : Refused NoGenesis ≡ model =
    model_reply (Refused NoGenesis) model s after (one_answer s _ _ _ (job_without_genesis s task b none) e) in
    subst (λ (m : Reply). IsOfKind task m said) (sym is) kind ∙ is
job_reply s task model said after true b (inr some) e kind same clear =
    same (at_blocks _ _ (one_answer s _ _ _ (job_is s task (answer_job s.blocks task).0 b some refl) e) clear)

-- a line's reply is the model's
line_reply : (g : Given) (s : SessionState) (line : Line) (model reply : Option LineReply) (after : SessionState)
    → answer s line ≡ Some (model, after) → MayReply g s line model reply → IsTrue g.told → Clear after.blocks → reply ≡ model
line_reply g s (lines.New base) model reply after e may told clear = may.0
line_reply g s (lines.Stage stage) (Some (replies.Stage model)) reply after e may told clear = may.0
line_reply g s (lines.Job task) (Some (replies.Job model)) reply after e may told clear =
    let same = may.3 told in
    may.1 ∙ ap (λ (r : Reply). Some (replies.Job r))
    (job_reply s task model may.0 after s.begun refl (empty_or_not s.blocks) e may.2 same clear)
line_reply g s line model reply after e may told clear = may

abbrev pub Played : Type 0
Played = List (List ℕ) × SessionState

pub some_played : (x y : Played) → ◌≡◌ {A = Option Played} (Some x) (Some y) → x ≡ y
some_played x y e = cc

pub no_played : (y : Played) → ◌≡◌ {A = Option Played} None (Some y) → ⊥
no_played y e = absurd cc

-- what is known after a line is what is known after its answer, but for the bytes that were read
pub after_line : (g : Given) (a : Reached) (text : List ℕ) (said : List (List ℕ)) (b : Reached) (play : MayPlay g a text said b)
    → b.session ≡ record play.answered.0 { read = a.session.read + (length text + 1) }
after_line g a text said b play = elim (cases_lt most_bytes (a.session.read + (length text + 1))) [
  | inl far ↦ absurd (no_played (reply_lines play.model, b.session) (sym (too_far a.session text far) ∙ play.played))
  | inr near ↦
      let is = line_is a.session text play.line play.model play.answered.0 near play.parsed play.answered.1 in
      ap (λ (p : Played). p.1) (sym (some_played _ (reply_lines play.model, b.session) (sym is ∙ play.played)))
]

-- a line is played as the model plays it, and the blocks before it are clear too
clear_line : (g : Given) (a : Reached) (text : List ℕ) (said : List (List ℕ)) (b : Reached) → MayPlay g a text said b → IsTrue g.told
    → Clear b.session.blocks → (play_line a.session text ≡ Some (said, b.session)) × Clear a.session.blocks
clear_line g a text said b play told clear =
    let s = a.session in
    let blocks = ap (λ (t : SessionState). t.blocks) (after_line g a text said b play) in
    let after : Clear play.answered.0.blocks = subst Clear blocks clear in
    let same : play.reply ≡ play.model =
    line_reply g s play.line play.model play.reply play.answered.0 play.answered.1 play.may told after in (
      play.played ∙ ap (λ (t : List (List ℕ)). Some (t, b.session)) (ap reply_lines (sym same) ∙ sym play.said_is),
      before_line s play.line (play.model, play.answered.0) s.begun refl (empty_or_not s.blocks) play.answered.1 after,
    )

pub clear_lines : (g : Given) (a : Reached) (texts said : List (List ℕ)) (b : Reached) → MayPlayAll g a texts said b → IsTrue g.told
    → Clear b.session.blocks → (play_lines a.session texts ≡ Some (said, b.session)) × Clear a.session.blocks
unfolding play_lines
clear_lines g a [] said b play told clear = (rw (play.0, play.1) refl, subst (λ (t : Reached). Clear t.session.blocks) play.1 clear)
clear_lines g a (text ∷ texts) said b play told clear =
    let rest = clear_lines g play.2 texts play.1 b play.4 told clear in
    let first = clear_line g a text play.0 play.2 play.3 told rest.1 in
    (rw (first.0, rest.0, play.5) refl, first.1)
