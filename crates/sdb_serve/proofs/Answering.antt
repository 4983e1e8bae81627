-- What each kind of line is answered, by what is known before it.
use Rattle.std.proofs.Common.{◌≡◌, ◌≢◌, ℕ, ◌+◌, ◌<◌, ◌≤◌, ◌==◌, true, false, List, [], ◌∷◌, length, refl, sym, ◌∙◌, arith, inl, inr, Option, Some, None}
use Rattle.std.proofs.lemmas.Bool.{cases_lt, le-ltb, lt-ltb, ne_eqb}
use Rattle.sdb_base.specs.Pipeline.{with_commit}
use Rattle.sdb_base.specs.declared.Block.{Block}
use Rattle.sdb_model.specs.declared.Refusal.TheVariants.{HasGenesis, NoGenesis}
use Rattle.sdb_model.specs.declared.Reply.{Reply}
use Rattle.sdb_model.specs.declared.Reply.TheVariants.{Refused}
use Rattle.sdb_model.specs.declared.Task.{Task}
use Rattle.sdb_script.specs.Grammar.{line_of}
use Rattle.sdb_script.specs.declared.Line.{Line}
use Rattle.sdb_script.specs.declared.Line.TheVariants as lines
use Rattle.sdb_script.specs.declared.LineReply.{LineReply}
use Rattle.sdb_script.specs.declared.LineReply.TheVariants as replies
use Rattle.sdb_script.specs.declared.Stage.{Stage}
use Rattle.sdb_serve.specs.inner.Pieces.{as_piece}
use Rattle.sdb_serve.specs.Session.{SessionState, answer, answer_job, most_bytes, no_commits, play_line, reply_lines}
use Rattle.sdb_serve.specs.StageLines.{after_stage, pipeline_after, stage_reply}

pub blank : (s : SessionState) → answer s lines.Blank ≡ Some (None, s)
unfolding answer
blank s = refl

pub new_first : (s : SessionState) (base : ℕ) → s.begun ≡ false
    → answer s (lines.New base) ≡ Some (Some replies.New, record s { begun = true; pipeline = no_commits base })
unfolding answer
new_first s base e = rw e refl

pub new_again : (s : SessionState) (base : ℕ) → s.begun ≡ true → answer s (lines.New base) ≡ None
unfolding answer
new_again s base e = rw e refl

pub genesis_first : (s : SessionState) (window : ℕ) (b : Block) → s.begun ≡ true → s.blocks ≡ []
    → answer s (lines.Genesis window b) ≡ Some (Some replies.Genesis, record s { window = window; blocks = b ∷ []; pipeline = with_commit s.pipeline })
unfolding answer
genesis_first s window b e f = rw (e, f) refl

pub genesis_early : (s : SessionState) (window : ℕ) (b : Block) → s.begun ≡ false → answer s (lines.Genesis window b) ≡ None
unfolding answer
genesis_early s window b e = rw e refl

some_blocks : (blocks : List Block) → blocks ≢ [] → (length blocks == 0) ≡ false
some_blocks [] h = absurd (h refl)
some_blocks (b ∷ bs) h = ne_eqb _ 0 (λ e. absurd (omega (arith, e)))

pub genesis_again : (s : SessionState) (window : ℕ) (b : Block) → s.begun ≡ true → s.blocks ≢ []
    → answer s (lines.Genesis window b) ≡ Some (Some (replies.Refused HasGenesis), s)
unfolding answer
genesis_again s window b e h = rw (e, some_blocks s.blocks h) refl

pub job_early : (s : SessionState) (task : Task) → s.begun ≡ false → answer s (lines.Job task) ≡ None
unfolding answer
job_early s task e = rw e refl

pub job_without_genesis : (s : SessionState) (task : Task) → s.begun ≡ true → s.blocks ≡ []
    → answer s (lines.Job task) ≡ Some (Some (replies.Job (Refused NoGenesis)), s)
unfolding answer
job_without_genesis s task e f = rw (e, f) refl

pub job_is : (s : SessionState) (task : Task) (reply : Reply) → s.begun ≡ true → s.blocks ≢ [] → reply ≡ (answer_job s.blocks task).0
    → answer s (lines.Job task)
    ≡ Some (Some (replies.Job reply), record s { blocks = (answer_job s.blocks task).1; pipeline = pipeline_after (answer_job s.blocks task).0 s.pipeline })
unfolding answer
job_is s task reply e h f = rw (e, some_blocks s.blocks h, f) refl

pub stage_early : (s : SessionState) (stage : Stage) → s.begun ≡ false → answer s (lines.Stage stage) ≡ None
unfolding answer
stage_early s stage e = rw e refl

pub stage_line : (s : SessionState) (stage : Stage) → s.begun ≡ true
    → answer s (lines.Stage stage) ≡ Some (Some (replies.Stage (stage_reply s.pipeline stage)), record s { pipeline = after_stage s.pipeline stage })
unfolding answer
stage_line s stage e = rw e refl

-- ---- a line's text

pub too_far : (s : SessionState) (text : List ℕ) → most_bytes < s.read + (length text + 1) → play_line s text ≡ None
unfolding play_line
too_far s text h = rw (lt-ltb _ _ h) refl

pub no_line : (s : SessionState) (text : List ℕ) → line_of text ≡ None → play_line s text ≡ None
unfolding play_line
no_line s text e = elim (cases_lt most_bytes (s.read + (length text + 1))) [
  | inl lt ↦ rw (lt-ltb _ _ lt) refl
  | inr le ↦ rw (le-ltb _ _ le, e) refl
]

pub not_answered : (s : SessionState) (text : List ℕ) (line : Line) → line_of text ≡ Some line → answer s line ≡ None → play_line s text ≡ None
unfolding play_line
not_answered s text line e f = elim (cases_lt most_bytes (s.read + (length text + 1))) [
  | inl lt ↦ rw (lt-ltb _ _ lt) refl
  | inr le ↦ rw (le-ltb _ _ le, e, f) refl
]

pub line_is : (s : SessionState) (text : List ℕ) (line : Line) (reply : Option LineReply) (next : SessionState) → s.read + (length text + 1) ≤ most_bytes
    → line_of text ≡ Some line → answer s line ≡ Some (reply, next)
    → play_line s text ≡ Some (reply_lines reply, record next { read = s.read + (length text + 1) })
unfolding play_line
line_is s text line reply next le e f = rw (le-ltb _ _ le, e, f) refl

-- ---- tests

pub no_test : false ≡ true → ⊥
no_test e = cc

pub no_items : {X : Type 0} (xs : List X) → (length xs == 0) ≡ true → xs ≡ []
no_items [] e = refl
no_items (x ∷ xs) e = absurd (no_test (sym (ne_eqb (length (x ∷ xs)) 0 (λ h. absurd (omega (arith, h)))) ∙ e))

pub nothing_in : {X : Type 0} (xs : List X) → length xs ≡ 0 → xs ≡ []
nothing_in [] e = refl
nothing_in (x ∷ xs) e = absurd (omega (arith, e))

-- ---- pieces

pub no_piece : (text : List ℕ) → (length text == 0) ≡ true → as_piece text ≡ []
no_piece [] e = refl
no_piece (b ∷ bs) e = absurd (no_test (sym (ne_eqb (length (b ∷ bs)) 0 (λ h. absurd (omega (arith, h)))) ∙ e))

pub some_piece : (text : List ℕ) → (length text == 0) ≡ false → as_piece text ≡ text ∷ []
some_piece [] e = absurd cc
some_piece (b ∷ bs) e = refl
