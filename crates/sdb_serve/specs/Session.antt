-- What the lines of a script do, one after another.
use Rattle.std.specs.Prelude.{ℕ, ◌+◌, ◌^◌, ◌==◌, not, nat_lt, Bool, true, false, List, [], ◌∷◌, ◌++◌, length, if◌then◌else◌, Option, Some, None, option_and_then}
use Rattle.std.specs.Option.{option_map}
use Rattle.sdb_base.specs.Pipeline.{Pipeline, with_commit}
use Rattle.sdb_base.specs.declared.Block.{Block}
use Rattle.pdb_pipe.specs.Standing.{pipeline_at, same_bases}
use Rattle.sdb_model.specs.Blocks.{state_of}
use Rattle.sdb_model.specs.declared.Refusal.TheVariants.{HasGenesis, NoGenesis}
use Rattle.sdb_model.specs.declared.Reply.{Reply}
use Rattle.sdb_model.specs.declared.Reply.TheVariants.{Refused}
use Rattle.sdb_model.specs.declared.Task.{Task}
use Rattle.sdb_model.specs.declared.Task.TheVariants.{Import, Read, Next, List as Listing, Root}
use Rattle.sdb_script.specs.Grammar.{line_of}
use Rattle.sdb_script.specs.Texts.{reply_text}
use Rattle.sdb_script.specs.declared.Line.{Line}
use Rattle.sdb_script.specs.declared.Line.TheVariants as lines
use Rattle.sdb_script.specs.declared.LineReply.{LineReply}
use Rattle.sdb_script.specs.declared.LineReply.TheVariants as replies
use Rattle.sdb_serve.specs.Jobs.{after_import, import_reply, list_reply, next_reply, read_reply, root_reply}
use Rattle.sdb_serve.specs.StageLines.{after_stage, pipeline_after, stage_reply}

-- what is known after some lines
pub record SessionState : Type 0 where
  -- whether `new` was read
  pub begun : Bool
  -- the pruning window that genesis named; 0 before
  pub window : ℕ
  -- the accepted blocks, newest first
  pub blocks : List Block
  -- the bytes of the lines so far, line feeds included
  pub read : ℕ
  -- how far the commits have come, of which genesis and each accepted import are one; before `new` none was accepted
  pub pipeline : Pipeline

-- no commit was accepted, and both columns have this base
abbrev pub no_commits : ℕ → Pipeline
no_commits base = pipeline_at 0 (same_bases base)

abbrev pub first_session : SessionState
first_session = record { begun = false; window = 0; blocks = []; read = 0; pipeline = no_commits 0 }

-- one job: its reply, and the blocks after it
abbrev pub answer_job : List Block → Task → Reply × List Block
answer_job blocks (Read id key) = (read_reply (state_of blocks id) key, blocks)
answer_job blocks (Next id key) = (next_reply (state_of blocks id) key, blocks)
answer_job blocks (Listing id prefix) = (list_reply (state_of blocks id) prefix, blocks)
answer_job blocks (Root id) = (root_reply (state_of blocks id), blocks)
answer_job blocks (Import b) = let reply = import_reply blocks b in (reply, after_import blocks b reply)

-- A line's reply, and what is known after it; none where the line may not be here: the first line that is neither
-- empty nor a comment is `new`, and no later one is. A job before genesis is refused, and so is a second genesis; a stage line
-- needs no genesis.
unfoldable pub answer : SessionState → Line → Option (Option LineReply × SessionState)
answer s lines.Blank = Some (None, s)
answer s (lines.New base) = if s.begun then None else Some (Some replies.New, record s { begun = true; pipeline = no_commits base })
answer s (lines.Genesis window b) =
    if not s.begun then None
    else if length s.blocks == 0 then Some (Some replies.Genesis, record s { window = window; blocks = b ∷ []; pipeline = with_commit s.pipeline })
    else Some (Some (replies.Refused HasGenesis), s)
answer s (lines.Job task) =
    if not s.begun then None
    else if length s.blocks == 0 then Some (Some (replies.Job (Refused NoGenesis)), s)
    else let a = answer_job s.blocks task in Some (Some (replies.Job a.0), record s { blocks = a.1; pipeline = pipeline_after a.0 s.pipeline })
answer s (lines.Stage stage) =
    if not s.begun then None
    else Some (Some (replies.Stage (stage_reply s.pipeline stage)), record s { pipeline = after_stage s.pipeline stage })

-- the line of a reply, one piece for the sink; no reply has none
abbrev pub reply_lines : Option LineReply → List (List ℕ)
reply_lines None = []
reply_lines (Some reply) = (reply_text reply ++ 10 ∷ []) ∷ []

-- at most so many bytes of a script
abbrev pub most_bytes : ℕ
most_bytes = 2 ^ 40

-- A line's reply lines, one or none, and what is known after it; no answer where it isn't in the grammar, may not
-- be here, or takes the script past its most bytes.
unfoldable pub play_line : SessionState → List ℕ → Option (List (List ℕ) × SessionState)
play_line s text =
    if nat_lt most_bytes (s.read + (length text + 1)) then None
    else option_and_then (λ line. option_map (λ a. (reply_lines a.0, record a.1 { read = s.read + (length text + 1) })) (answer s line))
    (line_of text)

-- the same for lines, one after another
unfoldable pub play_lines : SessionState → List (List ℕ) → Option (List (List ℕ) × SessionState)
play_lines s [] = Some ([], s)
play_lines s (text ∷ texts) = option_and_then (λ a. option_map (λ b. (a.0 ++ b.0, b.1)) (play_lines a.1 texts)) (play_line s text)
