-- How lines may be played where states are kept as nodes under their hashes, in a database on a disk.
use Rattle.std.specs.Prelude.{◌≡◌, ℕ, ◌+◌, List, [], ◌∷◌, ◌++◌, Option, Some}
use Rattle.sdb_script.specs.Grammar.{line_of}
use Rattle.sdb_script.specs.declared.Line.{Line}
use Rattle.sdb_script.specs.declared.LineReply.{LineReply}
use Rattle.sdb_serve.specs.Given.{Given}
use Rattle.sdb_serve.specs.Marks.{ClockGoes, LogGoes, Reached, marks_of}
use Rattle.sdb_serve.specs.Replies.{MayReply}
use Rattle.sdb_serve.specs.Session.{SessionState, answer, play_line, reply_lines}

-- A line may get these reply lines, one or none, and the run has then come to b: what is known is what the model says, the reply
-- is the model's but for what jobs may be answered where two nodes have one hash, the clock and what the log counts go on
-- as the reply tells, and the line has its mark.
pub record MayPlay (g : Given) (a : Reached) (text : List ℕ) (said : List (List ℕ)) (b : Reached) : Type 0 where
  pub line : Line
  pub model : Option LineReply
  pub reply : Option LineReply
  pub parsed : line_of text ≡ Some line
  pub played : play_line a.session text ≡ Some (reply_lines model, b.session)
  pub answered : (after : SessionState) × (answer a.session line ≡ Some (model, after))
  pub may : MayReply g a.session line model reply
  pub said_is : said ≡ reply_lines reply
  pub one_line : b.lines ≡ a.lines + 1
  pub time : ClockGoes reply a.clock b.clock
  pub tally : LogGoes reply a.tally b.tally
  pub marked : b.marks ≡ a.marks ++ marks_of b.lines reply b.clock b.session.pipeline.numbers.accepted

-- the same for lines, one after another
abbrev pub MayPlayAll : Given → Reached → List (List ℕ) → List (List ℕ) → Reached → Type 0
MayPlayAll g a [] said b = (said ≡ []) × (b ≡ a)
MayPlayAll g a (text ∷ texts) said b = (first : List (List ℕ)) × (rest : List (List ℕ)) × (mid : Reached)
    × MayPlay g a text first mid × MayPlayAll g mid texts rest b × (said ≡ first ++ rest)

-- the model answers a line so
pub record AnswersLine (s : SessionState) (text : List ℕ) (line : Line) (next : SessionState) : Type 0 where
  pub reply : Option LineReply
  pub after : SessionState
  pub parsed : line_of text ≡ Some line
  pub answered : answer s line ≡ Some (reply, after)
  pub played : play_line s text ≡ Some (reply_lines reply, next)
