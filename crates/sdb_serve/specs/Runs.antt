-- Whole runs of a script: what was read, what was written, and how the run stopped.
use Rattle.std.specs.Prelude.{◌≡◌, ◌≢◌, ◌≤◌, ◌⊎◌, ◌<◌, ◌^◌, ◌-◌, ℕ, ◌+◌, List, [], ◌∷◌, ◌++◌, length, codes, All, Option, Some, None, IsTrue}
use Rattle.std.specs.List.{flat_map}
use Rattle.std.specs.Fmt.{decimal}
use Rattle.hex.specs.Hex.{encode_lower}
use Rattle.sdb_base.specs.declared.Counter.{Counter}
use Rattle.sdb_base.specs.declared.Counter.TheVariants.{Commits, Records, Gates, LogBytes}
use Rattle.sdb_io.specs.Output.{Gets, GetsPrefix, Output}
use Rattle.sdb_model.specs.Clear.{Clear}
use Rattle.sdb_script.specs.Grammar.{most_in_line}
use Rattle.sdb_script.specs.declared.Line.{Line}
use Rattle.sdb_script.specs.declared.Line.TheVariants as lines
use Rattle.sdb_script.specs.declared.Stage.TheVariants.{Log, Clean}
use Rattle.pdb_pipe.specs.Faults.{PassesLog}
use Rattle.pdb_redo.specs.Creating.{HasNoGate}
use Rattle.sdb_serve.specs.Crowding.{CrowdsChunk, CrowdsTier}
use Rattle.sdb_serve.specs.Given.{Given}
use Rattle.sdb_serve.specs.Marks.{Reached, first_reached}
use Rattle.sdb_serve.specs.Playing.{AnswersLine, MayPlay, MayPlayAll}
use Rattle.sdb_serve.specs.Session.{SessionState, play_line}
use Rattle.sdb_serve.specs.Statuses.{status_of}
use Rattle.sdb_serve.specs.declared.cause.Cause.{Cause}
use Rattle.sdb_serve.specs.declared.cause.Cause.TheVariants.{End, BadLine, Source, Memory, Disk, Occupied, BadCell, BadNode, IndexFull, TierFull, NumbersEnd}
use Rattle.sdb_serve.specs.declared.outcome.Mark.{Mark}
use Rattle.sdb_serve.specs.declared.status.Status.{Status}
use Rattle.sdb_serve.specs.declared.status.Status.TheVariants.{SinkFault}

-- the one list of words
abbrev pub script_words : List (List ℕ)
script_words = codes "script" ∷ []

-- a line as it is in the input
abbrev pub ended : List ℕ → List ℕ
ended line = line ++ 10 ∷ []

abbrev pub HasNoLineFeed : List ℕ → Type 0
HasNoLineFeed text = All (λ b. b ≢ 10) text

-- how far a run has come: the lines that it has read, the lines of their replies, what is reached after them, and
-- what is left of the input
pub record Run : Type 0 where
  pub lines : List (List ℕ)
  pub replies : List (List ℕ)
  pub at : Reached
  pub more : List ℕ

-- a run over this input, on a disk of which this is known: each line so far was answered
pub record IsRun (g : Given) (r : Run) (input : List ℕ) : Type 0 where
  pub parts : input ≡ flat_map ended r.lines ++ r.more
  pub each : All HasNoLineFeed r.lines
  pub answers : MayPlayAll g (first_reached g) r.lines r.replies r.at

-- the text begins with this line
pub record BeginsWith (text line rest : List ℕ) : Type 0 where
  pub parts : text ≡ line ++ 10 ∷ rest
  pub one_line : HasNoLineFeed line

-- the next line isn't answered, or the input ends within it
abbrev pub IsBad : Run → Type 0
IsBad r = ((line rest : List ℕ) × BeginsWith r.more line rest × (play_line r.at.session line ≡ None))
    ⊎ (HasNoLineFeed r.more × (r.more ≢ []))

-- the run is in its next line, which the model answers
pub record IsInLine (r : Run) (line : Line) : Type 0 where
  pub text : List ℕ
  pub rest : List ℕ
  pub begins : BeginsWith r.more text rest
  pub next : SessionState
  pub answers : AnswersLine r.at.session text line next

-- ---- what was taken of the input

-- What the source has given and the run hasn't answered is such a text. `left` is what the source has left, where it
-- can be observed.
abbrev pub Waits : (List ℕ → Type 0) → Option (List ℕ) → Run → Type 0
Waits Such left r = (rest : List ℕ) → left ≡ Some rest → (taken : List ℕ) × Such taken × (r.more ≡ taken ++ rest)

-- at most so many bytes are taken at a time
abbrev pub most_taken : ℕ
most_taken = 65536

-- no more than the next line, as far as a line may go, and what may be taken at a time
pub record IsNear (taken : List ℕ) : Type 0 where
  pub few : length taken ≤ most_in_line + most_taken
  pub ahead : HasNoLineFeed taken ⊎ ((line after : List ℕ) × BeginsWith taken line after × (length after ≤ most_taken))

-- ---- how a run stops

-- a `log` where a commit waits to be logged
abbrev pub LogsNext : SessionState → Line → Type 0
LogsNext s line = (line ≡ lines.Stage Log) × (s.pipeline.numbers.logged < s.pipeline.numbers.accepted)

-- A line meets the end of a counter: a commit that of the commits, `log` that of the records, or its record would make the log file
-- too long, `clean` that of the gates.
abbrev pub MeetsEnd : Reached → Line → Counter → Type 0
MeetsEnd a line Commits = a.session.pipeline.numbers.accepted ≡ 2 ^ 64 - 1
MeetsEnd a line Records = LogsNext a.session line × (a.tally.records ≡ 2 ^ 64 - 1)
MeetsEnd a line Gates = (line ≡ lines.Stage Clean) × (2 ^ 64 - 1 ≤ a.tally.gates)
MeetsEnd a line LogBytes = LogsNext a.session line
    × PassesLog a.tally.bytes (a.tally.records + 1) (a.session.pipeline.numbers.logged + 1)

-- The store may stop in a line for this cause, where `next` is what the model knows after the line. Where the disk tells its
-- content, no cell is damaged, and a node is bad only where two different nodes of the blocks have one hash.
abbrev pub MayFail : Given → Reached → Line → SessionState → Cause → Type 0
MayFail g a line next End = ⊥
MayFail g a line next BadLine = ⊥
MayFail g a line next Source = ⊥
MayFail g a line next Memory = ⊥
MayFail g a line next Disk = Unit {0}
MayFail g a line next Occupied = (base : ℕ) × (line ≡ lines.New base) × (IsTrue g.told → HasNoGate g.image → ⊥)
MayFail g a line next (BadCell file cell) = IsTrue g.told → ⊥
MayFail g a line next (BadNode hash) = IsTrue g.told → Clear next.blocks → ⊥
MayFail g a line next (IndexFull column bits chunk) = LogsNext a.session line × (IsTrue g.told → CrowdsChunk a.session column bits chunk)
MayFail g a line next (TierFull column tier) = LogsNext a.session line × (IsTrue g.told → CrowdsTier a.session column tier)
MayFail g a line next (NumbersEnd which) = MeetsEnd a line which

-- the run is in a line that the model answers, and the store may stop there for this cause
abbrev pub MayFailIn : Given → Cause → Run → Type 0
MayFailIn g cause r = (line : Line) × (in_line : IsInLine r line) × MayFail g r.at line in_line.next cause

-- The run may stop here for this cause. The source fails only where it is asked, and no whole line waits then.
abbrev pub MayStop : Given → Cause → Option (List ℕ) → Run → Type 0
MayStop g End left r = r.more ≡ []
MayStop g BadLine left r = IsBad r
MayStop g Source left r = Waits HasNoLineFeed left r
MayStop g Memory left r = Unit {0}
MayStop g Disk left r = MayFailIn g Disk r
MayStop g Occupied left r = MayFailIn g Occupied r
MayStop g (BadCell file cell) left r = MayFailIn g (BadCell file cell) r
MayStop g (BadNode hash) left r = MayFailIn g (BadNode hash) r
MayStop g (IndexFull column bits chunk) left r = MayFailIn g (IndexFull column bits chunk) r
MayStop g (TierFull column tier) left r = MayFailIn g (TierFull column tier) r
MayStop g (NumbersEnd which) left r = MayFailIn g (NumbersEnd which) r

-- what is seen at a run's end: what the source has left, where it can be observed, the disk's clock, and the marks
pub record Ending : Type 0 where
  pub left : Option (List ℕ)
  pub clock : ℕ
  pub marks : List Mark

-- the next line may be played so, and the run then ends with the clock and the marks after it
abbrev pub EndsAfter : Given → Ending → Run → List (List ℕ) → Type 0
EndsAfter g e r said = (line rest : List ℕ) × (b : Reached) × BeginsWith r.more line rest × MayPlay g r.at line said b
    × (e.clock ≡ b.clock) × (e.marks ≡ b.marks)

-- a run that stops between two lines, or in one that reads alone, leaves the disk and the marks as they were
abbrev pub EndsHere : Ending → Reached → Type 0
EndsHere e a = (e.clock ≡ a.clock) × (e.marks ≡ a.marks)

-- a run that stops in a line has no mark for it
abbrev pub EndsWithin : Ending → Reached → Type 0
EndsWithin e a = (a.clock ≤ e.clock) × (e.marks ≡ a.marks)

-- the clock and the marks where a run stops for a cause before its next line is answered
abbrev pub EndsAs : Cause → Ending → Reached → Type 0
EndsAs End e a = EndsHere e a
EndsAs BadLine e a = EndsHere e a
EndsAs Source e a = EndsHere e a
EndsAs Memory e a = EndsWithin e a
EndsAs Disk e a = EndsWithin e a
EndsAs Occupied e a = EndsHere e a
EndsAs (BadCell file cell) e a = EndsWithin e a
EndsAs (BadNode hash) e a = EndsHere e a
EndsAs (IndexFull column bits chunk) e a = EndsWithin e a
EndsAs (TierFull column tier) e a = EndsWithin e a
EndsAs (NumbersEnd which) e a = EndsWithin e a

-- The same, but that there may be no memory for the reply to a line that was carried out: the clock and the marks are those after
-- it then.
abbrev pub EndsFor : Given → Cause → Ending → Run → Type 0
EndsFor g cause e r = EndsAs cause e r.at ⊎ ((cause ≡ Memory) × (said : List (List ℕ)) × EndsAfter g e r said)

-- the word for a counter in the last line
abbrev pub counter_word : Counter → List ℕ
counter_word Commits = codes "commits"
counter_word Records = codes "records"
counter_word Gates = codes "gates"
counter_word LogBytes = codes "log"

-- the last line for a cause, one or none, where so many lines were answered: the next one is the bad one
abbrev pub last_line : Cause → ℕ → List (List ℕ)
last_line End n = []
last_line BadLine n = ended (codes "stop 3 line " ++ decimal (n + 1)) ∷ []
last_line Source n = ended (codes "stop 4") ∷ []
last_line Memory n = ended (codes "stop 11") ∷ []
last_line Disk n = ended (codes "stop 6") ∷ []
last_line Occupied n = ended (codes "stop 8") ∷ []
last_line (BadCell file cell) n = ended (codes "stop 9 cell " ++ decimal file ++ codes " " ++ decimal cell) ∷ []
last_line (BadNode hash) n = ended (codes "stop 9 node " ++ encode_lower hash.0) ∷ []
last_line (IndexFull column bits chunk) n = ended (codes "stop 10 " ++ decimal column ++ codes " " ++ decimal bits ++ codes " " ++ decimal chunk) ∷ []
last_line (TierFull column tier) n = ended (codes "stop 12 " ++ decimal column ++ codes " " ++ decimal tier) ∷ []
last_line (NumbersEnd which) n = ended (codes "stop 13 " ++ counter_word which) ∷ []

-- the line of other words than those of the table
abbrev pub usage_line : List ℕ
usage_line = ended (codes "stop 2")

-- the run stopped for this cause, and the sink got the replies and the cause's last line, each line by one call
pub record StopsFor (g : Given) (cause : Cause) (e : Ending) (r : Run) (old new : Output) : Type 0 where
  pub may_stop : MayStop g cause e.left r
  pub ends : EndsFor g cause e r
  pub written : Gets old new (r.replies ++ last_line cause (length r.lines))

-- a line at which the sink can fail: the reply to the next line, or the last line for a cause
abbrev pub IsNext : Given → Ending → Run → List ℕ → Type 0
IsNext g e r line = EndsAfter g e r (line ∷ [])
    ⊎ ((cause : Cause) × MayStop g cause e.left r × EndsFor g cause e r × (last_line cause (length r.lines) ≡ line ∷ []))

-- the sink failed at the next line, and got the replies before it and a prefix of it or nothing
pub record IsCutShort (g : Given) (e : Ending) (r : Run) (old new : Output) : Type 0 where
  pub line : List ℕ
  pub next : IsNext g e r line
  pub written : GetsPrefix old new r.replies line

-- What a run of this input did that ended with this status, on a disk of which this is known: old and new are what the sink had
-- got and has got.
pub record IsRunOf (g : Given) (status : Status) (input : List ℕ) (e : Ending) (old new : Output) : Type 0 where
  pub at : Run
  pub run : IsRun g at input
  pub near : Waits IsNear e.left at
  pub stopped : ((cause : Cause) × (status ≡ status_of cause) × StopsFor g cause e at old new)
      ⊎ ((status ≡ SinkFault) × IsCutShort g e at old new)

-- Two faults: a run of this input stopped for this cause, and then the sink failed at the last line for it.
pub record FailsTwice (g : Given) (cause : Cause) (input : List ℕ) (e : Ending) (old new : Output) : Type 0 where
  pub at : Run
  pub run : IsRun g at input
  pub may_stop : MayStop g cause e.left at
  pub ends : EndsFor g cause e at
  pub line : List ℕ
  pub last : last_line cause (length at.lines) ≡ line ∷ []
  pub written : GetsPrefix old new at.replies line

-- every line of the input is answered, and the last one is ended
abbrev pub IsScript : Given → List ℕ → Type 0
IsScript g input = (r : Run) × IsRun g r input × (r.more ≡ [])

-- the line of this number, from 1, is the first that isn't answered, or the one within which the input ends
abbrev pub IsFirstBad : Given → List ℕ → ℕ → Type 0
IsFirstBad g input n = (r : Run) × IsRun g r input × IsBad r × (n ≡ length r.lines + 1)

-- a cause that is the store's, and no fault of the outside
abbrev pub IsOfStore : Cause → Type 0
IsOfStore End = ⊥
IsOfStore BadLine = ⊥
IsOfStore Source = ⊥
IsOfStore Memory = ⊥
IsOfStore Disk = ⊥
IsOfStore Occupied = Unit {0}
IsOfStore (BadCell file cell) = Unit {0}
IsOfStore (BadNode hash) = Unit {0}
IsOfStore (IndexFull column bits chunk) = Unit {0}
IsOfStore (TierFull column tier) = Unit {0}
IsOfStore (NumbersEnd which) = Unit {0}

-- the store stops some run of the input, for a cause of this status
abbrev pub StoreStops : Given → Status → List ℕ → Option (List ℕ) → Type 0
StoreStops g status input left = (cause : Cause) × IsOfStore cause × (status ≡ status_of cause)
    × (r : Run) × IsRun g r input × MayStop g cause left r
