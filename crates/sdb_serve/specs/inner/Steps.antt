-- The steps of a run: one line, the lines of a piece of the input, and the last line.
use Rattle.std.specs.Prelude.{◌≡◌, ◌⊎◌, ◌+◌, ℕ, Bool, List, [], ◌∷◌, ◌++◌, length, drop, true, false, IsTrue, Option, Some, None}
use Rattle.sdb_io.specs.Faults.{CountsFault}
use Rattle.sdb_io.specs.Output.{Gets, GetsPrefix, Output}
use Rattle.sdb_base.specs.declared.numbers.KeepFault.{KeepFault}
use Rattle.sdb_base.specs.declared.numbers.KeepFault.TheVariants as keeper
use Rattle.sdb_base.specs.declared.numbers.KeeperCall.{KeeperCall}
use Rattle.sdb_base.specs.declared.numbers.KeeperCall.TheVariants as calls
use Rattle.pdb_disk.specs.Files.{Files}
use Rattle.pdb_redo.specs.declared.fault.CreateCause.{CreateCause}
use Rattle.pdb_redo.specs.declared.fault.CreateCause.TheVariants as create
use Rattle.sdb_script.specs.declared.Stage.{Stage}
use Rattle.sdb_script.specs.declared.Stage.TheVariants.{Log, Flush, Enact, Clean, Grow}
use Rattle.sdb_serve.specs.Given.{Given, given_disk}
use Rattle.sdb_script.specs.declared.Line.{Line}
use Rattle.sdb_script.specs.declared.LineReply.{LineReply}
use Rattle.sdb_serve.specs.Marks.{ClockGoes, LogGoes, Reached, marks_of}
use Rattle.sdb_serve.specs.Playing.{MayPlay}
use Rattle.sdb_serve.specs.Replies.{MayReply}
use Rattle.sdb_serve.specs.Session.{SessionState, answer}
use Rattle.sdb_serve.specs.StageLines.{after_stage, stage_reply}
use Rattle.sdb_serve.specs.Crowding.{LoggedFits}
use Rattle.pdb_log.specs.Tallies.{Tally}
use Rattle.pdb_pipe.specs.Stages.{TakesTime, TallyGoes}
use Rattle.sdb_base.specs.declared.numbers.StageAnswer.{StageAnswer}
use Rattle.sdb_model.specs.Clear.{Clear}
use Rattle.sdb_serve.specs.Statuses.{status_of}
use Rattle.sdb_serve.specs.Runs.{Ending, EndsAfter, EndsAs, EndsFor, IsNear, IsRun, MayFail, MayStop, Run, Waits, last_line}
use Rattle.sdb_serve.specs.inner.Stores.{Represents, disk_count}
use Rattle.sdb_serve.specs.declared.session.Session.{Session}
use Rattle.sdb_serve.specs.declared.nodes.NodeFault.{NodeFault}
use Rattle.sdb_serve.specs.declared.nodes.NodeFault.TheVariants as nodes
use Rattle.sdb_serve.specs.declared.cause.Cause.{Cause}
use Rattle.sdb_serve.specs.declared.cause.Cause.TheVariants as causes
use Rattle.sdb_serve.specs.declared.cause.Stop.{Stop}
use Rattle.sdb_serve.specs.declared.cause.Stop.TheVariants as stops
use Rattle.sdb_serve.specs.declared.status.Status.{Status}
use Rattle.sdb_serve.specs.declared.status.Status.TheVariants.{SinkFault}

-- ---- causes

-- What comes of a database's fault. One that isn't stopped doesn't answer that it is, and none is handed a value that is too long.
abbrev pub cause_of_keeper : KeepFault → Cause
cause_of_keeper keeper.OutOfMemory = causes.Memory
cause_of_keeper keeper.Disk = causes.Disk
cause_of_keeper (keeper.Stopped call) = causes.Disk
cause_of_keeper (keeper.ValueTooLong len) = causes.BadLine
cause_of_keeper (keeper.IndexFull column bits chunk) = causes.IndexFull column bits chunk
cause_of_keeper (keeper.TierFull column tier) = causes.TierFull column tier
cause_of_keeper (keeper.Damaged file cell) = causes.BadCell file cell
cause_of_keeper (keeper.NumbersEnd which) = causes.NumbersEnd which

-- what comes of a job's fault
abbrev pub cause_of_job : NodeFault → Cause
cause_of_job nodes.OutOfMemory = causes.Memory
cause_of_job (nodes.BadNode hash) = causes.BadNode hash
cause_of_job (nodes.Keep fault) = cause_of_keeper fault

-- what comes of a database that isn't made
abbrev pub cause_of_creating : CreateCause → Cause
cause_of_creating create.OutOfMemory = causes.Memory
cause_of_creating create.Occupied = causes.Occupied
cause_of_creating (create.Disk fault) = causes.Disk

-- the call of a stage
abbrev pub call_of : Stage → KeeperCall
call_of Log = calls.Log
call_of Flush = calls.Flush
call_of Enact = calls.Enact
call_of Clean = calls.Clean
call_of Grow = calls.Grow

-- Where this holds a fault is counted, and else none.
abbrev pub CountsWhere : Type 0 → ℕ → ℕ → Type 0
CountsWhere Failed before after = (Failed → CountsFault true before after) × ((Failed → ⊥) → CountsFault false before after)

module _ {D : Type 0} (tells : D → Bool) (clock : D → ℕ) (past : D → ℕ → Files) (given : D) where
  abbrev pub Known : Given
  Known = given_disk tells clock past given

  -- what is seen of a session at a run's end
  abbrev pub ending_of : Option (List ℕ) → Session D → Ending
  ending_of left p = record { left = left; clock = disk_count clock p; marks = p.marks.items }

  -- A line was carried out and gets this reply. The session has come as far as the model's answer says, but for the count of lines
  -- and that of bytes.
  pub record HasAnswered (a : Reached) (line : Line) (reply : Option LineReply) (p : Session D) : Type 0 where
    pub model : Option LineReply
    pub next : SessionState
    pub answered : answer a.session line ≡ Some (model, next)
    pub may : MayReply Known a.session line model reply
    pub now : ℕ
    pub time : ClockGoes reply a.clock now
    pub counted : Tally
    pub tally : LogGoes reply a.tally counted
    pub represents : Represents tells clock past given p (record {
      session = next;
      lines = a.lines;
      clock = now;
      marks = a.marks ++ marks_of (a.lines + 1) reply now next.pipeline.numbers.accepted;
      tally = counted;
    })

  -- A step of a stage was carried out and gave this answer, for which there is no mark yet.
  pub record StageTaken (a : Reached) (stage : Stage) (answer : StageAnswer) (p : Session D) : Type 0 where
    pub is : answer ≡ stage_reply a.session.pipeline stage
    pub fits : IsTrue (tells given) → Clear a.session.blocks → LoggedFits a.session answer
    pub begun : a.session.begun ≡ true
    pub now : ℕ
    pub time : TakesTime answer a.clock now
    pub counted : Tally
    pub tally : TallyGoes answer a.tally counted
    pub represents : Represents tells clock past given p (record {
      session = record a.session { pipeline = after_stage a.session.pipeline stage };
      lines = a.lines;
      clock = now;
      marks = a.marks;
      tally = counted;
    })

  -- the store stopped in a line that the model answers
  abbrev pub HasFailed : Reached → Line → Cause → Type 0
  HasFailed a line cause = (model : Option LineReply) × (next : SessionState) × (answer a.session line ≡ Some (model, next))
      × MayFail Known a line next cause

  -- why a line wasn't carried out
  abbrev pub LineFails : Reached → Line → Cause → Type 0
  LineFails a line causes.End = ⊥
  LineFails a line causes.BadLine = answer a.session line ≡ None
  LineFails a line causes.Source = ⊥
  LineFails a line causes.Memory = Unit {0}
  LineFails a line causes.Disk = HasFailed a line causes.Disk
  LineFails a line causes.Occupied = HasFailed a line causes.Occupied
  LineFails a line (causes.BadCell file cell) = HasFailed a line (causes.BadCell file cell)
  LineFails a line (causes.BadNode hash) = HasFailed a line (causes.BadNode hash)
  LineFails a line (causes.IndexFull column bits chunk) = HasFailed a line (causes.IndexFull column bits chunk)
  LineFails a line (causes.TierFull column tier) = HasFailed a line (causes.TierFull column tier)
  LineFails a line (causes.NumbersEnd which) = HasFailed a line (causes.NumbersEnd which)

  -- the disk that was given is still there, and no call changed its files
  abbrev pub IsUntouched : Session D → Type 0
  IsUntouched p = (d : D) × (p.disk ≡ Some d) × (clock d ≡ clock given) × (past d ≡ past given)

  -- a line wasn't carried out for this cause, and the session is as that says
  abbrev pub LineEnds : Reached → Line → Cause → Session D → Type 0
  LineEnds a line cause p = LineFails a line cause × EndsAs cause (ending_of None p) a × (cause ≡ causes.Occupied → IsUntouched p)

  -- a line was answered, and the sink got its reply
  abbrev pub LineAnswered : Reached → List ℕ → Session D → Output → Output → Type 0
  LineAnswered a line p old new = (replies : List (List ℕ)) × (b : Reached) × MayPlay Known a line replies b
      × Represents tells clock past given p b × Gets old new replies

  -- the run may stop for this cause, and the session then is as that says
  abbrev pub StopsRun : Cause → Run → Session D → Type 0
  StopsRun cause r p = ((left : Option (List ℕ)) → MayStop Known cause left r × EndsFor Known cause (ending_of left p) r)
      × (cause ≡ causes.Occupied → IsUntouched p)

  -- a line stopped the run, or the sink failed at its reply
  abbrev pub LineStops : Stop → Run → Session D → Output → Output → Type 0
  LineStops (stops.Cause cause) r p old new = StopsRun cause r p × (new ≡ old)
  LineStops stops.SinkFault r p old new = (reply : List ℕ) × ((left : Option (List ℕ)) → EndsAfter Known (ending_of left p) r (reply ∷ []))
      × GetsPrefix old new [] reply

  -- the run has come so far with this session, and so much of the input is left
  pub record IsAt (r : Run) (input : List ℕ) (p : Session D) (left : List ℕ) : Type 0 where
    pub run : IsRun Known r input
    pub session : Represents tells clock past given p r.at
    pub lines : length r.lines ≡ p.lines
    pub more : r.more ≡ left

  -- a run that had come to r went on to where it stops, and the sink got the replies in between
  pub record HaltsFor (cause : Cause) (r : Run) (input : List ℕ) (p : Session D) (left : Option (List ℕ)) (old new : Output) : Type 0 where
    pub at : Run
    pub run : IsRun Known at input
    pub near : Waits IsNear left at
    pub lines : length at.lines ≡ p.lines
    pub may_stop : MayStop Known cause left at
    pub ends : EndsFor Known cause (ending_of left p) at
    pub untouched : cause ≡ causes.Occupied → IsUntouched p
    pub replies : List (List ℕ)
    pub added : at.replies ≡ r.replies ++ replies
    pub written : Gets old new replies

  -- a run that had come to r went on to a reply at which the sink failed
  pub record HaltsAtSink (r : Run) (input : List ℕ) (p : Session D) (left : Option (List ℕ)) (old new : Output) : Type 0 where
    pub at : Run
    pub run : IsRun Known at input
    pub near : Waits IsNear left at
    pub reply : List ℕ
    pub next : EndsAfter Known (ending_of left p) at (reply ∷ [])
    pub replies : List (List ℕ)
    pub added : at.replies ≡ r.replies ++ replies
    pub written : GetsPrefix old new replies reply

  abbrev pub Halts : Stop → Run → List ℕ → Session D → Option (List ℕ) → Output → Output → Type 0
  Halts (stops.Cause cause) r input p left old new = HaltsFor cause r input p left old new
  Halts stops.SinkFault r input p left old new = HaltsAtSink r input p left old new

  -- The lines of a piece were answered: so much of it was used, and the sink got the replies.
  pub record PieceAnswered (used : ℕ) (piece rest : List ℕ) (r : Run) (input : List ℕ) (p : Session D) (old new : Output) : Type 0 where
    pub at : Run
    pub is : IsAt at input p (drop used piece ++ rest)
    pub replies : List (List ℕ)
    pub added : at.replies ≡ r.replies ++ replies
    pub written : Gets old new replies

  -- lines were answered, and no call of the disk failed: the session still represents what was reached
  abbrev pub GoesOn : (D → ℕ) → Session D → Session D → Type 0
  GoesOn fault_count p q = (a : Reached) → Represents tells clock past given p a
      → (b : Reached) × Represents tells clock past given q b × (disk_count fault_count q ≡ disk_count fault_count p)

  -- a line or more was to be answered by a session that represents what was reached: the disk failed where that is the stop
  abbrev pub CountsDisk : (D → ℕ) → Type 0 → Session D → Session D → Type 0
  CountsDisk fault_count Failed p q = (a : Reached) → Represents tells clock past given p a
      → CountsWhere Failed (disk_count fault_count p) (disk_count fault_count q)

-- ---- the last line

-- the status is the cause's, whose last line was written, or the sink failed at that line
abbrev pub IsClosed : Cause → ℕ → Status → Output → Output → Type 0
IsClosed cause n result old new =
    ((result ≡ status_of cause) × Gets old new (last_line cause n))
    ⊎ ((result ≡ SinkFault) × (line : List ℕ) × (last_line cause n ≡ line ∷ []) × GetsPrefix old new [] line)

-- the last line for this cause takes memory
abbrev pub MakesLine : Cause → Type 0
MakesLine causes.End = ⊥
MakesLine causes.BadLine = Unit {0}
MakesLine causes.Source = ⊥
MakesLine causes.Memory = ⊥
MakesLine causes.Disk = ⊥
MakesLine causes.Occupied = ⊥
MakesLine (causes.BadCell file cell) = Unit {0}
MakesLine (causes.BadNode hash) = Unit {0}
MakesLine (causes.IndexFull column bits chunk) = Unit {0}
MakesLine (causes.TierFull column tier) = Unit {0}
MakesLine (causes.NumbersEnd which) = ⊥

-- For want of memory for a last line that names something, the cause is that.
abbrev pub IsLastCause : Cause → Cause → Type 0
IsLastCause cause last = (last ≡ cause) ⊎ (MakesLine cause × (last ≡ causes.Memory))
