-- From a line that was carried out, or wasn't, to the run that it is of.
use Rattle.std.proofs.Common.{◌≡◌, ◌⊎◌, ◌+◌, ◌++◌, ◌≤◌, ℕ, Bool, List, Option, Some, None, length, inl, inr, refl, arith}
use Rattle.pdb_disk.specs.Files.{Files}
use Rattle.sdb_script.specs.Grammar.{line_of}
use Rattle.sdb_script.specs.declared.Line.{Line}
use Rattle.sdb_script.specs.declared.LineReply.{LineReply}
use Rattle.sdb_serve.specs.Marks.{Reached, marks_of}
use Rattle.sdb_serve.specs.Playing.{MayPlay}
use Rattle.sdb_serve.specs.Runs.{BeginsWith, EndsAs, IsInLine, MayStop, Run}
use Rattle.sdb_serve.specs.Session.{SessionState, answer, most_bytes, reply_lines}
use Rattle.sdb_serve.specs.inner.Steps.{HasAnswered, Known, LineEnds, LineFails, StopsRun, ending_of}
use Rattle.sdb_serve.specs.inner.Stores.{Represents}
use Rattle.sdb_serve.specs.declared.cause.Cause.{Cause}
use Rattle.sdb_serve.specs.declared.cause.Cause.TheVariants as causes
use Rattle.sdb_serve.specs.declared.session.Session.{Session}
use Rattle.sdb_serve.proofs.Answering.{line_is, no_line, not_answered}

module _ {D : Type 0} (tells : D → Bool) (clock : D → ℕ) (past : D → ℕ → Files) (given : D) where
  -- ---- a line that stops a run

  -- what is left of the input is no matter of the clock and the marks
  ends_with : (cause : Cause) (left : Option (List ℕ)) (p : Session D) (a : Reached)
      → EndsAs cause (ending_of tells clock past given None p) a → EndsAs cause (ending_of tells clock past given left p) a
  ends_with causes.End left p a h = h
  ends_with causes.BadLine left p a h = h
  ends_with causes.Source left p a h = h
  ends_with causes.Memory left p a h = h
  ends_with causes.Disk left p a h = h
  ends_with causes.Occupied left p a h = h
  ends_with (causes.BadCell file cell) left p a h = h
  ends_with (causes.BadNode hash) left p a h = h
  ends_with (causes.IndexFull column bits chunk) left p a h = h
  ends_with (causes.TierFull column tier) left p a h = h
  ends_with (causes.NumbersEnd which) left p a h = h

  module _ (r : Run) (text rest : List ℕ) (line : Line) (begins : BeginsWith r.more text rest) (parsed : line_of text ≡ Some line)
      (within : r.at.session.read + (length text + 1) ≤ most_bytes) where
    in_line : (model : Option LineReply) (next : SessionState) → answer r.at.session line ≡ Some (model, next) → IsInLine r line
    in_line model next answered = record {
      text = text;
      rest = rest;
      begins = begins;
      next = record next { read = r.at.session.read + (length text + 1) };
      answers = record {
        reply = model;
        after = next;
        parsed = parsed;
        answered = answered;
        played = line_is r.at.session text line model next within parsed answered;
      };
    }

    may_stop : (cause : Cause) (left : Option (List ℕ)) → LineFails tells clock past given r.at line cause
        → MayStop (Known tells clock past given) cause left r
    unfolding in_line
    may_stop causes.End left h = absurd h
    may_stop causes.BadLine left h = inl (text, rest, begins, not_answered r.at.session text line parsed h)
    may_stop causes.Source left h = absurd h
    may_stop causes.Memory left h = tt
    may_stop causes.Disk left h = (line, in_line h.0 h.1 h.2, h.3)
    may_stop causes.Occupied left h = (line, in_line h.0 h.1 h.2, h.3)
    may_stop (causes.BadCell file cell) left h = (line, in_line h.0 h.1 h.2, h.3)
    may_stop (causes.BadNode hash) left h = (line, in_line h.0 h.1 h.2, h.3)
    may_stop (causes.IndexFull column bits chunk) left h = (line, in_line h.0 h.1 h.2, h.3)
    may_stop (causes.TierFull column tier) left h = (line, in_line h.0 h.1 h.2, h.3)
    may_stop (causes.NumbersEnd which) left h = (line, in_line h.0 h.1 h.2, h.3)

    pub line_stops : (cause : Cause) (p : Session D) → LineEnds tells clock past given r.at line cause p
        → StopsRun tells clock past given cause r p
    line_stops cause p h = (λ left. (may_stop cause left h.0, inl (ends_with cause left p r.at h.1)), h.2)

  -- a text that wasn't read as a line
  pub parse_stops : (text : List ℕ) (cause : Cause) → (cause ≡ causes.BadLine) ⊎ (cause ≡ causes.Memory)
      → (cause ≡ causes.BadLine → line_of text ≡ None) → (r : Run) (rest : List ℕ) (p : Session D)
      → Represents tells clock past given p r.at → BeginsWith r.more text rest → StopsRun tells clock past given cause r p
  parse_stops text cause (inl e) refused r rest p h begins =
      rw e (λ left. (inl (text, rest, begins, no_line r.at.session text (refused e)), inl (h.time, h.marks)), λ e. absurd cc)
  parse_stops text cause (inr e) refused r rest p h begins = rw e (λ left. (tt, inl (omega (arith, h.time), h.marks)), λ e. absurd cc)

  -- ---- a line that was carried out

  -- how far the run has come then
  abbrev pub reached_after : {a : Reached} {line : Line} {reply : Option LineReply} {p : Session D} → List ℕ
      → HasAnswered tells clock past given a line reply p → Reached
  reached_after {a} {line} {reply} {p} text h = record {
    session = record h.next { read = a.session.read + (length text + 1) };
    lines = a.lines + 1;
    clock = h.now;
    marks = a.marks ++ marks_of (a.lines + 1) reply h.now h.next.pipeline.numbers.accepted;
    tally = h.counted;
  }

  pub plays : (a : Reached) (text : List ℕ) (line : Line) (reply : Option LineReply) (p : Session D)
      → (h : HasAnswered tells clock past given a line reply p) → line_of text ≡ Some line
      → a.session.read + (length text + 1) ≤ most_bytes → (said : List (List ℕ)) → said ≡ reply_lines reply
      → MayPlay (Known tells clock past given) a text said (reached_after text h)
  plays a text line reply p h parsed within said is = record {
    line = line;
    model = h.model;
    reply = reply;
    parsed = parsed;
    played = line_is a.session text line h.model h.next within parsed h.answered;
    answered = (h.next, h.answered);
    may = h.may;
    said_is = is;
    one_line = refl;
    time = h.time;
    tally = h.tally;
    marked = refl;
  }
