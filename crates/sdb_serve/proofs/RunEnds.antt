-- How a whole run ends, from where it halts and from how it is closed.
use Rattle.std.proofs.Common.{◌≡◌, ◌≢◌, ℕ, Bool, false, List, [], sym, ap, subst, ◌∙◌, inl, inr, Option, append-nil}
use Rattle.std.specs.Prelude.{◌⊎◌}
use Rattle.sdb_io.specs.Faults.{CountsFault}
use Rattle.sdb_io.specs.Output.{GetsPrefix, Output}
use Rattle.pdb_disk.specs.Files.{Files}
use Rattle.sdb_serve.specs.Runs.{FailsTwice, IsRunOf, last_line}
use Rattle.sdb_serve.specs.inner.Steps.{CountsWhere, Halts, HaltsFor, IsClosed, IsLastCause, IsUntouched, Known, ending_of}
use Rattle.sdb_serve.specs.declared.session.Session.{Session}
use Rattle.sdb_serve.specs.declared.cause.Cause.{Cause}
use Rattle.sdb_serve.specs.declared.cause.Stop.{Stop}
use Rattle.sdb_serve.specs.declared.cause.Stop.TheVariants as stops
use Rattle.sdb_serve.specs.declared.status.Status.{Status}
use Rattle.sdb_serve.specs.declared.status.Status.TheVariants as statuses
use Rattle.sdb_serve.proofs.Closing.{at_start, closes, cut_off}
use Rattle.sdb_serve.proofs.FaultCounts.{NamesCause, cause_is, is_last, named_counts, names_occupied, never_sink, of_status}
use Rattle.sdb_serve.proofs.Outputs.{prefix_then}

-- After a stop the last line was written, one or none, or the sink failed at it; where it failed at a reply, there is no last line.
abbrev pub ClosedAs : Stop → ℕ → Status → Output → Output → Type 0
ClosedAs (stops.Cause cause) n result old new = (last : Cause) × IsLastCause cause last × IsClosed last n result old new
ClosedAs stops.SinkFault n result old new = (result ≡ statuses.SinkFault) × (new ≡ old)

-- where a fault is counted for the stop, it is counted for the status
pub counts_named : (named : Status) (which : Cause) (stop : Stop) (n : ℕ) (result : Status) (old new : Output) (a b : ℕ)
    → NamesCause named which → ClosedAs stop n result old new → CountsWhere (stop ≡ stops.Cause which) a b → result ≢ statuses.SinkFault
    → CountsWhere (result ≡ named) a b
counts_named named which (stops.Cause cause) n result old new a b names closed counts whole =
    named_counts cause closed.0 n result old new closed.1 closed.2 named which a b names counts whole
counts_named named which stops.SinkFault n result old new a b names closed counts whole = absurd (whole closed.0)

module _ {D : Type 0} (tells : D → Bool) (clock : D → ℕ) (past : D → ℕ → Files) (given : D) where
  -- the run and its end
  pub run_of : (stop : Stop) (input : List ℕ) (p : Session D) (left : Option (List ℕ)) (result : Status) (old mid new : Output)
      → Halts tells clock past given stop (at_start (Known tells clock past given) input) input p left old mid
      → ClosedAs stop p.lines result mid new
      → IsRunOf (Known tells clock past given) result input (ending_of tells clock past given left p) old new
  run_of (stops.Cause cause) input p left result old mid new halts closed =
      closes tells clock past given cause closed.0 input p left old mid new result halts closed.1 closed.2
  run_of stops.SinkFault input p left result old mid new halts closed =
      rw (closed.0, closed.1) (cut_off tells clock past given input p left old mid halts)

  -- `new` on a disk with a database left the disk as it was
  pub untouched_end : (stop : Stop) (input : List ℕ) (p : Session D) (left : Option (List ℕ)) (result : Status) (old mid new : Output)
      → Halts tells clock past given stop (at_start (Known tells clock past given) input) input p left old mid
      → ClosedAs stop p.lines result mid new → result ≡ statuses.Occupied → IsUntouched tells clock past given p
  untouched_end (stops.Cause cause) input p left result old mid new halts closed e =
      halts.untouched (of_status cause closed.0 p.lines result mid new closed.1 closed.2 _ _ names_occupied e)
  untouched_end stops.SinkFault input p left result old mid new halts closed e = absurd (apart (sym closed.0 ∙ e)) where
    apart : statuses.SinkFault ≢ statuses.Occupied
    apart f = cc

  -- where the sink failed at a last line, a fault was counted before only where that line is for it
  failed_twice : (which cause last : Cause) (input : List ℕ) (p : Session D) (left : Option (List ℕ)) (old mid new : Output)
      (result : Status)
      → cause ≡ which → last ≡ cause
      → HaltsFor tells clock past given cause (at_start (Known tells clock past given) input) input p left old mid
      → IsClosed last p.lines result mid new → result ≡ statuses.SinkFault
      → FailsTwice (Known tells clock past given) which input (ending_of tells clock past given left p) old new
  failed_twice which cause last input p left old mid new result same last_same halts closed e = elim closed [
    | inl s ↦ absurd (never_sink last (sym s.0 ∙ e))
    | inr s ↦
        let cut = prefix_then old mid new halts.replies [] s.1 halts.written s.3 in
        let got : GetsPrefix old new halts.replies s.1 =
        subst (λ (t : List (List ℕ)). GetsPrefix old new t s.1) (append-nil halts.replies) cut in
        subst (λ (c : Cause). FailsTwice (Known tells clock past given) c input (ending_of tells clock past given left p) old new) same
        (record {
          at = halts.at;
          run = halts.run;
          may_stop = halts.may_stop;
          ends = halts.ends;
          line = s.1;
          last = rw halts.lines (ap (λ (c : Cause). last_line c p.lines) (sym last_same) ∙ s.2);
          written = rw halts.added got;
        })
  ]

  pub twice_or_none : (named : Status) (which : Cause) (stop : Stop) (a b : ℕ) (input : List ℕ) (p : Session D) (left : Option (List ℕ))
      (result : Status) (old mid new : Output)
      → NamesCause named which → (stop ≡ stops.Cause which) ⊎ (stop ≢ stops.Cause which) → CountsWhere (stop ≡ stops.Cause which) a b
      → Halts tells clock past given stop (at_start (Known tells clock past given) input) input p left old mid
      → ClosedAs stop p.lines result mid new → result ≡ statuses.SinkFault
      → CountsFault false a b ⊎ FailsTwice (Known tells clock past given) which input (ending_of tells clock past given left p) old new
  twice_or_none named which (stops.Cause cause) a b input p left result old mid new names decided counts halts closed e = elim decided [
    | inl so ↦
        let same : cause ≡ which = cause_is cause which so in
        let last_same : closed.0 ≡ cause = is_last cause closed.0 which closed.1 names.ready same ∙ sym same in
        inr (failed_twice which cause closed.0 input p left old mid new result same last_same halts closed.2 e)
    | inr other ↦ inl (counts.1 other)
  ]
  twice_or_none named which stops.SinkFault a b input p left result old mid new names decided counts halts closed e = elim decided [
    | inl so ↦ absurd cc
    | inr other ↦ inl (counts.1 other)
  ]
