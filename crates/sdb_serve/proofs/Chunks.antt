-- How a run goes on by one piece after another.
use Rattle.std.proofs.Common.{◌≡◌, ℕ, List, [], ◌++◌, take, drop, refl, sym, ap, subst, ◌∙◌, Option, Some, append_assoc, append-nil}
use Rattle.std.specs.Prelude.{Bool}
use Rattle.std.proofs.lemmas.List.{take-append-drop}
use Rattle.sdb_io.specs.Output.{Output}
use Rattle.pdb_disk.specs.Files.{Files}
use Rattle.sdb_serve.proofs.Outputs.{gets_nothing, gets_then, prefix_then}
use Rattle.sdb_serve.specs.Runs.{Run}
use Rattle.sdb_serve.specs.inner.Steps.{Halts, IsAt, PieceAnswered}
use Rattle.sdb_serve.specs.declared.session.Session.{Session}
use Rattle.sdb_serve.specs.declared.cause.Stop.{Stop}
use Rattle.sdb_serve.specs.declared.cause.Stop.TheVariants as stops

module _ {D : Type 0} (tells : D → Bool) (clock : D → ℕ) (past : D → ℕ → Files) (given : D) where
  -- ---- one piece after another

  -- no line of a piece was answered yet
  pub begins : (piece rest : List ℕ) (r : Run) (input : List ℕ) (p : Session D) (got : Output)
      → IsAt tells clock past given r input p (piece ++ rest) → PieceAnswered tells clock past given 0 piece rest r input p got got
  begins piece rest r input p got at =
      record { at = r; is = at; replies = []; added = sym (append-nil r.replies); written = gets_nothing got }

  -- more of the input was read after what is pending
  takes_more : (pending taken rest : List ℕ) (n : ℕ) (r : Run) (input : List ℕ) (p : Session D) (old mid : Output)
      → (first : PieceAnswered tells clock past given 0 pending rest r input p old mid) → taken ≡ take n rest
      → IsAt tells clock past given first.at input p ((pending ++ taken) ++ drop n rest)
  takes_more pending taken rest n r input p old mid first e = record {
    run = first.is.run;
    session = first.is.session;
    lines = first.is.lines;
    more = first.is.more ∙ ap (λ (t : List ℕ). pending ++ t) (sym (take-append-drop n rest))
        ∙ sym (append_assoc pending (take n rest) (drop n rest)) ∙ ap (λ (t : List ℕ). (pending ++ t) ++ drop n rest) (sym e);
  }

  -- the next chunk: its lines were answered
  pub chunk_then : (n used : ℕ) (pending grown piece left rest : List ℕ) (r : Run) (input : List ℕ) (p q : Session D) (old mid new : Output)
      → (first : PieceAnswered tells clock past given 0 pending rest r input p old mid) → grown ≡ pending ++ take n rest → piece ≡ grown
      → (IsAt tells clock past given first.at input p (piece ++ drop n rest)
      → PieceAnswered tells clock past given used piece (drop n rest) first.at input q mid new)
      → left ≡ drop used grown → PieceAnswered tells clock past given 0 left (drop n rest) r input q old new
  chunk_then n used pending grown piece left rest r input p q old mid new first e same answer f =
      let at : IsAt tells clock past given first.at input p (piece ++ drop n rest) =
      rw (same, e) (takes_more pending (take n rest) rest n r input p old mid first refl) in
      let second = answer at in
      let left_is : left ≡ drop used piece = f ∙ ap (drop used) (sym same) in record {
        at = second.at;
        is = record {
          run = second.is.run;
          session = second.is.session;
          lines = second.is.lines;
          more = second.is.more ∙ ap (λ (t : List ℕ). t ++ drop n rest) (sym left_is);
        };
        replies = first.replies ++ second.replies;
        added = second.added ∙ ap (λ (t : List (List ℕ)). t ++ second.replies) first.added
            ∙ append_assoc r.replies first.replies second.replies;
        written = gets_then old mid new first.replies second.replies first.written second.written;
      }

  halts_then : (stop : Stop) (left : Option (List ℕ)) (pending rest : List ℕ) (r : Run) (input : List ℕ) (p q : Session D)
      (old mid new : Output)
      → (first : PieceAnswered tells clock past given 0 pending rest r input p old mid)
      → Halts tells clock past given stop first.at input q left mid new → Halts tells clock past given stop r input q left old new
  halts_then (stops.Cause cause) left pending rest r input p q old mid new first second = record {
    at = second.at;
    run = second.run;
    near = second.near;
    lines = second.lines;
    may_stop = second.may_stop;
    ends = second.ends;
    untouched = second.untouched;
    replies = first.replies ++ second.replies;
    added = second.added ∙ ap (λ (t : List (List ℕ)). t ++ second.replies) first.added
        ∙ append_assoc r.replies first.replies second.replies;
    written = gets_then old mid new first.replies second.replies first.written second.written;
  }
  halts_then stops.SinkFault left pending rest r input p q old mid new first second = record {
    at = second.at;
    run = second.run;
    near = second.near;
    reply = second.reply;
    next = second.next;
    replies = first.replies ++ second.replies;
    added = second.added ∙ ap (λ (t : List (List ℕ)). t ++ second.replies) first.added
        ∙ append_assoc r.replies first.replies second.replies;
    written = prefix_then old mid new first.replies second.replies second.reply first.written second.written;
  }

  -- the next chunk: a line of it stopped the run
  pub chunk_halts : (stop : Stop) (left : Option (List ℕ)) (n : ℕ) (pending grown piece rest : List ℕ) (r : Run) (input : List ℕ)
      (p q : Session D) (old mid new : Output)
      → (first : PieceAnswered tells clock past given 0 pending rest r input p old mid) → grown ≡ pending ++ take n rest → piece ≡ grown
      → left ≡ Some (drop n rest) → (IsAt tells clock past given first.at input p (piece ++ drop n rest)
      → Halts tells clock past given stop first.at input q (Some (drop n rest)) mid new)
      → Halts tells clock past given stop r input q left old new
  chunk_halts stop left n pending grown piece rest r input p q old mid new first e same is answer =
      let at : IsAt tells clock past given first.at input p (piece ++ drop n rest) =
      rw (same, e) (takes_more pending (take n rest) rest n r input p old mid first refl) in
      let second = subst (λ (o : Option (List ℕ)). Halts tells clock past given stop first.at input q o mid new) (sym is) (answer at) in
      halts_then stop left pending rest r input p q old mid new first second
