-- How a run goes on by one line, and by the lines of a piece.
use Rattle.std.proofs.Common.{◌≡◌, ◌≢◌, ℕ, zero, suc, ◌+◌, ◌<◌, ◌≤◌, List, [], ◌∷◌, ◌++◌, length, drop, get_or, refl, sym, ap, subst, ◌∙◌, arith, inr, Option, Some, append_assoc, append-nil, length-append}
use Rattle.std.specs.Prelude.{All, Bool, slice_range}
use Rattle.std.specs.List.{flat_map}
use Rattle.std.proofs.lemmas.Grind.{flat_map-append}
use Rattle.std.proofs.lemmas.List.{length-drop}
use Rattle.std.proofs.lemmas.List.Elements.{All-append}
use Rattle.sdb_io.specs.Output.{Gets, GetsPrefix, Output}
use Rattle.sdb_script.specs.Grammar.{most_in_line}
use Rattle.sdb_serve.proofs.Lines.{begins_at, rest_begins}
use Rattle.sdb_serve.proofs.Outputs.{gets_then, prefix_then}
use Rattle.pdb_disk.specs.Files.{Files}
use Rattle.sdb_serve.specs.Given.{Given}
use Rattle.sdb_serve.specs.Marks.{Reached, first_reached}
use Rattle.sdb_serve.specs.Playing.{MayPlay, MayPlayAll}
use Rattle.sdb_serve.specs.Runs.{BeginsWith, HasNoLineFeed, IsNear, IsRun, Run, Waits, ended, most_taken}
use Rattle.sdb_serve.specs.inner.Steps.{Halts, Known, LineAnswered, LineStops, PieceAnswered}
use Rattle.sdb_serve.specs.inner.Stores.{Represents}
use Rattle.sdb_serve.specs.declared.session.Session.{Session}
use Rattle.sdb_serve.specs.declared.cause.Stop.{Stop}
use Rattle.sdb_serve.specs.declared.cause.Stop.TheVariants as stops

pub some_is : {A : Type 0} (x y : A) → ◌≡◌ {A = Option A} (Some x) (Some y) → x ≡ y
some_is x y e = cc

-- ---- one line more

played_next : (g : Given) (a : Reached) (lines : List (List ℕ)) (line : List ℕ) (out more : List (List ℕ)) (at next : Reached)
    → MayPlayAll g a lines out at → MayPlay g at line more next → MayPlayAll g a (lines ++ line ∷ []) (out ++ more) next
played_next g a [] line out more at next e f = (
  more,
  [],
  next,
  subst (λ (t : Reached). MayPlay g t line more next) e.1 f,
  (refl, refl),
  rw (e.0, append-nil more) refl,
)
played_next g a (l ∷ ls) line out more at next e f = (
  e.0,
  e.1 ++ more,
  e.2,
  e.3,
  played_next g e.2 ls line e.1 more at next e.4 f,
  ap (λ (t : List (List ℕ)). t ++ more) e.5 ∙ append_assoc e.0 e.1 more,
)

abbrev pub with_line : Run → List ℕ → List (List ℕ) → Reached → List ℕ → Run
with_line r line replies next rest = record { lines = r.lines ++ line ∷ []; replies = r.replies ++ replies; at = next; more = rest }

line_joins : (lines : List (List ℕ)) (line rest : List ℕ)
    → flat_map ended lines ++ (line ++ 10 ∷ rest) ≡ flat_map ended (lines ++ line ∷ []) ++ rest
line_joins lines line rest = rw (
  flat_map-append ended lines (line ∷ []),
  append-nil (ended line),
  append_assoc (flat_map ended lines) (ended line) rest,
  append_assoc line (10 ∷ []) rest,
) refl

single : (line : List ℕ) → HasNoLineFeed line → All HasNoLineFeed (line ∷ [])
single line h zero d lt = h
single line h (suc k) d lt = absurd (omega arith)

-- a run goes on by a line that is answered
pub goes_on : (g : Given) (r : Run) (input line rest : List ℕ) (replies : List (List ℕ)) (next : Reached) → IsRun g r input
    → BeginsWith r.more line rest → MayPlay g r.at line replies next → IsRun g (with_line r line replies next rest) input
goes_on g r input line rest replies next run begins e = record {
  parts = run.parts ∙ ap (λ (m : List ℕ). flat_map ended r.lines ++ m) begins.parts ∙ line_joins r.lines line rest;
  each = All-append HasNoLineFeed r.lines (line ∷ []) run.each (single line begins.one_line);
  answers = played_next g (first_reached g) r.lines line r.replies replies r.at next run.answers e;
}

-- of a piece no more waits than the next line and what was taken last
near_at : (from start end : ℕ) (piece rest : List ℕ) (at : Run) → at.more ≡ drop start piece ++ rest
    → start ≤ end → from ≤ end → end < length piece → from ≤ most_in_line → length piece ≤ from + most_taken
    → get_or piece end 0 ≡ 10 → HasNoLineFeed (slice_range piece start end) → Waits IsNear (Some rest) at
near_at from start end piece rest at more order past within low few feed clear = λ left told. (
  drop start piece,
  record {
    few = omega (arith, length-drop start piece);
    ahead = inr (
      slice_range piece start end,
      drop (end + 1) piece,
      rest_begins start end piece order within feed clear,
      omega (arith, length-drop (end + 1) piece),
    );
  },
  more ∙ ap (λ (t : List ℕ). drop start piece ++ t) (some_is rest left told),
)

-- ---- a piece

module _ {D : Type 0} (tells : D → Bool) (clock : D → ℕ) (past : D → ℕ → Files) (given : D) where
  pub piece_goes_on : (start end : ℕ) (piece rest : List ℕ) (r : Run) (input : List ℕ) (p q : Session D) (old mid new : Output)
      → start ≤ end → end < length piece → get_or piece end 0 ≡ 10 → HasNoLineFeed (slice_range piece start end)
      → PieceAnswered tells clock past given start piece rest r input p old mid
      → ((a : Reached) → Represents tells clock past given p a
      → LineAnswered tells clock past given a (slice_range piece start end) q mid new)
      → q.lines ≡ p.lines + 1 → PieceAnswered tells clock past given (end + 1) piece rest r input q old new
  piece_goes_on start end piece rest r input p q old mid new order within feed clear done line counted =
      let at : Run = done.at in
      let a = line at.at done.is.session in
      let more : List ℕ = drop (end + 1) piece ++ rest in
      let l : List ℕ = slice_range piece start end in
      let begins = begins_at start end piece rest at.more order within feed clear done.is.more in
      record {
        at = with_line at l a.0 a.1 more;
        is = record {
          run = goes_on (Known tells clock past given) at input l more a.0 a.1 done.is.run begins a.2;
          session = a.3;
          lines = omega (arith, length-append at.lines (l ∷ []), done.is.lines);
          more = refl;
        };
        replies = done.replies ++ a.0;
        added = ap (λ (t : List (List ℕ)). t ++ a.0) done.added ∙ append_assoc r.replies done.replies a.0;
        written = gets_then old mid new done.replies a.0 done.written a.4;
      }

  -- what stops a line stops the run there
  pub piece_stops : (stop : Stop) (from start end : ℕ) (piece rest : List ℕ) (r : Run) (input : List ℕ) (p q : Session D)
      (old mid new : Output)
      → start ≤ end → from ≤ end → end < length piece → from ≤ most_in_line → length piece ≤ from + most_taken
      → get_or piece end 0 ≡ 10 → HasNoLineFeed (slice_range piece start end)
      → PieceAnswered tells clock past given start piece rest r input p old mid
      → ((s : Run) (after : List ℕ) → Represents tells clock past given p s.at
      → BeginsWith s.more (slice_range piece start end) after → LineStops tells clock past given stop s q mid new)
      → (stop ≢ stops.SinkFault → q.lines ≡ p.lines) → Halts tells clock past given stop r input q (Some rest) old new
  piece_stops (stops.Cause cause) from start end piece rest r input p q old mid new order seek within low few feed clear done line same =
      let begins = begins_at start end piece rest done.at.more order within feed clear done.is.more in
      let a = line done.at (drop (end + 1) piece ++ rest) done.is.session begins in
      record {
        at = done.at;
        run = done.is.run;
        near = near_at from start end piece rest done.at done.is.more order seek within low few feed clear;
        lines = done.is.lines ∙ sym (same (λ e. cc));
        may_stop = (a.0.0 (Some rest)).0;
        ends = (a.0.0 (Some rest)).1;
        untouched = a.0.1;
        replies = done.replies;
        added = done.added;
        written = subst (λ (o : Output). Gets old o done.replies) (sym a.1) done.written;
      }
  piece_stops stops.SinkFault from start end piece rest r input p q old mid new order seek within low few feed clear done line same =
      let begins = begins_at start end piece rest done.at.more order within feed clear done.is.more in
      let a = line done.at (drop (end + 1) piece ++ rest) done.is.session begins in
      let written = prefix_then old mid new done.replies [] a.0 done.written a.2 in
      record {
        at = done.at;
        run = done.is.run;
        near = near_at from start end piece rest done.at done.is.more order seek within low few feed clear;
        reply = a.0;
        next = a.1 (Some rest);
        replies = done.replies;
        added = done.added;
        written = subst (λ (t : List (List ℕ)). GetsPrefix old new t a.0) (append-nil done.replies) written;
      }
