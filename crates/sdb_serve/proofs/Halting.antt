-- Where a run stops between two lines, with less than a line pending.
use Rattle.std.proofs.Common.{◌≡◌, ◌≢◌, ℕ, ◌+◌, ◌<◌, ◌≤◌, List, [], ◌∷◌, ◌++◌, length, take, drop, sym, ap, subst, ◌∙◌, arith, inl, inr, Option, Some, append_assoc, append-nil, length-append}
use Rattle.std.specs.Prelude.{◌⊎◌, Bool}
use Rattle.std.proofs.lemmas.List.{length-take, take-append-drop}
use Rattle.std.proofs.lemmas.List.Elements.{All-append}
use Rattle.sdb_io.specs.Output.{Output}
use Rattle.sdb_script.specs.Grammar.{most_in_line}
use Rattle.pdb_disk.specs.Files.{Files}
use Rattle.sdb_serve.proofs.Answering.{no_line}
use Rattle.sdb_serve.proofs.Lines.{first_feed}
use Rattle.sdb_serve.proofs.PendingInput.{near, near_taken, too_long_line}
use Rattle.sdb_serve.proofs.Running.{some_is}
use Rattle.sdb_serve.specs.Marks.{Reached}
use Rattle.sdb_serve.specs.Runs.{EndsAs, EndsHere, EndsWithin, HasNoLineFeed, IsNear, MayStop, Run, Waits, most_taken}
use Rattle.sdb_serve.specs.inner.Steps.{HaltsFor, Known, PieceAnswered, ending_of}
use Rattle.sdb_serve.specs.inner.Stores.{Represents}
use Rattle.sdb_serve.specs.declared.session.Session.{Session}
use Rattle.sdb_serve.specs.declared.cause.Cause.{Cause}
use Rattle.sdb_serve.specs.declared.cause.Cause.TheVariants.{End, BadLine, Source, Memory, Occupied}

module _ {D : Type 0} (tells : D → Bool) (clock : D → ℕ) (past : D → ℕ → Files) (given : D) where
  -- between two lines the disk and the marks are as they were reached
  ends_here : (left : Option (List ℕ)) (p : Session D) (a : Reached) → Represents tells clock past given p a
      → EndsHere (ending_of tells clock past given left p) a
  ends_here left p a at = (at.time, at.marks)

  ends_within : (left : Option (List ℕ)) (p : Session D) (a : Reached) → Represents tells clock past given p a
      → EndsWithin (ending_of tells clock past given left p) a
  ends_within left p a at = (omega (arith, at.time), at.marks)

  halts_here : (cause : Cause) (left : Option (List ℕ)) (pending rest : List ℕ) (r : Run) (input : List ℕ) (p : Session D)
      (old mid : Output)
      → (first : PieceAnswered tells clock past given 0 pending rest r input p old mid) → Waits IsNear left first.at
      → MayStop (Known tells clock past given) cause left first.at
      → (cause ≢ Occupied) × EndsAs cause (ending_of tells clock past given left p) first.at.at
      → HaltsFor tells clock past given cause r input p left old mid
  halts_here cause left pending rest r input p old mid first near may ends = record {
    at = first.at;
    run = first.is.run;
    near = near;
    lines = first.is.lines;
    may_stop = may;
    ends = inl ends.1;
    untouched = λ e. absurd (ends.0 e);
    replies = first.replies;
    added = first.added;
    written = first.written;
  }

  -- what is pending waits
  waits : (Such : List ℕ → Type 0) (left : Option (List ℕ)) (pending rest : List ℕ) (r : Run) (input : List ℕ) (p : Session D)
      (old mid : Output)
      → (first : PieceAnswered tells clock past given 0 pending rest r input p old mid) → left ≡ Some rest → Such pending
      → Waits Such left first.at
  waits Such left pending rest r input p old mid first is such = λ more told. (
    pending,
    such,
    first.is.more ∙ ap (λ (t : List ℕ). pending ++ t) (some_is rest more (sym is ∙ told)),
  )

  -- the run stops with what is pending
  stops_pending : (cause : Cause) (left : Option (List ℕ)) (pending rest : List ℕ) (r : Run) (input : List ℕ) (p : Session D)
      (old mid : Output)
      → (first : PieceAnswered tells clock past given 0 pending rest r input p old mid) → left ≡ Some rest → HasNoLineFeed pending
      → length pending ≤ most_in_line + most_taken → MayStop (Known tells clock past given) cause left first.at
      → (cause ≢ Occupied) × EndsAs cause (ending_of tells clock past given left p) first.at.at
      → HaltsFor tells clock past given cause r input p left old mid
  stops_pending cause left pending rest r input p old mid first is clear few may ends =
      let waiting = waits IsNear left pending rest r input p old mid first is (near pending clear few) in
      halts_here cause left pending rest r input p old mid first waiting may ends

  source_fails : (left : Option (List ℕ)) (pending rest : List ℕ) (r : Run) (input : List ℕ) (p : Session D) (old mid : Output)
      → PieceAnswered tells clock past given 0 pending rest r input p old mid → HasNoLineFeed pending
      → length pending ≤ most_in_line + most_taken → left ≡ Some rest → HaltsFor tells clock past given Source r input p left old mid
  source_fails left pending rest r input p old mid first clear few is =
      let waiting = waits HasNoLineFeed left pending rest r input p old mid first is clear in
      stops_pending Source left pending rest r input p old mid first is clear few waiting
      (λ e. cc, ends_here left p first.at.at first.is.session)

  pub no_memory : (left : Option (List ℕ)) (n : ℕ) (pending rest : List ℕ) (r : Run) (input : List ℕ) (p : Session D) (old mid : Output)
      → PieceAnswered tells clock past given 0 pending rest r input p old mid → HasNoLineFeed pending → length pending ≤ most_in_line
      → n ≤ most_taken → left ≡ Some (drop n rest) → HaltsFor tells clock past given Memory r input p left old mid
  no_memory left n pending rest r input p old mid first clear low few is =
      let short : length (take n rest) ≤ most_taken = omega (arith, length-take n rest) in
      halts_here Memory left pending rest r input p old mid first
      (λ more told. (
        pending ++ take n rest,
        near_taken pending (take n rest) clear low short,
        first.is.more ∙ ap (λ (t : List ℕ). pending ++ t) (sym (take-append-drop n rest))
            ∙ sym (append_assoc pending (take n rest) (drop n rest))
            ∙ ap (λ (t : List ℕ). (pending ++ take n rest) ++ t) (some_is (drop n rest) more (sym is ∙ told)),
      ))
      tt (λ e. cc, ends_within left p first.at.at first.is.session)

  -- the source failed, or there was no memory for what it gave
  pub reading_fails : (cause : Cause) (left : Option (List ℕ)) (chunk : ℕ) (pending rest : List ℕ) (r : Run) (input : List ℕ)
      (p : Session D) (old mid : Output)
      → (cause ≡ Source) ⊎ (cause ≡ Memory) → PieceAnswered tells clock past given 0 pending rest r input p old mid
      → HasNoLineFeed pending → length pending ≤ most_in_line → chunk ≤ most_taken → (cause ≡ Source → left ≡ Some rest)
      → (cause ≡ Memory → (n : ℕ) × (n ≤ chunk) × (left ≡ Some (drop n rest)))
      → HaltsFor tells clock past given cause r input p left old mid
  reading_fails cause left chunk pending rest r input p old mid why first clear low room unread lost = elim why [
    | inl e ↦
        let halts = source_fails left pending rest r input p old mid first clear (omega arith) (unread e) in
        subst (λ (c : Cause). HaltsFor tells clock past given c r input p left old mid) (sym e) halts
    | inr e ↦
        let l = lost e in
        let halts = no_memory left l.0 pending rest r input p old mid first clear low (omega (arith, l.1)) l.2 in
        subst (λ (c : Cause). HaltsFor tells clock past given c r input p left old mid) (sym e) halts
  ]

  pub ends : (left : Option (List ℕ)) (pending rest : List ℕ) (r : Run) (input : List ℕ) (p : Session D) (old mid : Output)
      → PieceAnswered tells clock past given 0 pending rest r input p old mid → left ≡ Some rest → HasNoLineFeed pending
      → length pending ≤ most_in_line + most_taken → rest ≡ [] → pending ≡ [] → HaltsFor tells clock past given End r input p left old mid
  ends left pending rest r input p old mid first is clear few e f =
      stops_pending End left pending rest r input p old mid first is clear few (first.is.more ∙ ap (λ (t : List ℕ). t ++ rest) f ∙ e)
      (λ e. cc, ends_here left p first.at.at first.is.session)

  -- the input ends within a line
  pub not_ended : (left : Option (List ℕ)) (pending rest : List ℕ) (r : Run) (input : List ℕ) (p : Session D) (old mid : Output)
      → PieceAnswered tells clock past given 0 pending rest r input p old mid → left ≡ Some rest → HasNoLineFeed pending
      → length pending ≤ most_in_line + most_taken → rest ≡ [] → pending ≢ []
      → HaltsFor tells clock past given BadLine r input p left old mid
  not_ended left pending rest r input p old mid first is clear few e some =
      let more : first.at.more ≡ pending = first.is.more ∙ ap (λ (t : List ℕ). pending ++ t) e ∙ append-nil pending in
      stops_pending BadLine left pending rest r input p old mid first is clear few
      (inr (subst HasNoLineFeed (sym more) clear, λ none. some (sym more ∙ none))) (λ e. cc, ends_here left p first.at.at first.is.session)

  -- more bytes than a line may have, and no line feed among them
  pub too_long : (left : Option (List ℕ)) (pending rest : List ℕ) (r : Run) (input : List ℕ) (p : Session D) (old mid : Output)
      → PieceAnswered tells clock past given 0 pending rest r input p old mid → left ≡ Some rest → HasNoLineFeed pending
      → length pending ≤ most_in_line + most_taken → most_in_line < length pending
      → HaltsFor tells clock past given BadLine r input p left old mid
  too_long left pending rest r input p old mid first is clear few long =
      stops_pending BadLine left pending rest r input p old mid first is clear few (elim (first_feed rest) [
        | inl none ↦ inr (
          subst HasNoLineFeed (sym first.is.more) (All-append (λ (c : ℕ). c ≢ 10) pending rest clear none),
          λ e. absurd (omega (arith, ap length (sym first.is.more ∙ e), length-append pending rest)),
        )
        | inr found ↦
            let line : List ℕ = pending ++ found.0 in
            inl (
              line,
              found.1,
              record {
                parts = first.is.more ∙ ap (λ (t : List ℕ). pending ++ t) found.3 ∙ sym (append_assoc pending found.0 (10 ∷ found.1));
                one_line = All-append (λ (c : ℕ). c ≢ 10) pending found.0 clear found.2;
              },
              no_line first.at.at.session line (too_long_line line (omega (arith, length-append pending found.0))),
            )
      ]) (λ e. cc, ends_here left p first.at.at first.is.session)
