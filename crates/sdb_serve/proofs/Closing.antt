-- How a run is closed.
use Rattle.std.proofs.Common.{◌≡◌, ℕ, arith, List, [], ◌∷◌, refl, sym, subst, inl, inr, Option, append-nil}
use Rattle.std.specs.Prelude.{◌⊎◌, Bool, Result, Ok, Err, IfOk, IsErr}
use Rattle.sdb_io.specs.Output.{Gets, GetsPrefix, Output}
use Rattle.pdb_disk.specs.Files.{Files}
use Rattle.sdb_serve.specs.Given.{Given}
use Rattle.sdb_serve.specs.Marks.{Reached, first_reached}
use Rattle.sdb_serve.specs.Runs.{Ending, EndsAs, EndsFor, EndsWithin, IsRunOf, MayStop, Run, last_line}
use Rattle.sdb_serve.specs.Statuses.{status_of}
use Rattle.sdb_serve.specs.inner.Steps.{HaltsAtSink, HaltsFor, IsAt, IsClosed, IsLastCause, Known, MakesLine, ending_of}
use Rattle.sdb_serve.specs.inner.Stores.{Represents}
use Rattle.sdb_serve.specs.declared.session.Session.{Session}
use Rattle.sdb_serve.specs.declared.cause.Cause.{Cause}
use Rattle.sdb_serve.specs.declared.cause.Cause.TheVariants.{End, BadLine, Source, Memory, Disk, Occupied, BadCell, BadNode, IndexFull, TierFull, NumbersEnd}
use Rattle.sdb_serve.specs.declared.status.Status.{Status}
use Rattle.sdb_serve.specs.declared.status.Status.TheVariants.{SinkFault}
use Rattle.sdb_serve.proofs.Outputs.{gets_then, prefix_then}

-- the run that has read nothing
abbrev pub at_start : Given → List ℕ → Run
at_start g input = record { lines = []; replies = []; at = first_reached g; more = input }

-- ---- the cause of the last line

may_last : (g : Given) (cause last : Cause) (left : Option (List ℕ)) (r : Run) → IsLastCause cause last → MayStop g cause left r
    → MayStop g last left r
may_last g cause last left r is may = elim is [
  | inl e ↦ subst (λ (c : Cause). MayStop g c left r) (sym e) may
  | inr e ↦ subst (λ (c : Cause). MayStop g c left r) (sym e.1) tt
]

-- whatever the cause, the disk's clock is no less at the end, and there is no mark more
ends_within : (cause : Cause) (e : Ending) (a : Reached) → EndsAs cause e a → EndsWithin e a
ends_within End e a ends = (omega (arith, ends.0), ends.1)
ends_within BadLine e a ends = (omega (arith, ends.0), ends.1)
ends_within Source e a ends = (omega (arith, ends.0), ends.1)
ends_within Memory e a ends = ends
ends_within Disk e a ends = ends
ends_within Occupied e a ends = (omega (arith, ends.0), ends.1)
ends_within (BadCell file cell) e a ends = ends
ends_within (BadNode hash) e a ends = (omega (arith, ends.0), ends.1)
ends_within (IndexFull column bits chunk) e a ends = ends
ends_within (TierFull column tier) e a ends = ends
ends_within (NumbersEnd which) e a ends = ends

ends_last : (g : Given) (cause last : Cause) (e : Ending) (r : Run) → IsLastCause cause last → EndsFor g cause e r → EndsFor g last e r
ends_last g cause last e r is ends = elim is [
  | inl same ↦ subst (λ (c : Cause). EndsFor g c e r) (sym same) ends
  | inr made ↦ subst (λ (c : Cause). EndsFor g c e r) (sym made.1) (elim ends [
    | inl before ↦ inl (ends_within cause e r.at before)
    | inr after ↦ inr (refl, after.1, after.2)
  ])
]

-- a last line was written, or the sink failed at it
pub closes_put : (cause : Cause) (n : ℕ) (text : List ℕ) (result : Status) (old new : Output) → last_line cause n ≡ text ∷ []
    → ((result ≡ status_of cause) × Gets old new (text ∷ [])) ⊎ ((result ≡ SinkFault) × GetsPrefix old new [] text)
    → (last : Cause) × IsLastCause cause last × IsClosed last n result old new
closes_put cause n text result old new line put = (
  cause,
  inl refl,
  elim put [
    | inl a ↦ inl (a.0, subst (Gets old new) (sym line) a.1)
    | inr b ↦ inr (b.0, text, line, b.1)
  ],
)

-- a last line that takes memory was written, or the one that there was none
pub closes_made : {V E : Type 0} (items : V → List ℕ) (cause : Cause) (n : ℕ) (made : Result V E) (result : Status) (old new : Output)
    → MakesLine cause → IfOk made (λ text. last_line cause n ≡ items text ∷ [])
    → IfOk made (λ text. ((result ≡ status_of cause) × Gets old new (items text ∷ []))
    ⊎ ((result ≡ SinkFault) × GetsPrefix old new [] (items text)))
    → (IsErr made → IsClosed Memory 0 result old new) → (last : Cause) × IsLastCause cause last × IsClosed last n result old new
closes_made items cause n (Ok text) result old new makes line put none = closes_put cause n (items text) result old new line put
closes_made items cause n (Err e) result old new makes line put none = (Memory, inr (makes, refl), none refl)

-- a line that doesn't tell how many lines were answered
pub for_all_lines : {V E : Type 0} (items : V → List ℕ) (cause : Cause) (n : ℕ) (made : Result V E)
    → IfOk made (λ text. (m : ℕ) → last_line cause m ≡ items text ∷ []) → IfOk made (λ text. last_line cause n ≡ items text ∷ [])
for_all_lines items cause n (Ok text) h = h n
for_all_lines items cause n (Err e) h = tt

module _ {D : Type 0} (tells : D → Bool) (clock : D → ℕ) (past : D → ℕ → Files) (given : D) where
  -- nothing was read yet
  pub starts : (input : List ℕ) (p : Session D) → Represents tells clock past given p (first_reached (Known tells clock past given))
      → p.lines ≡ 0 → IsAt tells clock past given (at_start (Known tells clock past given) input) input p input
  starts input p represents lines = record {
    run = record { parts = refl; each = λ k d lt. absurd (omega arith); answers = (refl, refl) };
    session = represents;
    lines = sym lines;
    more = refl;
  }

  -- the sink failed at a reply
  pub cut_off : (input : List ℕ) (p : Session D) (left : Option (List ℕ)) (old new : Output)
      → HaltsAtSink tells clock past given (at_start (Known tells clock past given) input) input p left old new
      → IsRunOf (Known tells clock past given) SinkFault input (ending_of tells clock past given left p) old new
  cut_off input p left old new halts = record {
    at = halts.at;
    run = halts.run;
    near = halts.near;
    stopped = inr (
      refl,
      record {
        line = halts.reply;
        next = inl halts.next;
        written = subst (λ (t : List (List ℕ)). GetsPrefix old new t halts.reply) (sym halts.added) halts.written;
      },
    );
  }

  -- the last line of a cause was written after the replies, or the sink failed at it
  pub closes : (cause last : Cause) (input : List ℕ) (p : Session D) (left : Option (List ℕ)) (old mid new : Output) (result : Status)
      → HaltsFor tells clock past given cause (at_start (Known tells clock past given) input) input p left old mid
      → IsLastCause cause last → IsClosed last p.lines result mid new
      → IsRunOf (Known tells clock past given) result input (ending_of tells clock past given left p) old new
  closes cause last input p left old mid new result halts is closed =
      let g = Known tells clock past given in
      let may : MayStop g last left halts.at = may_last g cause last left halts.at is halts.may_stop in
      let end = ends_last g cause last (ending_of tells clock past given left p) halts.at is halts.ends in
      let replies : halts.at.replies ≡ halts.replies = halts.added in record {
        at = halts.at;
        run = halts.run;
        near = halts.near;
        stopped = elim closed [
          | inl a ↦ inl (
            last,
            a.0,
            record {
              may_stop = may;
              ends = end;
              written = rw (replies, halts.lines) (gets_then old mid new halts.replies (last_line last p.lines) halts.written a.1);
            },
          )
          | inr b ↦
              let cut = prefix_then old mid new halts.replies [] b.1 halts.written b.3 in
              inr (
                b.0,
                record {
                  line = b.1;
                  next = inr (last, may, end, rw halts.lines b.2);
                  written = rw replies (subst (λ (t : List (List ℕ)). GetsPrefix old new t b.1) (append-nil halts.replies) cut);
                },
              )
        ];
      }
