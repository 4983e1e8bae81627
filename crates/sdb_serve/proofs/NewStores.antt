-- What a line `new` makes of a session, and why it isn't carried out.
use Rattle.std.proofs.Common.{◌≡◌, ◌≤◌, ℕ, ◌+◌, Bool, true, false, List, [], ◌∷◌, ◌++◌, Option, None, Some, is_some, refl, sym, ap, ap₂, subst, ◌∙◌, arith}
use Rattle.std.specs.Prelude.{IsTrue}
use Rattle.std.proofs.lemmas.Option.{same_Some}
use Rattle.sdb_base.specs.declared.Block.{Block}
use Rattle.sdb_script.specs.declared.Line.TheVariants as lines
use Rattle.sdb_script.specs.declared.LineReply.TheVariants as replies
use Rattle.pdb_disk.specs.Files.{Files, reads_of}
use Rattle.pdb_log.specs.Tallies.{no_tally}
use Rattle.pdb_redo.specs.Answers.{CreateSays}
use Rattle.pdb_redo.specs.Creating.{HasNoGate}
use Rattle.pdb_redo.specs.Tallies.{IsRedoTally}
use Rattle.pdb_redo.specs.declared.fault.CreateCause.{CreateCause}
use Rattle.pdb_redo.specs.declared.fault.CreateCause.TheVariants as create
use Rattle.pdb_pipe.specs.Standing.{StandsFor, bases_of, pipeline_at, pipeline_of, same_bases}
use Rattle.pdb_pipe.specs.declared.database.Database.{Database}
use Rattle.sdb_serve.specs.Marks.{Reached}
use Rattle.sdb_serve.specs.Runs.{EndsWithin}
use Rattle.sdb_serve.specs.Session.{SessionState, answer, no_commits}
use Rattle.sdb_serve.specs.inner.Blocks.{KeepsBlocks, RepresentsBlocks}
use Rattle.sdb_serve.specs.inner.Steps.{HasAnswered, cause_of_creating}
use Rattle.sdb_serve.specs.inner.Stores.{HoldsBlocks, HoldsStore, HoldsTally, Represents, seen_at}
use Rattle.sdb_serve.specs.declared.blocks.BlockMap.{BlockMap}
use Rattle.sdb_serve.specs.declared.cause.Cause.TheVariants as causes
use Rattle.sdb_serve.specs.declared.outcome.Mark.{Mark}
use Rattle.sdb_serve.specs.declared.session.Session.{Session}
use Rattle.sdb_serve.proofs.Answering.{new_again, new_first, no_test}
use Rattle.sdb_serve.proofs.StepStores.{EndsLine}

-- the mark of `new` in the line after so many
abbrev pub new_mark : ℕ → ℕ → Mark
new_mark lines calls = record { line = lines + 1; calls = calls; accepted = 0; flushed = 0 }

module _ {D : Type 0} (tells : D → Bool) (clock : D → ℕ) (past : D → ℕ → Files) (given : D) where
  -- what is held before `new`, and after it
  abbrev Unbegun : Option D → SessionState → Type 0
  Unbegun disk s = (disk ≡ Some given) × (s.begun ≡ false) × (s.blocks ≡ [])

  pub begun_with : (disk : Option D) (blocks : Option (BlockMap (Database D))) (s : SessionState) → HoldsStore tells clock past given disk blocks s
      → is_some blocks ≡ true → s.begun ≡ true
  begun_with None None s h e = absurd h
  begun_with (Some d) None s h e = absurd (no_test e)
  begun_with None (Some m) s h e = h.0
  begun_with (Some d) (Some m) s h e = absurd h

  pub begun_without : (disk : Option D) (blocks : Option (BlockMap (Database D))) (s : SessionState) → HoldsStore tells clock past given disk blocks s
      → is_some blocks ≡ false → Unbegun disk s
  begun_without None None s h e = absurd h
  begun_without (Some d) None s h e = (ap Some h.0, h.1, h.2)
  begun_without None (Some m) s h e = absurd (no_test (sym e))
  begun_without (Some d) (Some m) s h e = absurd h

  -- it isn't the first
  pub ends_again : (a : Reached) (base : ℕ) (p : Session D) → Represents tells clock past given p a → is_some p.blocks ≡ true
      → EndsLine tells clock past given a (lines.New base) causes.BadLine p.disk p.blocks p.marks.items
  ends_again a base p h e = (new_again a.session base (begun_with p.disk p.blocks a.session h.store e), (h.time, h.marks), λ is. absurd cc)

  module _ (a : Reached) (base : ℕ) (p : Session D) (d : D) (h : Represents tells clock past given p a) (there : p.disk ≡ Some d) (none : p.blocks ≡ None) where
    -- what is known after it
    abbrev begun_session : SessionState
    begun_session = record a.session { begun = true; pipeline = no_commits base }

    unbegun : Unbegun p.disk a.session
    unbegun = begun_without p.disk p.blocks a.session h.store (ap is_some none)

    is_given : d ≡ given
    is_given = same_Some d given (sym there ∙ unbegun.0)

    time_was : clock d ≡ a.clock
    time_was = sym (ap₂ (seen_at clock) there none) ∙ h.time

    module _ (m : BlockMap (Database D)) (db : Database D) (same : m.keeper ≡ db) where
      pub held_after : RepresentsBlocks m [] → pipeline_of db ≡ pipeline_at 0 (bases_of db) → bases_of db ≡ same_bases base → db.redo.stopped ≡ None
          → (IsTrue (tells d) → KeepsBlocks (λ x c. StandsFor tells clock past x c) m [] []) → HoldsBlocks tells clock past (tells given) m begun_session
      held_after blocks pipeline bases running kept = record {
        blocks = subst (λ (bs : List Block). RepresentsBlocks m bs) (sym unbegun.2) blocks;
        pipeline = ap pipeline_of same ∙ pipeline ∙ ap (pipeline_at 0) bases;
        running = ap (λ (x : Database D). x.redo.stopped) same ∙ running;
        kept = λ told. (
          [],
          subst (λ (bs : List Block). KeepsBlocks (λ x c. StandsFor tells clock past x c) m bs []) (sym unbegun.2)
              (kept (subst (λ (x : D). IsTrue (tells x)) (sym is_given) told)),
        );
      }

      pub answered_new : (q : Session D) → q.disk ≡ None → q.blocks ≡ Some m → q.window ≡ p.window → q.read ≡ p.read → q.lines ≡ p.lines
          → (kept : List Mark) (calls : ℕ) → kept ≡ p.marks.items → calls ≡ clock db.redo.log.disk → q.marks.items ≡ kept ++ new_mark p.lines calls ∷ []
          → clock d ≤ clock db.redo.log.disk → (IsTrue (tells d) → HasNoGate (reads_of (past d (clock d)))) → HoldsBlocks tells clock past (tells given) m begun_session
          → IsRedoTally db.redo no_tally → HasAnswered tells clock past given a (lines.New base) (Some replies.New) q
      answered_new q no_disk some window read count kept calls same_marks same_calls marks later free held counted = record {
        model = Some replies.New;
        next = begun_session;
        answered = new_first a.session base unbegun.1;
        may = (refl, subst (λ (x : D). IsTrue (tells x) → HasNoGate (reads_of (past x (clock x)))) is_given free);
        now = clock db.redo.log.disk;
        time = let e = time_was in omega (arith, e, later);
        counted = no_tally;
        tally = refl;
        represents = record {
          window = window ∙ h.window;
          read = read ∙ h.read;
          lines = count ∙ h.lines;
          time = ap₂ (seen_at clock) no_disk some ∙ ap (λ (x : Database D). clock x.redo.log.disk) same;
          marks = marks ∙ ap (λ (k : ℕ). kept ++ new_mark p.lines k ∷ []) same_calls
              ∙ ap₂ (λ (ms : List Mark) (n : ℕ). ms ++ new_mark n (clock db.redo.log.disk) ∷ []) (same_marks ∙ h.marks) h.lines;
          store = subst (λ (x : Option D). HoldsStore tells clock past given x q.blocks begun_session) (sym no_disk)
              (subst (λ (y : Option (BlockMap (Database D))). HoldsStore tells clock past given None y begun_session) (sym some) (refl, held));
          tally = subst (λ (y : Option (BlockMap (Database D))). HoldsTally y no_tally) (sym some)
              (subst (λ (x : Database D). IsRedoTally x.redo no_tally) (sym same) counted);
        };
      }

    -- no database is made
    pub ends_creating : (fault : CreateCause) (e : D) (marks : List Mark) → marks ≡ p.marks.items → clock d ≤ clock e
        → (IsTrue (tells d) → CreateSays (reads_of (past d (clock d))) fault) → (fault ≡ create.Occupied → (clock e ≡ clock d) × (past e ≡ past d))
        → EndsLine tells clock past given a (lines.New base) (cause_of_creating fault) (Some e) p.blocks marks
    ends_creating fault e marks same_marks later says untouched = by_fault fault says untouched
      where
        said : answer a.session (lines.New base) ≡ Some (Some replies.New, begun_session)
        said = new_first a.session base unbegun.1

        clock_is : seen_at clock (Some e) p.blocks ≡ clock e
        clock_is = ap (seen_at clock (Some e)) none

        within : EndsWithin (record { left = None; clock = seen_at clock (Some e) p.blocks; marks = marks }) a
        within = let was = time_was in let is = clock_is in (omega (arith, was, is, later), same_marks ∙ h.marks)

        by_fault : (f : CreateCause) → (IsTrue (tells d) → CreateSays (reads_of (past d (clock d))) f) → (f ≡ create.Occupied → (clock e ≡ clock d) × (past e ≡ past d))
            → EndsLine tells clock past given a (lines.New base) (cause_of_creating f) (Some e) p.blocks marks
        by_fault create.OutOfMemory says untouched = (tt, within, λ is. absurd cc)
        by_fault create.Occupied says untouched =
            let same = untouched refl in (
              (
                _,
                _,
                said,
                (
                  base,
                  refl,
                  subst (λ (x : D). IsTrue (tells x) → HasNoGate (reads_of (past x (clock x))) → ⊥) is_given
                      (λ told free. let gate = says told in free gate.0 gate.1),
                ),
              ),
              (clock_is ∙ same.0 ∙ time_was, same_marks ∙ h.marks),
              λ is. (e, refl, same.0 ∙ ap clock is_given, same.1 ∙ ap past is_given),
            )
        by_fault (create.Disk f) says untouched = ((_, _, said, tt), within, λ is. absurd cc)
