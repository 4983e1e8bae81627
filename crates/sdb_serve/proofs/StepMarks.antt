-- A step of a stage with its mark.
use Rattle.std.proofs.Common.{◌≡◌, ℕ, ◌+◌, Bool, List, [], ◌∷◌, ◌++◌, Some, refl, sym, ap, ap₂, subst, ◌∙◌}
use Rattle.std.proofs.lemmas.List.{append-nil}
use Rattle.sdb_base.specs.Pipeline.{Pipeline}
use Rattle.sdb_base.specs.declared.numbers.StageAnswer.{StageAnswer}
use Rattle.sdb_base.specs.declared.numbers.StageAnswer.TheVariants.{Logged, Flushed, Enacted, Cleaned, Grown}
use Rattle.sdb_script.specs.declared.Line.TheVariants as lines
use Rattle.sdb_script.specs.declared.LineReply.TheVariants as replies
use Rattle.sdb_script.specs.declared.Stage.{Stage}
use Rattle.pdb_disk.specs.Files.{Files}
use Rattle.pdb_pipe.specs.Stages.{TakesTime, TallyGoes}
use Rattle.pdb_pipe.specs.Standing.{pipeline_of}
use Rattle.pdb_pipe.specs.declared.database.Database.{Database}
use Rattle.sdb_serve.specs.Crowding.{LoggedFits}
use Rattle.sdb_serve.specs.Marks.{Reached, flush_marks}
use Rattle.sdb_serve.specs.Session.{SessionState}
use Rattle.sdb_serve.specs.StageLines.{after_stage, stage_reply}
use Rattle.sdb_serve.specs.inner.Steps.{HasAnswered, StageTaken}
use Rattle.sdb_serve.specs.inner.Stores.{HoldsStore, HoldsTally, disk_count}
use Rattle.sdb_serve.specs.declared.blocks.BlockMap.{BlockMap}
use Rattle.sdb_serve.specs.declared.outcome.Mark.{Mark}
use Rattle.sdb_serve.specs.declared.session.Session.{Session}
use Rattle.sdb_serve.proofs.Answering.{stage_line}
use Rattle.sdb_serve.proofs.StepStores.{begun_holds, blocks_there, seen_in}

-- the mark of a flush in the line after so many
abbrev mark_of : ℕ → ℕ → ℕ → ℕ → Mark
mark_of lines calls accepted flushed = record { line = lines + 1; calls = calls; accepted = accepted; flushed = flushed }

module _ {D : Type 0} (tells : D → Bool) (clock : D → ℕ) (past : D → ℕ → Files) (given : D) (a : Reached) (stage : Stage) (answer : StageAnswer) (p : Session D)
    (t : StageTaken tells clock past given a stage answer p) where
  -- what is known after the line, and its marks
  abbrev known : SessionState
  known = record a.session { pipeline = after_stage a.session.pipeline stage }

  abbrev marks_after : StageAnswer → List Mark
  marks_after said = a.marks ++ flush_marks (a.lines + 1) said t.now known.pipeline.numbers.accepted

  answered : (q : Session D) (said : StageAnswer) → said ≡ answer → q ≡ record p { marks = q.marks } → q.marks.items ≡ marks_after said
      → HasAnswered tells clock past given a (lines.Stage stage) (Some (replies.Stage said)) q
  answered q said same rest marks = record {
    model = Some (replies.Stage (stage_reply a.session.pipeline stage));
    next = known;
    answered = stage_line a.session stage t.begun;
    may = (
      ap (λ (x : StageAnswer). Some (replies.Stage x)) (same ∙ t.is),
      λ told clear. subst (λ (x : StageAnswer). LoggedFits a.session x) t.is (t.fits told clear),
    );
    now = t.now;
    time = subst (λ (x : StageAnswer). TakesTime x a.clock t.now) (sym same) t.time;
    counted = t.counted;
    tally = subst (λ (x : StageAnswer). TallyGoes x a.tally t.counted) (sym same) t.tally;
    represents = record {
      window = ap (λ (x : Session D). x.window) rest ∙ t.represents.window;
      read = ap (λ (x : Session D). x.read) rest ∙ t.represents.read;
      lines = ap (λ (x : Session D). x.lines) rest ∙ t.represents.lines;
      time = ap (λ (x : Session D). disk_count clock x) rest ∙ t.represents.time;
      marks = marks;
      tally = subst (λ (x : Session D). HoldsTally x.blocks t.counted) (sym rest) t.represents.tally;
      store = subst (λ (x : Session D). HoldsStore tells clock past given x.disk x.blocks known) (sym rest) t.represents.store;
    };
  }

  unmarked : (said : StageAnswer) → ((n : ℕ) → said ≡ Flushed n → ⊥) → flush_marks (a.lines + 1) said t.now known.pipeline.numbers.accepted ≡ []
  unmarked (Logged x) not = refl
  unmarked (Flushed n) not = absurd (not n refl)
  unmarked (Enacted x) not = refl
  unmarked (Cleaned n) not = refl
  unmarked (Grown x) not = refl

  pub no_flush : (said : StageAnswer) → said ≡ answer → ((n : ℕ) → answer ≡ Flushed n → ⊥)
      → HasAnswered tells clock past given a (lines.Stage stage) (Some (replies.Stage said)) p
  no_flush said same not = answered p said same refl (t.represents.marks ∙ sym (append-nil a.marks)
      ∙ ap (λ (ms : List Mark). a.marks ++ ms) (sym (unmarked said (λ n e. not n (sym same ∙ e)))))

  pub a_flush : (q : Session D) (said : StageAnswer) (n : ℕ) → said ≡ Flushed n → answer ≡ Flushed n → q ≡ record p { marks = q.marks }
      → ((m : BlockMap (Database D)) → p.blocks ≡ Some m → q.marks.items ≡ p.marks.items ++ record {
        line = p.lines + 1;
        calls = clock m.keeper.redo.log.disk;
        accepted = (pipeline_of m.keeper).numbers.accepted;
        flushed = n;
      } ∷ [])
      → HasAnswered tells clock past given a (lines.Stage stage) (Some (replies.Stage said)) q
  a_flush q said n is flushes rest marked =
      let m = blocks_there tells clock past given p.disk p.blocks known t.represents.store t.begun in
      let held = begun_holds tells clock past given p.disk p.blocks m.0 known t.represents.store m.1 in
      let clock_is = sym (seen_in clock p.disk p.blocks m.0 m.1) ∙ t.represents.time in
      let accepted_is = ap (λ (x : Pipeline). x.numbers.accepted) held.2.pipeline in
      answered q said (is ∙ sym flushes) rest (marked m.0 m.1
      ∙ ap₂ (λ (ms : List Mark) (k : ℕ). ms ++ mark_of k (clock m.0.keeper.redo.log.disk) (pipeline_of m.0.keeper).numbers.accepted n ∷ []) t.represents.marks t.represents.lines
      ∙ ap₂ (λ (k : ℕ) (l : ℕ). a.marks ++ mark_of a.lines k l n ∷ []) clock_is accepted_is
      ∙ ap marks_after (sym is))
