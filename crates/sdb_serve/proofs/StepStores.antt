-- A session before and after `new`.
use Rattle.std.proofs.Common.{◌≡◌, ℕ, Bool, true, false, List, Option, None, Some, refl, sym, ap, subst, ◌∙◌}
use Rattle.std.proofs.lemmas.Option.{same_Some}
use Rattle.sdb_script.specs.declared.Line.{Line}
use Rattle.sdb_script.specs.declared.Line.TheVariants as lines
use Rattle.sdb_script.specs.declared.Stage.{Stage}
use Rattle.pdb_disk.specs.Files.{Files}
use Rattle.pdb_pipe.specs.declared.database.Database.{Database}
use Rattle.sdb_serve.specs.Marks.{Reached}
use Rattle.sdb_serve.specs.Session.{SessionState}
use Rattle.sdb_serve.specs.Runs.{EndsAs}
use Rattle.sdb_serve.specs.inner.Steps.{LineFails}
use Rattle.sdb_serve.specs.inner.Stores.{HoldsBlocks, HoldsStore, Represents, seen_at}
use Rattle.sdb_serve.specs.declared.blocks.BlockMap.{BlockMap}
use Rattle.sdb_serve.specs.declared.cause.Cause.{Cause}
use Rattle.sdb_serve.specs.declared.cause.Cause.TheVariants as causes
use Rattle.sdb_serve.specs.declared.outcome.Mark.{Mark}
use Rattle.sdb_serve.specs.declared.session.Session.{Session}
use Rattle.sdb_serve.proofs.Answering.{no_test, stage_early}

-- what is seen of the disk after `new`
pub seen_in : {D : Type 0} (count : D → ℕ) (disk : Option D) (blocks : Option (BlockMap (Database D))) (m : BlockMap (Database D)) → blocks ≡ Some m
    → seen_at count disk blocks ≡ count m.keeper.redo.log.disk
seen_in {D = D} count None None m e = absurd cc
seen_in {D = D} count (Some d) None m e = absurd cc
seen_in {D = D} count None (Some n) m e = ap (λ (x : BlockMap (Database D)). count x.keeper.redo.log.disk) (same_Some n m e)
seen_in {D = D} count (Some d) (Some n) m e = ap (λ (x : BlockMap (Database D)). count x.keeper.redo.log.disk) (same_Some n m e)

module _ {D : Type 0} (tells : D → Bool) (clock : D → ℕ) (past : D → ℕ → Files) (given : D) where
  -- what is held after `new`
  abbrev pub Begun : Option D → BlockMap (Database D) → SessionState → Type 0
  Begun disk m s = (disk ≡ None) × (s.begun ≡ true) × HoldsBlocks tells clock past (tells given) m s

  pub begun_holds : (disk : Option D) (blocks : Option (BlockMap (Database D))) (m : BlockMap (Database D)) (s : SessionState)
      → HoldsStore tells clock past given disk blocks s → blocks ≡ Some m → Begun disk m s
  begun_holds None None m s h e = absurd h
  begun_holds (Some d) None m s h e = absurd cc
  begun_holds None (Some n) m s h e = (refl, h.0, subst (λ (x : BlockMap (Database D)). HoldsBlocks tells clock past (tells given) x s) (same_Some n m e) h.1)
  begun_holds (Some d) (Some n) m s h e = absurd h

  -- there are blocks where `new` was answered
  pub blocks_there : (disk : Option D) (blocks : Option (BlockMap (Database D))) (s : SessionState) → HoldsStore tells clock past given disk blocks s
      → s.begun ≡ true → (m : BlockMap (Database D)) × (blocks ≡ Some m)
  blocks_there None None s h e = absurd h
  blocks_there (Some d) None s h e = absurd (no_test (sym h.1 ∙ e))
  blocks_there None (Some m) s h e = (m, refl)
  blocks_there (Some d) (Some m) s h e = absurd h

  -- a line wasn't carried out for this cause: what that says of the session's parts
  abbrev pub EndsLine : Reached → Line → Cause → Option D → Option (BlockMap (Database D)) → List Mark → Type 0
  EndsLine a line cause disk blocks marks = LineFails tells clock past given a line cause
      × EndsAs cause (record { left = None; clock = seen_at clock disk blocks; marks = marks }) a
      × (cause ≡ causes.Occupied → (d : D) × (disk ≡ Some d) × (clock d ≡ clock given) × (past d ≡ past given))

  -- a stage before `new`
  pub ends_early : (a : Reached) (stage : Stage) (p : Session D) → Represents tells clock past given p a → p.blocks ≡ None
      → EndsLine a (lines.Stage stage) causes.BadLine p.disk p.blocks p.marks.items
  ends_early a stage p h none =
      (stage_early a.session stage (by_none p.disk p.blocks a.session h.store none), (h.time, h.marks), λ is. absurd cc)
    where
      by_none : (disk : Option D) (blocks : Option (BlockMap (Database D))) (s : SessionState) → HoldsStore tells clock past given disk blocks s → blocks ≡ None → s.begun ≡ false
      by_none None None s h e = absurd h
      by_none (Some d) None s h e = h.1
      by_none None (Some m) s h e = absurd cc
      by_none (Some d) (Some m) s h e = absurd h
