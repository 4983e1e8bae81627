-- What comes after a call of a redo.
use Rattle.std.proofs.Common.{◌≡◌, ◌≤◌, ◌-◌, ◌^◌, ℕ, Bool, true, false, Option, None, Some, Result, Err, refl, sym, ap, arith, append-nil}
use Rattle.std.specs.Prelude.{[]}
use Rattle.sdb_io.specs.Faults.{CountsFault}
use Rattle.sdb_base.specs.Keeping.{Commits}
use Rattle.pdb_disk.specs.Files.{Files}
use Rattle.pdb_redo.specs.Answers.{IsOfCleaning, StopsAt, is_redo_disk}
use Rattle.pdb_redo.specs.Reaches.{Advances, RedoGoesOn, Reach, reach_of}
use Rattle.pdb_redo.specs.Standing.{KeepsRedo}
use Rattle.pdb_redo.specs.declared.fault.RedoFault.{RedoFault}
use Rattle.pdb_redo.specs.declared.fault.RedoFault.TheVariants.{Disk, NumbersEnd, OutOfMemory, Stopped}
use Rattle.pdb_redo.specs.declared.redo_log.Redo.{Redo}
use Rattle.pdb_redo.proofs.Kept.{keeps_going, keeps_reach}
use Rattle.pdb_pipe.specs.Going.{ComesAfter, ComesAfterWith}
use Rattle.pdb_pipe.specs.declared.database.Database.{Database}
use Rattle.pdb_pipe.proofs.StageCauses.{Refuses}

-- a count that fits its type doesn't fall
pub counts_rise : (failed : Bool) (before after : ℕ) → before ≤ 2 ^ 64 - 1 → CountsFault failed before after → before ≤ after
counts_rise false before after fits h = omega (arith, h)
counts_rise true before after fits h = omega (arith, fits, h)

pub logged_stays : (answer : Option ℕ) (r s : Reach) → Advances r answer s → s.logged ≡ r.logged
logged_stays None r s h = ap (λ (t : Reach). t.logged) h.1
logged_stays (Some n) r s h = ap (λ (t : Reach). t.logged) h.4

pub refuses : {D : Type 0} (T : Type 0) (old new : Redo D) (now : ℕ) (e : RedoFault) → (old.stopped ≡ None → StopsAt {T = T} now new.stopped (Err e))
    → ((call : ℕ) → old.stopped ≡ Some call → (◌≡◌ {A = Result T RedoFault} (Err e) (Err (Stopped call))) × (new ≡ old)) → Refuses T old.stopped new.stopped now e
refuses {D} T old new now e runs was = record {
  runs = runs;
  was = λ call is. let p = (was call is).0 in let q = ap (λ (r : Redo D). r.stopped) (was call is).1 in (cc, cc);
}

-- a `clean` that was refused without a stop changed nothing
pub clean_rests : {D : Type 0} (T : Type 0) (old new : Redo D) (now : ℕ) (e : RedoFault) → IsOfCleaning e → StopsAt {T = T} now new.stopped (Err e)
    → (is_redo_disk e ≡ false → new ≡ old) → new.stopped ≡ None → new ≡ old
clean_rests T old new now OutOfMemory of stops rests none = absurd of
clean_rests T old new now (Disk fault) of stops rests none = absurd (cc)
clean_rests T old new now (Stopped call) of stops rests none = absurd stops
clean_rests T old new now (NumbersEnd which) of stops rests none = rests refl

module _ {D : Type 0} (clock : D → ℕ) (past : D → ℕ → Files) (fault_count : D → ℕ) (old new : Database D) where
  pub comes_by : (failed : Bool) → fault_count old.redo.log.disk ≤ 2 ^ 64 - 1 → CountsFault failed (fault_count old.redo.log.disk) (fault_count new.redo.log.disk)
      → RedoGoesOn clock past old.redo new.redo → (reach_of old.redo).flushed ≤ (reach_of new.redo).flushed → ComesAfter clock past fault_count old new
  comes_by failed fits counts goes_on flushed = record { faults = counts_rise failed _ _ fits counts; goes_on = goes_on; flushed = flushed }

  -- with the same commits
  pub comes_with : (commits : Commits) → ComesAfter clock past fault_count old new → ComesAfterWith clock past fault_count old commits new commits
  comes_with commits after = (after, ([], sym (append-nil commits)))

  -- after reads
  pub comes_read : (tells : D → Bool) → KeepsRedo tells clock past fault_count old.redo new.redo → ComesAfter clock past fault_count old new
  comes_read tells keeps = record {
    faults = keeps.faults;
    goes_on = keeps_going tells clock past fault_count old.redo new.redo keeps;
    flushed = (let e = ap (λ (t : Reach). t.flushed) (keeps_reach tells clock past fault_count old.redo new.redo keeps) in omega (arith, e));
  }
