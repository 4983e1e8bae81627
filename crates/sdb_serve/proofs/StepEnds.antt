-- A stage's fault that says that a counter is at its end says it of what was counted in the run.
use Rattle.std.proofs.Common.{◌≡◌, ◌⊎◌, ◌+◌, ◌-◌, ◌^◌, ℕ, Bool, length, inl, inr, sym, ap, ap₂, subst, ◌∙◌, arith}
use Rattle.sdb_base.specs.Keeping.{IsCause}
use Rattle.sdb_base.specs.Pipeline.{Pipeline}
use Rattle.sdb_base.specs.declared.Counter.{Counter}
use Rattle.sdb_base.specs.declared.Counter.TheVariants as counters
use Rattle.sdb_base.specs.declared.numbers.KeeperCall.TheVariants as calls
use Rattle.sdb_base.specs.declared.numbers.KeepFault.{KeepFault}
use Rattle.sdb_base.specs.declared.numbers.KeepFault.TheVariants.{OutOfMemory, Disk, Stopped, ValueTooLong, IndexFull, TierFull, Damaged, NumbersEnd}
use Rattle.sdb_script.specs.declared.Line.TheVariants as lines
use Rattle.sdb_script.specs.declared.Stage.{Stage}
use Rattle.sdb_script.specs.declared.Stage.TheVariants.{Log, Clean}
use Rattle.pdb_disk.specs.Files.{Files}
use Rattle.pdb_log.specs.Standing.{end_of_log}
use Rattle.pdb_model.specs.Records.{record_bytes}
use Rattle.pdb_redo.specs.Reaches.{reach_of}
use Rattle.pdb_redo.specs.Tallies.{IsRedoTally}
use Rattle.pdb_pipe.specs.Faults.{CannotBePlanned, EndsLog, IsAtLastGate, IsDue, IsStoppedBy, PassesLog}
use Rattle.pdb_pipe.specs.Standing.{pipeline_of}
use Rattle.pdb_pipe.specs.declared.database.Database.{Database}
use Rattle.sdb_serve.specs.Marks.{Reached}
use Rattle.sdb_serve.specs.Runs.{LogsNext, MeetsEnd}

-- which stage meets the end of a counter
abbrev pub EndsIn : Stage → Counter → Type 0
EndsIn stage counters.Commits = ⊥
EndsIn stage counters.Records = stage ≡ Log
EndsIn stage counters.Gates = stage ≡ Clean
EndsIn stage counters.LogBytes = stage ≡ Log

module _ {D : Type 0} (tells : D → Bool) (clock : D → ℕ) (past : D → ℕ → Files) (db : Database D) (a : Reached) (stage : Stage)
    (same : pipeline_of db ≡ a.session.pipeline) (tally : IsRedoTally db.redo a.tally) (waits : stage ≡ Log → LogsNext a.session (lines.Stage stage)) where
  -- the fault says so of the run
  abbrev Met : KeepFault → Type 0
  Met OutOfMemory = Unit {0}
  Met Disk = Unit {0}
  Met (Stopped call) = Unit {0}
  Met (ValueTooLong len) = Unit {0}
  Met (IndexFull column bits chunk) = Unit {0}
  Met (TierFull column tier) = Unit {0}
  Met (Damaged file cell) = Unit {0}
  Met (NumbersEnd which) = MeetsEnd a (lines.Stage stage) which

  -- the last record is the one with the last number
  last_record : (db.redo.appended.number ≡ 2 ^ 64 - 1) ⊎ (db.redo.log.number ≡ 2 ^ 64 - 1) → a.tally.records ≡ 2 ^ 64 - 1
  last_record (inl e) = sym tally.appended ∙ e
  last_record (inr e) = let log = tally.log in sym log.records ∙ e

  -- the log file would be too long
  passes : PassesLog (end_of_log db.redo.log) (db.redo.appended.number + 1) ((reach_of db.redo).logged + 1)
      → PassesLog a.tally.bytes (a.tally.records + 1) (a.session.pipeline.numbers.logged + 1)
  passes p =
      let logged : (reach_of db.redo).logged ≡ a.session.pipeline.numbers.logged = ap (λ (x : Pipeline). x.numbers.logged) same in
      let len = ap₂ (λ (n : ℕ) (k : ℕ). length (record_bytes (record { number = n + 1; commits = k + 1; puts = p.0 }))) tally.appended logged in
      let long = p.3 in
      let log = tally.log in
      let bytes = log.bytes in
      (p.0, p.1, p.2, omega (arith, len, long, bytes))

  met_stop : (fault : KeepFault) → IsStoppedBy db fault → Met fault
  met_stop fault h = subst (λ (f : KeepFault). Met f) (sym h.1) tt

  met_log : (fault : KeepFault) → EndsLog db fault → stage ≡ Log → Met fault
  met_log fault (inl h) is = subst (λ (f : KeepFault). Met f) (sym h.0) (waits is, last_record h.1)
  met_log fault (inr h) is = subst (λ (f : KeepFault). Met f) (sym h.0) (waits is, passes h.1)

  met_planning : (fault : KeepFault) → CannotBePlanned tells clock past db fault → Met fault
  met_planning OutOfMemory h = tt
  met_planning Disk h = tt
  met_planning (Stopped call) h = tt
  met_planning (ValueTooLong len) h = tt
  met_planning (IndexFull column bits chunk) h = tt
  met_planning (TierFull column tier) h = tt
  met_planning (Damaged file cell) h = tt
  met_planning (NumbersEnd which) h = absurd h.0

  met_gate : (fault : KeepFault) → IsAtLastGate db fault → stage ≡ Clean → Met fault
  met_gate fault h is =
      let log = tally.log in
      let gates = log.gates in
      let last = h.2 in
      subst (λ (f : KeepFault). Met f) (sym h.0) (ap lines.Stage is, omega (arith, gates, last))

  in_log : (fault : KeepFault) → IsCause (IsDue tells clock past db calls.Log) fault → stage ≡ Log → Met fault
  in_log fault (inl e) is = subst (λ (f : KeepFault). Met f) (sym e) tt
  in_log fault (inr (inl e)) is = subst (λ (f : KeepFault). Met f) (sym e) tt
  in_log fault (inr (inr (inl h))) is = met_stop fault h
  in_log fault (inr (inr (inr (inl h)))) is = met_log fault h is
  in_log fault (inr (inr (inr (inr h)))) is = met_planning fault h

  in_clean : (fault : KeepFault) → IsCause (IsDue tells clock past db calls.Clean) fault → stage ≡ Clean → Met fault
  in_clean fault (inl e) is = subst (λ (f : KeepFault). Met f) (sym e) tt
  in_clean fault (inr (inl e)) is = subst (λ (f : KeepFault). Met f) (sym e) tt
  in_clean fault (inr (inr (inl h))) is = met_stop fault h
  in_clean fault (inr (inr (inr h))) is = met_gate fault h is

  pub meets : (fault : KeepFault) → (stage ≡ Log → IsCause (IsDue tells clock past db calls.Log) fault)
      → (stage ≡ Clean → IsCause (IsDue tells clock past db calls.Clean) fault)
      → (which : Counter) → EndsIn stage which → fault ≡ NumbersEnd which → MeetsEnd a (lines.Stage stage) which
  meets fault log clean counters.Commits at e = absurd at
  meets fault log clean counters.Records at e = subst (λ (f : KeepFault). Met f) e (in_log fault (log at) at)
  meets fault log clean counters.Gates at e = subst (λ (f : KeepFault). Met f) e (in_clean fault (clean at) at)
  meets fault log clean counters.LogBytes at e = subst (λ (f : KeepFault). Met f) e (in_log fault (log at) at)
