-- Log files without records are empty.
use Rattle.std.proofs.Common.{◌≡◌, ℕ, List, [], ◌∷◌, ◌++◌, length, refl, ◌∙◌, ap, arith}
use Rattle.std.specs.Prelude.{Bool}
use Rattle.pdb_disk.specs.Files.{FileState, Files}
use Rattle.pdb_log.specs.Ledger.{IsEmptyFile, IsSegment, Segment, file_of, records_of, spelled_records, writes_of}
use Rattle.pdb_model.specs.Logs.{IsLogFile}
use Rattle.pdb_model.specs.Records.{Record}
use Rattle.pdb_model.specs.Recovery.{Row}
use Rattle.pdb_model.specs.declared.gate_slot.GateSlot.{GateSlot}
use Rattle.pdb_redo.specs.Standing.{IsStanding}
use Rattle.pdb_redo.specs.declared.redo_log.Mark.{Mark}
use Rattle.pdb_redo.specs.declared.redo_log.Redo.{Redo}

front_none : (xs ys : List Record) → xs ++ ys ≡ [] → xs ≡ []
front_none [] ys e = refl
front_none (x ∷ xs) ys e = cc

back_none : (xs ys : List Record) → xs ++ ys ≡ [] → ys ≡ []
back_none [] ys e = e
back_none (x ∷ xs) ys e = cc

pub no_length : (xs : List Record) → length xs ≡ 0 → xs ≡ []
no_length [] e = refl
no_length (x ∷ xs) e = absurd (omega (arith, e))

pub empty_file : (s : FileState) (g : Segment) → IsSegment s g → s.read ≡ file_of (spelled_records (records_of g)) → records_of g ≡ [] → IsEmptyFile s
empty_file s g is read none = record {
  read = read ∙ ap (λ (rs : List Record). file_of (spelled_records rs)) none;
  kept = is.kept_bytes ∙ ap (λ (rs : List Record). file_of (spelled_records rs)) (front_none g.kept g.pending none);
  since = is.since ∙ ap (writes_of (length (spelled_records g.kept))) (back_none g.kept g.pending none);
}

-- the gate has passed all records
pub nothing_waits : {D : Type 0} (tells : D → Bool) (clock : D → ℕ) (past : D → ℕ → Files) (r : Redo D) (rows : List Row) (f : ℕ) (is : IsStanding tells clock past r rows f)
    → r.enacted.number ≡ r.log.gate.number → r.enacted.number ≡ r.appended.number → is.0.flushed ++ is.0.rest ≡ []
nothing_waits tells clock past r rows f is at_gate all = no_length (is.0.flushed ++ is.0.rest)
    (let a = ap (λ (m : Mark). m.number) is.1.appended in
    let g = ap (λ (s : GateSlot). s.number) is.1.log.gate_is in
    omega (arith, a, g, at_gate, all))

pub files_empty : {D : Type 0} (tells : D → Bool) (clock : D → ℕ) (past : D → ℕ → Files) (r : Redo D) (rows : List Row) (f : ℕ) (is : IsStanding tells clock past r rows f)
    → is.0.flushed ++ is.0.rest ≡ [] → (j : ℕ) → IsLogFile j → IsEmptyFile (past r.log.disk (clock r.log.disk) j)
files_empty tells clock past r rows f is none j m = empty_file _ (is.0.segments j) (is.1.log.segments j m) (is.1.log.read j m) (is.1.empty none j m)
