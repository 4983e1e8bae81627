-- A redo that begins on recovered files.
use Rattle.std.proofs.Common.{◌≡◌, inl, inr, ℕ, zero, suc, ◌+◌, List, [], ◌∷◌, take, None, refl, sym, ◌∙◌, ap, arith}
use Rattle.std.specs.Prelude.{Bool, slice_get}
use Rattle.std.specs.Option.{unwrap_or}
use Rattle.std.proofs.lemmas.Option.{same_Some}
use Rattle.pdb_disk.specs.Files.{Files, IsImage, reads_of}
use Rattle.pdb_log.specs.Ledger.{AreRows, fresh_ledger}
use Rattle.pdb_log.specs.Recovered.{IsRecovered}
use Rattle.pdb_log.specs.Standing.{IsLog}
use Rattle.pdb_model.specs.Files.{head_cell}
use Rattle.pdb_model.specs.Logs.{gate_file}
use Rattle.pdb_model.specs.Records.{Record}
use Rattle.pdb_model.specs.Recovery.{Row, cells_of_files, commits_after, laid_over}
use Rattle.pdb_model.specs.declared.gate_slot.GateSlot.{GateSlot}
use Rattle.pdb_redo.specs.Backlogs.{records_in}
use Rattle.pdb_redo.specs.Heads.{head_in}
use Rattle.pdb_redo.specs.Places.{newest}
use Rattle.pdb_redo.specs.Standing.{IsRedo}
use Rattle.pdb_redo.specs.declared.redo_log.Mark.{Mark}
use Rattle.pdb_redo.specs.declared.redo_log.Redo.{Redo}
use Rattle.pdb_redo.proofs.PutHeads.{heads_of_row}
use Rattle.pdb_redo.proofs.Redos.{moved_row}

take_none : (k : ℕ) → ◌≡◌ {A = List Record} [] (take k [])
take_none zero = refl
take_none (suc k) = refl

-- the only row
pub one_row : (fs : Files) (gate : GateSlot) (row : Row) → IsRecovered fs gate row → AreRows (row ∷ []) 0 fs (fresh_ledger gate)
one_row fs gate row is k le x image = record {
  row = row;
  there = let e : 0 ≡ 0 + k = omega (arith, le) in ap (slice_get (row ∷ [])) (sym e);
  cells = λ file index. is.cells x image file index ∙ ap (λ (rs : List Record). laid_over rs (cells_of_files x) file index) (take_none k);
  commits = is.commits ∙ ap (commits_after gate.commits) (take_none k);
}

pub gate_reads : (fs : Files) (gate : GateSlot) (row : Row) → IsRecovered fs gate row → (fs gate_file).read ≡ (fs gate_file).kept
gate_reads fs gate row is = sym (is.settled gate_file (inl (omega arith))).kept

module _ {D : Type 0} (tells : D → Bool) (clock : D → ℕ) (past : D → ℕ → Files) (new : Redo D) (gate : GateSlot) (row : Row) where
  abbrev now : Files
  now = past new.log.disk (clock new.log.disk)

  abbrev mark : Mark
  mark = record { number = gate.number; commits = gate.commits }

  pub begun_redo : IsImage (past new.log.disk (clock new.log.disk)) (reads_of (past new.log.disk (clock new.log.disk))) → IsRecovered (past new.log.disk (clock new.log.disk)) gate row
      → IsLog tells clock past new.log (fresh_ledger gate) (row ∷ []) 0 → records_in new.backlog ≡ [] → new.heads.first ≡ head_cell row.cells 0 → new.heads.second ≡ head_cell row.cells 1
      → new.appended ≡ record { number = gate.number; commits = gate.commits } → new.flushed ≡ record { number = gate.number; commits = gate.commits }
      → new.enacted ≡ record { number = gate.number; commits = gate.commits } → new.stopped ≡ None → IsRedo tells clock past new (fresh_ledger gate) (row ∷ []) 0
  begun_redo image is log records one two appended flushed enacted stopped = record {
    log = log;
    running = stopped;
    done = 0;
    flushed_first = omega arith;
    waiting = records;
    appended = appended ∙ at_gate;
    flushed = flushed ∙ at_gate;
    enacted = enacted ∙ at_gate;
    read = λ k le. moved_row (row ∷ []) 0 (0 + k) now now [] (take k []) (omega (arith, le)) (take_none k) (λ file index. refl)
        (record { row = row; there = refl; cells = λ file index. is.cells (reads_of now) image file index });
    last = λ other there file index.
        ap (λ (rs : List Record). unwrap_or (head_in new.heads (record { file = file; index = index })) (unwrap_or (newest rs (record { file = file; index = index })) (cells_of_files (reads_of now) file index))) records
        ∙ ap (unwrap_or (head_in new.heads (record { file = file; index = index }))) (sym (is.cells (reads_of now) image file index))
        ∙ heads_of_row new.heads row.cells one two file index
        ∙ ap (λ (w : Row). w.cells file index) (same_Some row other there);
    settled = λ j sized un. is.settled j (inr sized);
    empty = λ none j m. refl;
  }
    where
      at_gate : mark ≡ record { number = gate.number + 0; commits = gate.commits }
      at_gate = ap (λ n. record { number = n; commits = gate.commits }) (omega arith)
