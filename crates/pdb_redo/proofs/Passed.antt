-- A redo whose enacted records the gate has passed.
use Rattle.std.proofs.Common.{◌≡◌, ℕ, ◌+◌, Bool, true, false, List, [], ◌++◌, length, take, drop, if◌then◌else◌, refl, sym, ◌∙◌, ap, ap₂, arith, append-nil, length-append, length-drop}
use Rattle.std.specs.Prelude.{IsSome}
use Rattle.std.proofs.lemmas.Option.{same_Some}
use Rattle.std.proofs.lemmas.List.{drop-append-le, length-take-le, take-append-drop}
use Rattle.pdb_cells.specs.Sizes.{size_of}
use Rattle.pdb_disk.specs.Files.{Files, IsImage, IsSynced, reads_of}
use Rattle.pdb_log.specs.Ledger.{IsNextGate, Ledger, Segment, cleared, emptied, files_cleared, has_passed, records_of}
use Rattle.pdb_log.specs.Standing.{IsLog, next_gate}
use Rattle.pdb_log.specs.declared.log.Log.{Log}
use Rattle.pdb_model.specs.Logs.{IsLogFile}
use Rattle.pdb_model.specs.Records.{Record}
use Rattle.pdb_model.specs.Recovery.{Row, cells_of_files, commits_after, laid_over}
use Rattle.pdb_model.specs.declared.gate_slot.GateSlot.{GateSlot}
use Rattle.pdb_redo.specs.Backlogs.{records_in}
use Rattle.std.specs.Option.{unwrap_or}
use Rattle.pdb_redo.specs.Heads.{head_in}
use Rattle.pdb_redo.specs.Places.{newest}
use Rattle.pdb_redo.specs.declared.heads.Heads.{Heads}
use Rattle.pdb_redo.specs.Standing.{IsRedo, cells_under_records}
use Rattle.pdb_redo.specs.declared.redo_log.Mark.{Mark}
use Rattle.pdb_redo.specs.declared.redo_log.Redo.{Redo}
use Rattle.pdb_redo.specs.inner.Writing.{Passes, files_now}
use Rattle.pdb_redo.proofs.CellSizes.{sized_cells}
use Rattle.pdb_redo.proofs.Emptied.{no_length}
use Rattle.pdb_redo.proofs.Layers.{commits-append, laid_alike}
use Rattle.pdb_redo.proofs.Redos.{moved_row}
use Rattle.pdb_redo.proofs.Settled.{image_read}

cleared_once : (t : Bool) (l : Ledger) (file n : ℕ) → (if t then emptied l file n else l) ≡ record l { segments = (if t then emptied l file n else l).segments }
cleared_once true l file n = refl
cleared_once false l file n = refl

-- clearing files changes segments alone
pub cleared_as : (l : Ledger) (n : ℕ) → files_cleared l n ≡ record l { segments = (files_cleared l n).segments }
cleared_as l n = one (cleared (cleared (cleared l 1 n) 2 n) 3 n) 4 ∙ ap with_those (one (cleared (cleared l 1 n) 2 n) 3 ∙ ap with_third (one (cleared l 1 n) 2 ∙ ap with_second (one l 1)))
  where
    one : (m : Ledger) (file : ℕ) → cleared m file n ≡ record m { segments = (cleared m file n).segments }
    one m file = cleared_once (has_passed (m.segments file) m.gate.number) m file n

    with_those : Ledger → Ledger
    with_those m = record m { segments = (files_cleared l n).segments }

    with_third : Ledger → Ledger
    with_third m = record m { segments = (cleared (cleared (cleared l 1 n) 2 n) 3 n).segments }

    with_second : Ledger → Ledger
    with_second m = record m { segments = (cleared (cleared l 1 n) 2 n).segments }

module _ {D : Type 0} (tells : D → Bool) (clock : D → ℕ) (past : D → ℕ → Files) (old : Redo D) (mid : Log D) (l : Ledger) (rows : List Row) (f : ℕ)
    (is : IsRedo tells clock past old l rows f) (passes : Passes tells clock past old.log mid) (image : IsImage (files_now clock past old.log) (reads_of (files_now clock past old.log))) where
  abbrev gone : List Record
  gone = take is.done l.flushed

  abbrev left : List Record
  left = drop is.done l.flushed

  abbrev gate : GateSlot
  gate = next_gate mid old.enacted.number old.enacted.commits

  gate_is : mid.gate ≡ l.gate
  gate_is = ap (λ (log : Log D). log.gate) passes.rest ∙ is.log.gate_is

  its_commits : gate.commits ≡ commits_after l.gate.commits gone
  its_commits = ap (λ (m : Mark). m.commits) is.enacted

  its_number : gate.number ≡ l.gate.number + is.done
  its_number = ap (λ (m : Mark). m.number) is.enacted

  rest_of : (ys : List Record) → drop is.done (l.flushed ++ ys) ≡ left ++ ys
  rest_of ys = drop-append-le is.done l.flushed ys is.flushed_first

  commits_of : (ys : List Record) → commits_after l.gate.commits (l.flushed ++ ys) ≡ commits_after gate.commits (left ++ ys)
  commits_of ys =
      ap (λ (fs : List Record). commits_after l.gate.commits (fs ++ ys)) (sym (take-append-drop is.done l.flushed))
      ∙ commits-append l.gate.commits (gone ++ left) ys
      ∙ ap (λ n. commits_after n ys) (commits-append l.gate.commits gone left)
      ∙ ap (λ n. commits_after (commits_after n left) ys) (sym its_commits)
      ∙ sym (commits-append gate.commits left ys)

  pub all_passed : old.enacted.number ≡ old.appended.number → drop is.done l.flushed ++ l.rest ≡ []
  all_passed all = no_length (left ++ l.rest)
      (let a = ap (λ (m : Mark). m.number) is.appended in let b = ap (λ (m : Mark). m.number) is.enacted in let c = length-append l.flushed l.rest in let d = length-append left l.rest in
      let e = length-drop is.done l.flushed in let h = is.flushed_first in omega (arith, a, b, c, d, e, h, all))

  -- the next gate, once all files of cells are synced
  pub next_is : ((j : ℕ) → IsSome (size_of j) → IsSynced (files_now clock past mid j)) → IsNextGate rows f (files_now clock past mid) l (next_gate mid old.enacted.number old.enacted.commits) (take is.done l.flushed) (drop is.done l.flushed)
  next_is settled = record {
    sequence = ap (λ (g : GateSlot). g.sequence + 1) gate_is;
    parts = sym (take-append-drop is.done l.flushed);
    number = its_number ∙ ap (λ n. l.gate.number + n) (sym (length-take-le is.done l.flushed is.flushed_first));
    commits = its_commits;
    are = λ k le x left_by. let row_at = is.read k le in let log_row = is.log.are k le (reads_of (files_now clock past old.log)) image in record {
      row = row_at.row;
      there = row_at.there;
      cells = λ file index.
          row_at.cells file index
          ∙ laid_alike (drop is.done (l.flushed ++ take k l.rest)) (cells_of_files (reads_of (files_now clock past old.log))) (cells_of_files x) file index
          (sized_cells (reads_of (files_now clock past old.log)) x (λ j sized. sym (image_read (files_now clock past mid j) (x j) (settled j sized) (left_by j) ∙ passes.read is.log.told j)) file index)
          ∙ ap (λ (rs : List Record). laid_over rs (cells_of_files x) file index) (rest_of (take k l.rest));
      commits = ap (λ (w : Row). w.commits) (same_Some row_at.row log_row.row (sym row_at.there ∙ log_row.there)) ∙ log_row.commits ∙ commits_of (take k l.rest);
    };
  }

  module _ (new : Redo D) (segments : ℕ → Segment) (same : (file index : ℕ) → cells_of_files (reads_of (files_now clock past new.log)) file index ≡ cells_of_files (reads_of (files_now clock past old.log)) file index)
      (records : records_in new.backlog ≡ records_in old.backlog) (heads : new.heads ≡ old.heads) where
    same_in : (file index : ℕ) → cells_under_records clock past new file index ≡ cells_under_records clock past old file index
    same_in file index =
        ap (λ (h : Heads). unwrap_or (head_in h (record { file = file; index = index })) (unwrap_or (newest (records_in new.backlog) (record { file = file; index = index })) (cells_of_files (reads_of (files_now clock past new.log)) file index))) heads
        ∙ ap (λ (rs : List Record). unwrap_or (head_in old.heads (record { file = file; index = index })) (unwrap_or (newest rs (record { file = file; index = index })) (cells_of_files (reads_of (files_now clock past new.log)) file index))) records
        ∙ ap (λ (c : List ℕ). unwrap_or (head_in old.heads (record { file = file; index = index })) (unwrap_or (newest (records_in old.backlog) (record { file = file; index = index })) c)) (same file index)

    counted : (ys : List Record) → l.gate.number + length (l.flushed ++ ys) ≡ gate.number + length (left ++ ys)
    counted ys =
        let a = length-append l.flushed ys in let b = length-append left ys in let c = length-drop is.done l.flushed in let d = is.flushed_first in let e = its_number in
        omega (arith, a, b, c, d, e)

    mark_of : (ys : List Record) → ◌≡◌ {A = Mark} (record { number = l.gate.number + length (l.flushed ++ ys); commits = commits_after l.gate.commits (l.flushed ++ ys) })
        (record { number = gate.number + length (left ++ ys); commits = commits_after gate.commits (left ++ ys) })
    mark_of ys = ap₂ (λ (n k : ℕ). record { number = n; commits = k }) (counted ys) (commits_of ys)

    pub passed_redo : IsLog tells clock past new.log (record { gate = next_gate mid old.enacted.number old.enacted.commits; flushed = drop is.done l.flushed; rest = l.rest; segments = segments }) rows f
        → new.appended ≡ old.appended → new.flushed ≡ old.flushed → new.enacted ≡ old.enacted → new.stopped ≡ old.stopped
        → ((j : ℕ) → IsSome (size_of j) → IsSynced (files_now clock past new.log j))
        → (drop is.done l.flushed ++ l.rest ≡ [] → (j : ℕ) → IsLogFile j → records_of (segments j) ≡ [])
        → IsRedo tells clock past new (record { gate = next_gate mid old.enacted.number old.enacted.commits; flushed = drop is.done l.flushed; rest = l.rest; segments = segments }) rows f
    passed_redo log appended flushed enacted stopped settled empty = record {
      log = log;
      running = stopped ∙ is.running;
      done = 0;
      flushed_first = omega arith;
      waiting = records ∙ is.waiting ∙ rest_of l.rest;
      appended = appended ∙ is.appended ∙ mark_of l.rest;
      flushed = flushed ∙ is.flushed ∙ ap (λ (rs : List Record). record { number = l.gate.number + length rs; commits = commits_after l.gate.commits rs }) (sym (append-nil l.flushed))
          ∙ mark_of [] ∙ ap (λ (rs : List Record). record { number = gate.number + length rs; commits = commits_after gate.commits rs }) (append-nil left);
      enacted = enacted ∙ ap (λ n. record { number = n; commits = old.enacted.commits }) (omega arith);
      read = λ k le. moved_row rows (f + k) (f + k) (files_now clock past old.log) (files_now clock past new.log) (drop is.done (l.flushed ++ take k l.rest)) (left ++ take k l.rest) refl
          (rest_of (take k l.rest)) same (is.read k le);
      last = λ row there file index. same_in file index ∙ is.last row there file index;
      settled = λ j sized un. settled j sized;
      empty = empty;
    }
