-- A redo whose files of cells, records and marks stay.
use Rattle.std.proofs.Common.{◌≡◌, ℕ, zero, suc, ◌+◌, ◌-◌, ◌≤◌, Bool, List, [], ◌++◌, length, take, drop, Some, refl, sym, ◌∙◌, ap, subst, arith, append-nil, length-append, take_all}
use Rattle.std.specs.Prelude.{IsSome, slice_get}
use Rattle.std.specs.Option.{unwrap_or}
use Rattle.std.proofs.lemmas.Option.{same_Some}
use Rattle.std.proofs.lemmas.List.{take-append-le}
use Rattle.pdb_cells.specs.Sizes.{size_of}
use Rattle.pdb_disk.specs.Files.{FileState, Files, Image, IsSynced, reads_of}
use Rattle.pdb_log.specs.Ledger.{IsRowAt, Ledger, Segment, file_synced, files_synced, records_flushed, records_of}
use Rattle.pdb_log.specs.Standing.{IsLog}
use Rattle.pdb_log.proofs.Ledgers.{each_segment}
use Rattle.pdb_model.specs.Records.{Record}
use Rattle.pdb_model.specs.Recovery.{Row, cells_of_files, commits_after, laid_over}
use Rattle.pdb_redo.specs.Backlogs.{records_in}
use Rattle.pdb_redo.specs.Heads.{head_in}
use Rattle.pdb_redo.specs.Places.{newest}
use Rattle.pdb_redo.specs.Standing.{IsReadRow, IsRedo, IsStanding, cells_under_records}
use Rattle.pdb_redo.specs.declared.heads.Heads.{Heads}
use Rattle.pdb_redo.specs.declared.redo_log.Mark.{Mark}
use Rattle.pdb_redo.specs.declared.redo_log.Redo.{Redo}
use Rattle.pdb_redo.proofs.CellSizes.{cells_alike, sized_file}
use Rattle.pdb_redo.proofs.Layers.{laid_alike}

-- the files with cells are as they were
abbrev pub SameCellFiles : Files → Files → Type 0
SameCellFiles old new = (j : ℕ) → 9 ≤ j → new j ≡ old j

pub same_read : (old new : Files) → SameCellFiles old new → (file index : ℕ) → cells_of_files (reads_of new) file index ≡ cells_of_files (reads_of old) file index
same_read old new same = cells_alike (reads_of new) (reads_of old) (λ j high. ap (λ (s : FileState). s.read) (same j high))

pub moved_row : (rows : List Row) (j k : ℕ) (old new : Files) (rs qs : List Record) → j ≡ k → rs ≡ qs
    → ((file index : ℕ) → cells_of_files (reads_of new) file index ≡ cells_of_files (reads_of old) file index) → IsReadRow rows j old rs → IsReadRow rows k new qs
moved_row rows j k old new rs qs at records same h = subst (λ n. IsReadRow rows n new qs) at (subst (IsReadRow rows j new) records (record {
  row = h.row;
  there = h.there;
  cells = λ file index. h.cells file index ∙ laid_alike rs (cells_of_files (reads_of old)) (cells_of_files (reads_of new)) file index (sym (same file index));
}))

pub cells_of_row : (rows : List Row) (k : ℕ) (fs : Files) (rs : List Record) (row : Row) → IsReadRow rows k fs rs → slice_get rows k ≡ Some row
    → (file index : ℕ) → row.cells file index ≡ laid_over rs (cells_of_files (reads_of fs)) file index
cells_of_row rows k fs rs row h there file index = ap (λ (w : Row). w.cells file index) (same_Some row h.row (sym there ∙ h.there)) ∙ h.cells file index

pub still_settled : (old new : Files) → SameCellFiles old new → (j : ℕ) → IsSome (size_of j) → IsSynced (old j) → IsSynced (new j)
still_settled old new same j sized is = subst IsSynced (sym (same j (sized_file j sized).0)) is

pub records_synced : (l : Ledger) (file j : ℕ) → records_of ((file_synced l file).segments j) ≡ records_of (l.segments j)
records_synced l file j = each_segment (λ k (g : Segment). records_of g ≡ records_of (l.segments k)) l.segments file (record { first = (l.segments file).first; kept = records_of (l.segments file); pending = [] })
    (append-nil (records_of (l.segments file))) (λ k ne. refl) j

pub all_records_synced : (l : Ledger) (j : ℕ) → records_of ((files_synced l).segments j) ≡ records_of (l.segments j)
all_records_synced l j =
    records_synced (file_synced (file_synced (file_synced l 1) 2) 3) 4 j ∙ records_synced (file_synced (file_synced l 1) 2) 3 j
    ∙ records_synced (file_synced l 1) 2 j ∙ records_synced l 1 j

module _ {D : Type 0} (tells : D → Bool) (clock : D → ℕ) (past : D → ℕ → Files) where
  abbrev pub now_of : Redo D → Files
  now_of r = past r.log.disk (clock r.log.disk)

  pub same_cells : (old new : Redo D) → new.heads ≡ old.heads → records_in new.backlog ≡ records_in old.backlog → SameCellFiles (now_of old) (now_of new)
      → (file index : ℕ) → cells_under_records clock past new file index ≡ cells_under_records clock past old file index
  same_cells old new heads records files file index =
      ap (λ (h : Heads). unwrap_or (head_in h (record { file = file; index = index })) (unwrap_or (newest (records_in new.backlog) (record { file = file; index = index })) (cells_of_files (reads_of (now_of new)) file index))) heads
      ∙ ap (λ (rs : List Record). unwrap_or (head_in old.heads (record { file = file; index = index })) (unwrap_or (newest rs (record { file = file; index = index })) (cells_of_files (reads_of (now_of new)) file index))) records
      ∙ ap (λ (c : List ℕ). unwrap_or (head_in old.heads (record { file = file; index = index })) (unwrap_or (newest (records_in old.backlog) (record { file = file; index = index })) c)) (same_read (now_of old) (now_of new) files file index)

  module _ (old new : Redo D) (l : Ledger) (rows : List Row) (f : ℕ) (is : IsRedo tells clock past old l rows f)
      (files : SameCellFiles (now_of old) (now_of new)) (records : records_in new.backlog ≡ records_in old.backlog) (heads : new.heads ≡ old.heads)
      (enacted : new.enacted ≡ old.enacted) (marks : new.written ≡ old.written) (stopped : new.stopped ≡ old.stopped) where
    read_same : (file index : ℕ) → cells_of_files (reads_of (now_of new)) file index ≡ cells_of_files (reads_of (now_of old)) file index
    read_same = same_read (now_of old) (now_of new) files

    -- nothing but counts changed
    pub kept_redo : IsLog tells clock past new.log l rows f → new.appended ≡ old.appended → new.flushed ≡ old.flushed → IsRedo tells clock past new l rows f
    kept_redo log appended flushed = record {
      log = log;
      running = stopped ∙ is.running;
      done = is.done;
      flushed_first = is.flushed_first;
      waiting = records ∙ is.waiting;
      appended = appended ∙ is.appended;
      flushed = flushed ∙ is.flushed;
      enacted = enacted ∙ is.enacted;
      read = λ k le. moved_row rows (f + k) (f + k) (now_of old) (now_of new) _ _ refl refl read_same (is.read k le);
      last = λ row there file index. same_cells old new heads records files file index ∙ is.last row there file index;
      settled = λ j sized un. still_settled (now_of old) (now_of new) files j sized (is.settled j sized (sym (ap (λ (ms : List Bool). slice_get ms j) marks) ∙ un));
      empty = is.empty;
    }

    abbrev all : List Record
    all = l.flushed ++ l.rest

    one_mark : (rs qs : List Record) → rs ≡ qs
        → ◌≡◌ {A = Mark} (record { number = l.gate.number + length rs; commits = commits_after l.gate.commits rs }) (record { number = l.gate.number + length qs; commits = commits_after l.gate.commits qs })
    one_mark rs qs e = ap (λ (xs : List Record). record { number = l.gate.number + length xs; commits = commits_after l.gate.commits xs }) e

    -- all records were flushed
    pub flushed_redo : IsLog tells clock past new.log (records_flushed (files_synced l)) rows (f + length l.rest) → new.appended ≡ old.appended → new.flushed ≡ old.appended
        → IsRedo tells clock past new (records_flushed (files_synced l)) rows (f + length l.rest)
    flushed_redo log appended flushed = record {
      log = log;
      running = stopped ∙ is.running;
      done = is.done;
      flushed_first = let p = length-append l.flushed l.rest in let q = is.flushed_first in omega (arith, p, q);
      waiting = records ∙ is.waiting ∙ ap (drop is.done) (sym (append-nil all));
      appended = appended ∙ is.appended ∙ one_mark all (all ++ []) (sym (append-nil all));
      flushed = flushed ∙ is.appended;
      enacted = enacted ∙ is.enacted ∙ ap (λ (rs : List Record). record { number = l.gate.number + is.done; commits = commits_after l.gate.commits rs })
          (sym (take-append-le is.done l.flushed l.rest is.flushed_first));
      read = λ k le. moved_row rows (f + length l.rest) (f + length l.rest + k) (now_of old) (now_of new) _ _ (omega (arith, le))
          (ap (λ (rs : List Record). drop is.done (l.flushed ++ rs)) (take_all (length l.rest) l.rest (omega arith))
          ∙ ap (drop is.done) (sym (append-nil all)) ∙ ap (λ (rs : List Record). drop is.done (all ++ rs)) (sym (take_none k)))
          read_same (is.read (length l.rest) (omega arith));
      last = λ row there file index. same_cells old new heads records files file index
          ∙ is.last row (ap (slice_get rows) (omega arith) ∙ there) file index;
      settled = λ j sized un. still_settled (now_of old) (now_of new) files j sized (is.settled j sized (sym (ap (λ (ms : List Bool). slice_get ms j) marks) ∙ un));
      empty = λ none j m. all_records_synced l j ∙ is.empty (sym (append-nil all) ∙ none) j m;
    }
      where
        take_none : (k : ℕ) → ◌≡◌ {A = List Record} (take k []) []
        take_none zero = refl
        take_none (suc k) = refl

  -- the place of the last row
  pub at_last : (r : Redo D) (l : Ledger) (rows : List Row) (f : ℕ) → IsRedo tells clock past r l rows f → f + length l.rest ≡ length rows - 1
  at_last r l rows f is = let n = is.log.len in omega (arith, n)

  pub last_cells : (r : Redo D) (rows : List Row) (f : ℕ) (row : Row) → IsStanding tells clock past r rows f → slice_get rows (length rows - 1) ≡ Some row
      → (file index : ℕ) → cells_under_records clock past r file index ≡ row.cells file index
  last_cells r rows f row is there = is.1.last row (ap (slice_get rows) (at_last r is.0 rows f is.1) ∙ there)

  -- the commits of the last row
  pub last_commits : (r : Redo D) (rows : List Row) (f : ℕ) (row : Row) → IsStanding tells clock past r rows f → slice_get rows (length rows - 1) ≡ Some row → r.appended.commits ≡ row.commits
  last_commits r rows f row is there =
      ap (λ (m : Mark). m.commits) is.1.appended
      ∙ ap (λ (rs : List Record). commits_after is.0.gate.commits (is.0.flushed ++ rs)) (sym (take_all (length is.0.rest) is.0.rest (omega arith)))
      ∙ sym at.commits
      ∙ ap (λ (w : Row). w.commits) (same_Some at.row row (sym at.there ∙ ap (slice_get rows) (at_last r is.0 rows f is.1) ∙ there))
    where
      -- what each file keeps is what a crash may leave of it
      kept : Image
      kept j = (now_of r j).kept

      at : IsRowAt rows (f + length is.0.rest) kept is.0.gate (is.0.flushed ++ take (length is.0.rest) is.0.rest)
      at = is.1.log.are (length is.0.rest) (omega arith) kept (λ j i spared. refl)
