-- A redo after one more record.
use Rattle.std.proofs.Common.{◌≡◌, ⊎_elim, ℕ, zero, suc, ◌+◌, ◌-◌, ◌≤◌, Bool, true, false, List, [], ◌∷◌, ◌++◌, length, take, drop, Some, if◌then◌else◌, refl, sym, ◌∙◌, ap, ap₂, subst, arith, append_assoc, length-append, take_all}
use Rattle.std.specs.Prelude.{slice_get}
use Rattle.std.specs.Option.{unwrap_or}
use Rattle.std.proofs.lemmas.Bool.{cases_lt}
use Rattle.std.proofs.lemmas.List.{take-append-le}
use Rattle.std.proofs.lemmas.Option.{same_Some}
use Rattle.pdb_cells.specs.Content.{Content}
use Rattle.pdb_cells.specs.Puts.{laid, last_put}
use Rattle.pdb_cells.proofs.Laying.{laid-last}
use Rattle.pdb_disk.specs.Files.{Files, reads_of}
use Rattle.pdb_log.specs.Ledger.{Ledger, Segment, emptied, row_after}
use Rattle.pdb_log.specs.Standing.{IsLog, next_record}
use Rattle.pdb_log.proofs.Logs.{safe_now}
use Rattle.pdb_disk.specs.Moments.{Moments}
use Rattle.pdb_cells.specs.declared.Put.{Put}
use Rattle.pdb_log.proofs.Rows.{commits_push, laid_push, more_rows, row_last, row_left}
use Rattle.pdb_model.specs.Records.{Record}
use Rattle.pdb_model.specs.Recovery.{Row, Safe, cells_of_files, commits_after, laid_over}
use Rattle.pdb_redo.specs.Backlogs.{records_in}
use Rattle.pdb_redo.specs.Heads.{head_in}
use Rattle.pdb_redo.specs.Places.{newest}
use Rattle.pdb_redo.specs.Standing.{IsReadRow, IsRedo, IsStanding, cells_under_records, next_redo_record}
use Rattle.pdb_redo.specs.declared.heads.Heads.{Heads}
use Rattle.pdb_redo.specs.declared.redo_log.Mark.{Mark}
use Rattle.pdb_redo.specs.declared.redo_log.Redo.{Redo}
use Rattle.pdb_redo.specs.inner.Carrying.{heads_laid}
use Rattle.pdb_redo.proofs.Layers.{below_push, puts_alike}
use Rattle.pdb_redo.proofs.PutHeads.{heads_after_puts}
use Rattle.pdb_redo.proofs.Redos.{SameCellFiles, at_last, cells_of_row, moved_row, same_read, still_settled}

pub drop_front : (n : ℕ) (xs ys : List Record) → n ≤ length xs → drop n (xs ++ ys) ≡ drop n xs ++ ys
drop_front zero xs ys le = refl
drop_front (suc n) [] ys le = absurd (omega (arith, le))
drop_front (suc n) (x ∷ xs) ys le = drop_front n xs ys (omega (arith, le))

-- a ledger whose segments alone may change
pub turned_as : (t : Bool) (l : Ledger) (file n : ℕ) → (if t then emptied l file n else l) ≡ record l { segments = (if t then emptied l file n else l).segments }
turned_as true l file n = refl
turned_as false l file n = refl

pub more_read : (rows more : List Row) (k : ℕ) (fs : Files) (rs : List Record) → IsReadRow rows k fs rs → IsReadRow (rows ++ more) k fs rs
more_read rows more k fs rs h = record { row = h.row; there = row_left rows more k h.row h.there; cells = h.cells }

module _ {D : Type 0} (tells : D → Bool) (clock : D → ℕ) (past : D → ℕ → Files) (old new : Redo D) (l : Ledger) (segments : ℕ → Segment) (rows : List Row) (f : ℕ) (row : Row) (r : Record)
    (is : IsRedo tells clock past old l rows f) (there : slice_get rows (f + length l.rest) ≡ Some row) where
  abbrev before : Files
  before = past old.log.disk (clock old.log.disk)

  abbrev after : Files
  after = past new.log.disk (clock new.log.disk)

  abbrev all : List Record
  all = l.flushed ++ l.rest

  abbrev next : Ledger
  next = record { gate = l.gate; flushed = l.flushed; rest = l.rest ++ r ∷ []; segments = segments }

  dropped : drop is.done all ++ r ∷ [] ≡ drop is.done (l.flushed ++ (l.rest ++ r ∷ []))
  dropped =
      sym (drop_front is.done all (r ∷ []) (let p = length-append l.flushed l.rest in let q = is.flushed_first in omega (arith, p, q)))
      ∙ ap (drop is.done) (append_assoc l.flushed l.rest (r ∷ []))

  module _ (files : SameCellFiles before after) (records : records_in new.backlog ≡ records_in old.backlog ++ r ∷ []) (heads : new.heads ≡ heads_laid old.heads r.puts) where
    below : Content
    below file index = unwrap_or (newest (records_in old.backlog) (record { file = file; index = index })) (cells_of_files (reads_of before) file index)

    below_new : (file index : ℕ) → unwrap_or (newest (records_in new.backlog) (record { file = file; index = index })) (cells_of_files (reads_of after) file index) ≡ laid r.puts below file index
    unfolding below
    below_new file index =
        ap (λ (rs : List Record). unwrap_or (newest rs (record { file = file; index = index })) (cells_of_files (reads_of after) file index)) records
        ∙ below_push (records_in old.backlog) r (record { file = file; index = index }) (cells_of_files (reads_of after) file index)
        ∙ ap (λ (c : List ℕ). unwrap_or (last_put r.puts (record { file = file; index = index })) (unwrap_or (newest (records_in old.backlog) (record { file = file; index = index })) c)) (same_read before after files file index)
        ∙ sym (laid-last r.puts below (record { file = file; index = index }))

    cells_new : (file index : ℕ) → cells_under_records clock past new file index ≡ laid r.puts (cells_under_records clock past old) file index
    unfolding below
    cells_new file index =
        ap (λ (h : Heads). unwrap_or (head_in h (record { file = file; index = index })) (unwrap_or (newest (records_in new.backlog) (record { file = file; index = index })) (cells_of_files (reads_of after) file index))) heads
        ∙ ap (unwrap_or (head_in (heads_laid old.heads r.puts) (record { file = file; index = index }))) (below_new file index)
        ∙ heads_after_puts old.heads r.puts below file index

    last_read : IsReadRow (rows ++ row_after row r ∷ []) (f + (length l.rest + 1)) after (drop is.done all ++ r ∷ [])
    last_read = record {
      row = row_after row r;
      there = row_last rows (f + (length l.rest + 1)) (row_after row r) (let n = is.log.len in omega (arith, n));
      cells = λ file index.
          puts_alike r.puts row.cells (laid_over (drop is.done all) (cells_of_files (reads_of after))) file index
          (cells_of_row rows (f + length l.rest) after (drop is.done all) row
          (moved_row rows (f + length l.rest) (f + length l.rest) before after (drop is.done (l.flushed ++ take (length l.rest) l.rest)) (drop is.done all) refl
          (ap (λ (rs : List Record). drop is.done (l.flushed ++ rs)) (take_all (length l.rest) l.rest (omega arith))) (same_read before after files) (is.read (length l.rest) (omega arith)))
          there file index)
          ∙ sym (ap (λ (c : Content). c file index) (laid_push (drop is.done all) r (cells_of_files (reads_of after))));
    }

    pub appended_redo : IsLog tells clock past new.log (record { gate = l.gate; flushed = l.flushed; rest = l.rest ++ r ∷ []; segments = segments }) (rows ++ row_after row r ∷ []) f
        → new.appended ≡ record { number = old.appended.number + 1; commits = r.commits } → new.flushed ≡ old.flushed → new.enacted ≡ old.enacted → new.written ≡ old.written → new.stopped ≡ old.stopped
        → IsRedo tells clock past new (record { gate = l.gate; flushed = l.flushed; rest = l.rest ++ r ∷ []; segments = segments }) (rows ++ row_after row r ∷ []) f
    appended_redo log appended flushed enacted marks stopped = record {
      log = log;
      running = stopped ∙ is.running;
      done = is.done;
      flushed_first = is.flushed_first;
      waiting = records ∙ ap (λ (rs : List Record). rs ++ r ∷ []) is.waiting ∙ dropped;
      appended = appended ∙ ap₂ (λ (n k : ℕ). record { number = n; commits = k }) counted committed;
      flushed = flushed ∙ is.flushed;
      enacted = enacted ∙ is.enacted;
      read = λ k le. ⊎_elim
          (λ low. moved_row (rows ++ row_after row r ∷ []) (f + k) (f + k) before after (drop is.done (l.flushed ++ take k l.rest)) (drop is.done (l.flushed ++ take k (l.rest ++ r ∷ []))) refl
          (ap (λ (rs : List Record). drop is.done (l.flushed ++ rs)) (sym (take-append-le k l.rest (r ∷ []) (omega (arith, low))))) (same_read before after files)
          (more_read rows (row_after row r ∷ []) (f + k) before (drop is.done (l.flushed ++ take k l.rest)) (is.read k (omega (arith, low)))))
          (λ high. moved_row (rows ++ row_after row r ∷ []) (f + (length l.rest + 1)) (f + k) after after (drop is.done all ++ r ∷ []) (drop is.done (l.flushed ++ take k (l.rest ++ r ∷ [])))
          (let n = length-append l.rest (r ∷ []) in omega (arith, n, le, high))
          (dropped ∙ ap (λ (rs : List Record). drop is.done (l.flushed ++ rs)) (sym (take_all k (l.rest ++ r ∷ []) (let n = length-append l.rest (r ∷ []) in omega (arith, n, high)))))
          (λ file index. refl) last_read)
          (cases_lt k (length l.rest + 1));
      last = λ other at file index.
          cells_new file index
          ∙ puts_alike r.puts (cells_under_records clock past old) row.cells file index (is.last row there file index)
          ∙ ap (λ (w : Row). w.cells file index) (same_Some (row_after row r) other
          (sym (row_last rows (f + length (l.rest ++ r ∷ [])) (row_after row r) (let m = length-append l.rest (r ∷ []) in let n = is.log.len in omega (arith, m, n))) ∙ at));
      settled = λ j sized un. still_settled before after files j sized (is.settled j sized (sym (ap (λ (ms : List Bool). slice_get ms j) marks) ∙ un));
      empty = λ none j m. absurd (let a = ap length none in let b = length-append l.flushed (l.rest ++ r ∷ []) in let c = length-append l.rest (r ∷ []) in omega (arith, a, b, c));
    }
      where
        counted : old.appended.number + 1 ≡ l.gate.number + length (l.flushed ++ (l.rest ++ r ∷ []))
        counted =
            let a = ap (λ (m : Mark). m.number) is.appended in
            let b = length-append l.flushed (l.rest ++ r ∷ []) in let c = length-append l.rest (r ∷ []) in let d = length-append l.flushed l.rest in
            omega (arith, a, b, c, d)

        committed : r.commits ≡ commits_after l.gate.commits (l.flushed ++ (l.rest ++ r ∷ []))
        committed = sym (commits_push l.gate.commits all r) ∙ ap (commits_after l.gate.commits) (append_assoc l.flushed l.rest (r ∷ []))

module _ {D : Type 0} (tells : D → Bool) (clock : D → ℕ) (past : D → ℕ → Files) (old : Redo D) (rows : List Row) (f : ℕ) (is : IsStanding tells clock past old rows f) where
  -- the log's next record is the redo's
  pub next_same : (commits : ℕ) (puts : List Put) → next_record old.log commits puts ≡ next_redo_record old commits puts
  next_same commits puts = ap (λ n. record { number = n; commits = commits; puts = puts })
      (let a = ap (λ (m : Mark). m.number) is.1.appended in let n = is.1.log.in_log in omega (arith, a, n))

  pub at_end_of : (row : Row) → slice_get rows (length rows - 1) ≡ Some row → slice_get rows (f + length is.0.rest) ≡ Some row
  at_end_of row there = ap (slice_get rows) (at_last tells clock past old is.0 rows f is.1) ∙ there

  pub safe_more : (more : List Row) → Safe (rows ++ more) f (past old.log.disk (clock old.log.disk))
  safe_more more = more_rows rows more f _ (safe_now tells clock past old.log is.0 rows f is.1.log)

  pub moments_as : (new : D) (row : Row) (commits : ℕ) (puts : List Put)
      → Moments (clock old.log.disk) (clock new) (past old.log.disk) (past new) (Safe (rows ++ row_after row (next_record old.log commits puts) ∷ []) f)
      → Moments (clock old.log.disk) (clock new) (past old.log.disk) (past new) (Safe (rows ++ row_after row (next_redo_record old commits puts) ∷ []) f)
  moments_as new row commits puts h =
      subst (λ (r : Record). Moments (clock old.log.disk) (clock new) (past old.log.disk) (past new) (Safe (rows ++ row_after row r ∷ []) f)) (next_same commits puts) h

  pub safe_now_of : Safe rows f (past old.log.disk (clock old.log.disk))
  safe_now_of = safe_now tells clock past old.log is.0 rows f is.1.log
