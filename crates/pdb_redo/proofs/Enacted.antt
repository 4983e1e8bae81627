-- A redo whose oldest record is enacted, or was while a write failed.
use Rattle.std.proofs.Common.{◌≡◌, ⊎_elim, ℕ, zero, suc, ◌+◌, ◌<◌, Bool, List, [], ◌∷◌, ◌++◌, length, take, drop, get_or, Option, None, Some, refl, sym, ◌∙◌, ap, ap₂, subst, arith, length-append, length-drop}
use Rattle.std.specs.Prelude.{Contains, slice_get}
use Rattle.std.specs.Option.{option_or, unwrap_or}
use Rattle.std.proofs.lemmas.Bool.{cases_lt}
use Rattle.std.proofs.Math.Seq.{drop-cons, take-suc}
use Rattle.pdb_cells.specs.Puts.{laid, last_put}
use Rattle.pdb_cells.specs.declared.CellName.{CellName}
use Rattle.pdb_disk.specs.Files.{Files, IsSynced}
use Rattle.pdb_log.specs.Ledger.{AreNumbered, Ledger}
use Rattle.pdb_log.specs.Standing.{IsLog}
use Rattle.pdb_log.proofs.Rows.{commits_push}
use Rattle.pdb_model.specs.Records.{Record}
use Rattle.pdb_model.specs.Recovery.{Row, commits_after, laid_over}
use Rattle.pdb_redo.specs.Backlogs.{records_in}
use Rattle.pdb_redo.specs.Heads.{head_in}
use Rattle.pdb_redo.specs.Places.{newest}
use Rattle.pdb_redo.specs.Standing.{IsRedo, cells_under_records}
use Rattle.pdb_redo.specs.declared.heads.Heads.{Heads}
use Rattle.pdb_redo.specs.declared.redo_log.Mark.{Mark}
use Rattle.pdb_redo.specs.declared.redo_log.Redo.{Redo}
use Rattle.pdb_redo.specs.inner.Writing.{AreDone, MarksOthers, cells_now}
use Rattle.pdb_redo.proofs.Layers.{laid_alike, newest_laid}

-- the record at a place has its number
pub numbered_at : (n : ℕ) (rs : List Record) (k : ℕ) (d : Record) → k < length rs → AreNumbered n rs → (get_or rs k d).number ≡ n + k
numbered_at n [] k d l h = absurd (omega (arith, l))
numbered_at n (r ∷ rs) zero d l h = let e = h.1 in omega (arith, e)
numbered_at n (r ∷ rs) (suc k) d l h = let e = numbered_at (n + 1) rs k d (omega (arith, l)) h.2 in omega (arith, e)

front_at : (xs ys : List Record) (k : ℕ) (d : Record) → k < length xs → get_or (xs ++ ys) k d ≡ get_or xs k d
front_at [] ys k d l = absurd (omega (arith, l))
front_at (x ∷ xs) ys zero d l = refl
front_at (x ∷ xs) ys (suc k) d l = front_at xs ys k d (omega (arith, l))

first_dropped : (n : ℕ) (xs : List Record) (r : Record) (rs : List Record) → n < length xs → drop n xs ≡ r ∷ rs → (get_or xs n r ≡ r) × (rs ≡ drop (n + 1) xs)
first_dropped n xs r rs l e =
    let parts : drop n xs ≡ get_or xs n r ∷ drop (suc n) xs = drop-cons xs n r l in
    let whole : r ∷ rs ≡ get_or xs n r ∷ drop (suc n) xs = sym e ∙ parts in
    let one : suc n ≡ n + 1 = omega arith in
    (sym (ap (head_or r) whole), ap tail_of whole ∙ ap (λ k. drop k xs) one)
  where
    head_or : Record → List Record → Record
    head_or d [] = d
    head_or d (x ∷ ys) = x

    tail_of : List Record → List Record
    tail_of [] = []
    tail_of (x ∷ ys) = ys

-- where a flushed record isn't enacted, one waits
pub waits_somewhere : {D : Type 0} (tells : D → Bool) (clock : D → ℕ) (past : D → ℕ → Files) (old : Redo D) (l : Ledger) (rows : List Row) (f : ℕ)
    → IsRedo tells clock past old l rows f → (old.enacted.number ≡ old.flushed.number → ⊥) → slice_get (records_in old.backlog) 0 ≡ None → ⊥
waits_somewhere tells clock past old l rows f is waits none =
    let a = ap (λ (m : Mark). m.number) is.enacted in let b = ap (λ (m : Mark). m.number) is.flushed in let c = is.flushed_first in
    ⊎_elim
    (λ less. some (drop is.done (l.flushed ++ l.rest)) (let n = length-append l.flushed l.rest in let m = length-drop is.done (l.flushed ++ l.rest) in omega (arith, n, m, less))
    (ap (λ (rs : List Record). slice_get rs 0) (sym is.waiting) ∙ none))
    (λ ge. waits (omega (arith, a, b, c, ge)))
    (cases_lt is.done (length l.flushed))
  where
    some : (rs : List Record) → 0 < length rs → slice_get rs 0 ≡ None → ⊥
    some [] l e = omega (arith, l)
    some (r ∷ rs) l e = cc

module _ {D : Type 0} (tells : D → Bool) (clock : D → ℕ) (past : D → ℕ → Files) (old : Redo D) (l : Ledger) (rows : List Row) (f : ℕ)
    (is : IsRedo tells clock past old l rows f) (waits : (old.enacted.number ≡ old.flushed.number → ⊥)) (r : Record) (rs : List Record) (first : records_in old.backlog ≡ r ∷ rs) where
  pub within : is.done < length l.flushed
  within =
      let a = ap (λ (m : Mark). m.number) is.enacted in let b = ap (λ (m : Mark). m.number) is.flushed in let c = is.flushed_first in
      ⊎_elim (λ less. less) (λ ge. absurd (waits (omega (arith, a, b, c, ge)))) (cases_lt is.done (length l.flushed))

  within_all : (ys : List Record) → is.done < length (l.flushed ++ ys)
  within_all ys = let a = within in let b = length-append l.flushed ys in omega (arith, a, b)

  oldest : (get_or (l.flushed ++ l.rest) is.done r ≡ r) × (rs ≡ drop (is.done + 1) (l.flushed ++ l.rest))
  oldest = first_dropped is.done (l.flushed ++ l.rest) r rs (within_all l.rest) (sym is.waiting ∙ first)

  at_done : get_or l.flushed is.done r ≡ r
  at_done = sym (front_at l.flushed l.rest is.done r within) ∙ oldest.0

  pub is_flushed : Contains l.flushed r
  is_flushed = (is.done, within, at_done)

  pub its_number : r.number ≡ l.gate.number + (is.done + 1)
  its_number =
      let a = numbered_at (l.gate.number + 1) (l.flushed ++ l.rest) is.done r (within_all l.rest) is.log.stands.numbers in
      let b = ap (λ (q : Record). q.number) oldest.0 in omega (arith, a, b)

  taken : take (is.done + 1) l.flushed ≡ take is.done l.flushed ++ r ∷ []
  taken =
      let one : is.done + 1 ≡ suc is.done = omega arith in
      ap (λ k. take k l.flushed) one ∙ take-suc l.flushed is.done r within ∙ ap (λ (q : Record). take is.done l.flushed ++ q ∷ []) at_done

  dropped : (ys : List Record) → drop is.done (l.flushed ++ ys) ≡ r ∷ drop (is.done + 1) (l.flushed ++ ys)
  dropped ys =
      let one : suc is.done ≡ is.done + 1 = omega arith in
      drop-cons (l.flushed ++ ys) is.done r (within_all ys)
      ∙ ap₂ (λ (q : Record) (n : ℕ). q ∷ drop n (l.flushed ++ ys)) (front_at l.flushed ys is.done r within ∙ at_done) one

  -- the record that waits hides what was written of its cells
  pub same_while_written : (new : Redo D) → new.heads ≡ old.heads → records_in new.backlog ≡ records_in old.backlog
      → ((name : CellName) → last_put r.puts name ≡ None → cells_now clock past new.log name.file name.index ≡ cells_now clock past old.log name.file name.index)
      → (file index : ℕ) → cells_under_records clock past new file index ≡ cells_under_records clock past old file index
  same_while_written new heads records beside file index =
      ap (λ (h : Heads). unwrap_or (head_in h (record { file = file; index = index })) (unwrap_or (newest (records_in new.backlog) (record { file = file; index = index })) (cells_now clock past new.log file index))) heads
      ∙ ap (unwrap_or (head_in old.heads (record { file = file; index = index }))) (
      ap (λ (qs : List Record). unwrap_or (newest qs (record { file = file; index = index })) (cells_now clock past new.log file index)) (records ∙ first)
      ∙ hidden (newest rs (record { file = file; index = index })) (last_put r.puts (record { file = file; index = index })) (beside (record { file = file; index = index }))
      ∙ sym (ap (λ (qs : List Record). unwrap_or (newest qs (record { file = file; index = index })) (cells_now clock past old.log file index)) first))
    where
      hidden : (a b : Option (List ℕ)) → (b ≡ None → cells_now clock past new.log file index ≡ cells_now clock past old.log file index)
          → unwrap_or (option_or a b) (cells_now clock past new.log file index) ≡ unwrap_or (option_or a b) (cells_now clock past old.log file index)
      hidden (Some x) b h = refl
      hidden None (Some y) h = refl
      hidden None None h = h refl

  module _ (new : Redo D) (done : AreDone clock past r.puts old.log new.log) (records : records_in new.backlog ≡ rs) (heads : new.heads ≡ old.heads) where
    same_cells : (file index : ℕ) → cells_under_records clock past new file index ≡ cells_under_records clock past old file index
    same_cells file index =
        ap (λ (h : Heads). unwrap_or (head_in h (record { file = file; index = index })) (unwrap_or (newest (records_in new.backlog) (record { file = file; index = index })) (cells_now clock past new.log file index))) heads
        ∙ ap (unwrap_or (head_in old.heads (record { file = file; index = index }))) (
        ap (λ (qs : List Record). unwrap_or (newest qs (record { file = file; index = index })) (cells_now clock past new.log file index)) records
        ∙ sym (newest_laid rs (cells_now clock past new.log) (record { file = file; index = index }))
        ∙ laid_alike rs (cells_now clock past new.log) (laid r.puts (cells_now clock past old.log)) file index (done file index)
        ∙ newest_laid (r ∷ rs) (cells_now clock past old.log) (record { file = file; index = index })
        ∙ sym (ap (λ (qs : List Record). unwrap_or (newest qs (record { file = file; index = index })) (cells_now clock past old.log file index)) first))

    pub enacted_redo : IsLog tells clock past new.log l rows f → MarksOthers clock past old.written new.written old.log new.log → new.appended ≡ old.appended → new.flushed ≡ old.flushed
        → new.enacted ≡ record { number = r.number; commits = r.commits } → new.stopped ≡ old.stopped → IsRedo tells clock past new l rows f
    enacted_redo log marks appended flushed enacted stopped = record {
      log = log;
      running = stopped ∙ is.running;
      done = is.done + 1;
      flushed_first = let a = within in omega (arith, a);
      waiting = records ∙ oldest.1;
      appended = appended ∙ is.appended;
      flushed = flushed ∙ is.flushed;
      enacted = enacted ∙ ap₂ (λ (n k : ℕ). record { number = n; commits = k }) its_number
          (sym (commits_push l.gate.commits (take is.done l.flushed) r) ∙ ap (commits_after l.gate.commits) (sym taken));
      read = λ k le. let old_row = is.read k le in record {
        row = old_row.row;
        there = old_row.there;
        cells = λ file index. old_row.cells file index
            ∙ ap (λ (qs : List Record). laid_over qs (cells_now clock past old.log) file index) (dropped (take k l.rest))
            ∙ sym (laid_alike (drop (is.done + 1) (l.flushed ++ take k l.rest)) (cells_now clock past new.log) (laid r.puts (cells_now clock past old.log)) file index (done file index));
      };
      last = λ row there file index. same_cells file index ∙ is.last row there file index;
      settled = λ j sized un. let was = marks j un in subst IsSynced (sym was.1) (is.settled j sized was.0);
      empty = is.empty;
    }
