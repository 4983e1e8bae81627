-- A database stands for its commits after the next one is logged, and after reads.
use Rattle.std.proofs.Common.{◌≡◌, ◌≢◌, ℕ, ◌+◌, ◌-◌, Bool, false, List, [], ◌∷◌, ◌++◌, length, Option, None, Some, Err, refl, sym, ◌∙◌, ap, subst, arith, append_assoc, length-append}
use Rattle.std.specs.Prelude.{IsTrue, slice_get, slice_index, take}
use Rattle.std.proofs.lemmas.Option.{same_Some}
use Rattle.sdb_base.specs.Keeping.{Commits}
use Rattle.sdb_base.specs.declared.op.Op.{Op}
use Rattle.pdb_cells.specs.Content.{Content}
use Rattle.pdb_cells.specs.Puts.{laid}
use Rattle.pdb_cells.specs.declared.puts.Put.{Put}
use Rattle.pdb_column.specs.Holding.{HoldsColumns}
use Rattle.pdb_column.specs.Maps.{ColumnMap, column_from}
use Rattle.pdb_disk.specs.Files.{Files}
use Rattle.pdb_log.specs.Ledger.{row_after}
use Rattle.pdb_model.specs.Records.{Record}
use Rattle.pdb_model.specs.Recovery.{Row}
use Rattle.pdb_redo.specs.Answers.{StopsAt, is_redo_disk}
use Rattle.pdb_redo.specs.Reaches.{Reach, reach_of, with_logged}
use Rattle.pdb_redo.specs.Standing.{IsStanding, KeepsRedo, cells_under_records}
use Rattle.pdb_redo.specs.declared.fault.RedoFault.{RedoFault}
use Rattle.pdb_redo.specs.declared.fault.RedoFault.TheVariants.{Disk, NumbersEnd, OutOfMemory, Stopped}
use Rattle.pdb_redo.specs.declared.redo_log.Redo.{Redo}
use Rattle.pdb_redo.proofs.Kept.{keeps_cells, keeps_reach, keeps_standing, keeps_stopped, last_row}
use Rattle.pdb_pipe.specs.Commits.{contents_of}
use Rattle.pdb_pipe.specs.Stages.{IsNextCommit, logged_of}
use Rattle.pdb_pipe.specs.Standing.{StandsFor, bases_of}
use Rattle.pdb_pipe.specs.declared.database.Database.{Database}
use Rattle.pdb_pipe.specs.inner.StageLogging.{CarryOut}
use Rattle.pdb_pipe.proofs.StageContents.{at_end, contents_more, same_content}
use Rattle.pdb_pipe.proofs.StageStands.{logged_are, next_is, stands_still}

-- a queue that isn't empty has an oldest commit
pub split_first : (queue : Commits) → queue ≢ [] → (ops : List Op) × (rest : Commits) × (queue ≡ ops ∷ rest)
split_first [] waits = absurd (waits refl)
split_first (ops ∷ rest) waits = (ops, rest, refl)

pub oldest_is : (queue : Commits) (ops : List Op) → Some ops ≡ slice_get queue 0 → (rest : Commits) × (queue ≡ ops ∷ rest)
oldest_is [] ops e = absurd (cc)
oldest_is (o ∷ rest) ops e = (rest, ap (λ (x : List Op). x ∷ rest) (sym (same_Some ops o e)))

-- a record that was refused without a stop
pub append_rests : (T : Type 0) (stopped : Option ℕ) (now : ℕ) (e : RedoFault) → StopsAt {T = T} now stopped (Err e) → stopped ≡ None → is_redo_disk e ≡ false
append_rests T stopped now OutOfMemory stops none = refl
append_rests T stopped now (Disk fault) stops none = absurd (cc)
append_rests T stopped now (Stopped call) stops none = absurd stops
append_rests T stopped now (NumbersEnd which) stops none = refl

module _ {D : Type 0} (tells : D → Bool) (clock : D → ℕ) (past : D → ℕ → Files) where
  abbrev Cells : Redo D → Content
  Cells r = cells_under_records clock past r

  -- the cells after one record more are those that its puts make
  laid_over_last : (a b : Redo D) (rows : List Row) (f : ℕ) (r : Record) → IsStanding tells clock past a rows f
      → ((row : Row) → slice_get rows (length rows - 1) ≡ Some row → IsStanding tells clock past b (rows ++ row_after row r ∷ []) f) → Cells b ≡ laid r.puts (Cells a)
  laid_over_last a b rows f r is more =
      let p = last_row tells clock past a rows f is in
      let after = row_after p.0 r in
      let q = last_row tells clock past b (rows ++ after ∷ []) f (more p.0 p.1) in
      same_content (Cells b) q.0.cells q.2
      ∙ ap (λ (w : Row). w.cells) (same_Some q.0 after (sym q.1 ∙ at_end rows after))
      ∙ ap (laid r.puts) (sym (same_content (Cells a) p.0.cells p.2))

  module _ (old new : Database D) (ops : List Op) (rest : Commits) (puts : List Put) (waiting : old.queue ≡ ops ∷ rest) (left : new.queue ≡ rest) (bases : new.bases ≡ old.bases)
      (reach : reach_of new.redo ≡ with_logged (reach_of old.redo) ((reach_of old.redo).logged + 1)) (told : IsTrue (tells old.redo.log.disk) → IsTrue (tells new.redo.log.disk))
      (commits : Commits) (s : StandsFor tells clock past old commits) (carry : CarryOut clock past old commits puts)
      (rows : List Row) (f : ℕ) (r : Record) (same : r.puts ≡ puts) (is : IsStanding tells clock past old.redo rows f)
      (more : (row : Row) → slice_get rows (length rows - 1) ≡ Some row → IsStanding tells clock past new.redo (rows ++ row_after row r ∷ []) f) where
    cells_are : Cells new.redo ≡ laid puts (Cells old.redo)
    cells_are = laid_over_last old.redo new.redo rows f r is more ∙ ap (λ (ps : List Put). laid ps (Cells old.redo)) same

    contents_are : ◌≡◌ {A = ℕ → ColumnMap} (λ column. column_from column (contents_of (logged_of old commits) column) ops) (contents_of (s.logged ++ ops ∷ []))
    contents_are =
        ap (λ (cs : Commits). (λ (column : ℕ). column_from column (contents_of cs column) ops)) (logged_are tells clock past old commits s) ∙ sym (contents_more s.logged ops)

    columns_are : HoldsColumns (Cells new.redo) (bases_of new) (contents_of (s.logged ++ ops ∷ []))
    columns_are =
        subst (λ (x : Content). HoldsColumns x (bases_of new) (contents_of (s.logged ++ ops ∷ []))) (sym cells_are)
        (subst (λ (b : List ℕ). HoldsColumns (laid puts (Cells old.redo)) (λ column. slice_index b column) (contents_of (s.logged ++ ops ∷ []))) (sym bases)
        (subst (λ (m : ℕ → ColumnMap). HoldsColumns (laid puts (Cells old.redo)) (bases_of old) m) contents_are (carry ops (next_is tells clock past old commits s ops rest waiting))))

    pub stands_logged : StandsFor tells clock past new commits
    stands_logged = record {
      told = told s.told;
      logged = s.logged ++ ops ∷ [];
      parts = s.parts ∙ ap (λ (q : Commits). s.logged ++ q) waiting ∙ sym (append_assoc s.logged (ops ∷ []) rest) ∙ ap (λ (q : Commits). (s.logged ++ ops ∷ []) ++ q) (sym left);
      count = let l = length-append s.logged (ops ∷ []) in let n = s.count in let e = ap (λ (t : Reach). t.logged) reach in omega (arith, l, n, e);
      columns = columns_are;
      rows = λ none. let last = last_row tells clock past old.redo rows f is in (rows ++ row_after last.0 r ∷ [], f, more last.0 last.1);
    }

  module _ (old : Database D) (commits : Commits) (s : StandsFor tells clock past old commits) where
    -- the columns before the next commit
    pub columns_before : HoldsColumns (Cells old.redo) (bases_of old) (contents_of (logged_of old commits))
    columns_before = subst (λ (cs : Commits). HoldsColumns (Cells old.redo) (bases_of old) (contents_of cs)) (sym (logged_are tells clock past old commits s)) s.columns

    pub next_alone : (ops : List Op) (rest : Commits) → old.queue ≡ ops ∷ rest → (xs : List Op) → IsNextCommit old commits xs → ops ≡ xs
    next_alone ops rest waiting xs next = same_Some ops xs (sym (next_is tells clock past old commits s ops rest waiting) ∙ next)

  -- after reads
  module _ (fault_count : D → ℕ) (old new : Database D) (keeps : KeepsRedo tells clock past fault_count old.redo new.redo) (queue : new.queue ≡ old.queue) (bases : new.bases ≡ old.bases)
      (commits : Commits) (s : StandsFor tells clock past old commits) where
    pub stands_read : StandsFor tells clock past new commits
    stands_read = stands_still tells clock past old new queue bases (ap (λ (t : Reach). t.logged) (keeps_reach tells clock past fault_count old.redo new.redo keeps)) keeps.told commits s
        (keeps_cells tells clock past fault_count old.redo new.redo keeps)
        (λ none. let at = s.rows (sym (keeps_stopped tells clock past fault_count old.redo new.redo keeps) ∙ none) in
        (at.0, at.1, keeps_standing tells clock past fault_count old.redo new.redo keeps at.0 at.1 at.2))

    module _ (ops : List Op) (rest : Commits) (waiting : old.queue ≡ ops ∷ rest) where
      carry_read : (puts : List Put)
          → HoldsColumns (laid puts (Cells old.redo)) (bases_of old) (λ column. column_from column (contents_of (logged_of old commits) column) ops) → CarryOut clock past new commits puts
      carry_read puts holds xs next =
          let reach = keeps_reach tells clock past fault_count old.redo new.redo keeps in
          let same = ap (λ (t : Reach). t.logged) reach in
          let here : IsNextCommit old commits xs = ap (λ (n : ℕ). slice_get commits n) (sym same) ∙ next in
          let cells = same_content (Cells new.redo) (Cells old.redo) (keeps_cells tells clock past fault_count old.redo new.redo keeps) in
          subst (λ (x : Content). HoldsColumns (laid puts x) (bases_of new) (λ column. column_from column (contents_of (logged_of new commits) column) xs)) (sym cells)
          (subst (λ (b : List ℕ). HoldsColumns (laid puts (Cells old.redo)) (λ column. slice_index b column) (λ column. column_from column (contents_of (logged_of new commits) column) xs)) (sym bases)
          (subst (λ (n : ℕ). HoldsColumns (laid puts (Cells old.redo)) (bases_of old) (λ column. column_from column (contents_of (take n commits) column) xs)) (sym same)
          (subst (λ (ys : List Op). HoldsColumns (laid puts (Cells old.redo)) (bases_of old) (λ column. column_from column (contents_of (logged_of old commits) column) ys)) (next_alone old commits s ops rest waiting xs here) holds)))

      -- and then the next commit is logged
      pub stands_through : (after : Database D) (puts : List Put)
          → HoldsColumns (laid puts (Cells old.redo)) (bases_of old) (λ column. column_from column (contents_of (logged_of old commits) column) ops)
          → ((cs : Commits) → StandsFor tells clock past new cs → CarryOut clock past new cs puts → StandsFor tells clock past after cs) → StandsFor tells clock past after commits
      stands_through after puts holds logs = logs commits stands_read (carry_read puts holds)
