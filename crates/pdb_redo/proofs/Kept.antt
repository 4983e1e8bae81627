-- What a layer above cites: reads keep what a redo stands for, and what it stands for has a last row.
use Rattle.std.proofs.Common.{◌≡◌, ◌≤◌, ℕ, ◌+◌, ◌-◌, List, ◌++◌, length, take, drop, None, Some, sym, ◌∙◌, ap, ap₂, arith}
use Rattle.std.specs.Prelude.{Bool, IsTrue, slice_get}
use Rattle.pdb_disk.specs.Files.{Files}
use Rattle.pdb_log.specs.Standing.{IsLog}
use Rattle.pdb_log.specs.declared.log.Log.{Log}
use Rattle.pdb_log.proofs.Passes.{read_log}
use Rattle.pdb_model.specs.Recovery.{Row}
use Rattle.pdb_redo.specs.Backlogs.{records_in}
use Rattle.pdb_redo.specs.Reaches.{RedoGoesOn, reach_of}
use Rattle.pdb_redo.specs.Standing.{IsReadRow, IsStanding, KeepsRedo, cells_under_records}
use Rattle.pdb_redo.specs.declared.redo_log.Redo.{Redo}
use Rattle.pdb_redo.proofs.Redos.{at_last, kept_redo, last_cells, last_commits, same_cells}

module _ {D : Type 0} (tells : D → Bool) (clock : D → ℕ) (past : D → ℕ → Files) where
  -- the last row, whose cells are those that are read
  pub last_row : (redo : Redo D) (rows : List Row) (f : ℕ) → IsStanding tells clock past redo rows f
      → (row : Row) × (slice_get rows (length rows - 1) ≡ Some row) × ((file index : ℕ) → cells_under_records clock past redo file index ≡ row.cells file index)
  last_row redo rows f is = (at.row, there, last_cells tells clock past redo rows f at.row is there)
    where
      at : IsReadRow rows (f + length is.0.rest) (past redo.log.disk (clock redo.log.disk)) (drop is.1.done (is.0.flushed ++ take (length is.0.rest) is.0.rest))
      at = is.1.read (length is.0.rest) (omega arith)

      there : slice_get rows (length rows - 1) ≡ Some at.row
      there = ap (slice_get rows) (sym (at_last tells clock past redo is.0 rows f is.1)) ∙ at.there

  -- the commits in it are those up to the last record, or at opening
  pub standing_commits : (redo : Redo D) (rows : List Row) (f : ℕ) (row : Row) → IsStanding tells clock past redo rows f → slice_get rows (length rows - 1) ≡ Some row
      → (reach_of redo).logged ≡ row.commits
  standing_commits redo rows f row is there = last_commits tells clock past redo rows f row is there

  pub standing_tells : (redo : Redo D) (rows : List Row) (f : ℕ) → IsStanding tells clock past redo rows f → IsTrue (tells redo.log.disk)
  standing_tells redo rows f is = is.1.log.told

  pub standing_runs : (redo : Redo D) (rows : List Row) (f : ℕ) → IsStanding tells clock past redo rows f → redo.stopped ≡ None
  standing_runs redo rows f is = is.1.running

  -- two that differ in no more than their disks and counts, and whose disks have the same past
  module _ (a b : Redo D) (log : b.log ≡ record a.log { disk = b.log.disk }) (rest : b ≡ record a { log = b.log; reads = b.reads })
      (time : clock b.log.disk ≡ clock a.log.disk) (unchanged : past b.log.disk ≡ past a.log.disk)
      (told : IsTrue (tells a.log.disk) → IsTrue (tells b.log.disk)) where
    standing_alike : (rows : List Row) (f : ℕ) → IsStanding tells clock past a rows f → IsStanding tells clock past b rows f
    standing_alike rows f is = (
      is.0,
      kept_redo tells clock past a b is.0 rows f is.1 files
          (ap (λ (r : Redo D). records_in r.backlog) rest) (ap (λ (r : Redo D). r.heads) rest)
          (ap (λ (r : Redo D). r.enacted) rest) (ap (λ (r : Redo D). r.written) rest) (ap (λ (r : Redo D). r.stopped) rest)
          stands (ap (λ (r : Redo D). r.appended) rest) (ap (λ (r : Redo D). r.flushed) rest),
    )
      where
        files : (j : ℕ) → 9 ≤ j → past b.log.disk (clock b.log.disk) j ≡ past a.log.disk (clock a.log.disk) j
        files j high = ap₂ (λ (p : ℕ → Files) (t : ℕ). p t j) unchanged time

        stands : IsLog tells clock past b.log is.0 rows f
        stands = read_log tells clock past a.log b.log is.0 rows f is.1.log
            (ap (λ (l : Log D). l.gate) log) (ap (λ (l : Log D). l.file) log) (ap (λ (l : Log D). l.number) log)
            (ap (λ (l : Log D). l.ends) log) (ap (λ (l : Log D). l.synced) log) (ap (λ (l : Log D). l.last) log)
            (told is.1.log.told) time unchanged

  module _ (fault_count : D → ℕ) (a b : Redo D) (keeps : KeepsRedo tells clock past fault_count a b) where
    pub keeps_stopped : b.stopped ≡ a.stopped
    keeps_stopped = ap (λ (r : Redo D). r.stopped) keeps.rest

    pub keeps_reach : reach_of b ≡ reach_of a
    keeps_reach = ap (λ (r : Redo D). reach_of r) keeps.rest

    pub keeps_going : RedoGoesOn clock past a b
    keeps_going = record {
      later = let e = keeps.time in omega (arith, e);
      earlier = λ t le. ap (λ (p : ℕ → Files). p t) keeps.unchanged;
      reads = keeps.reads;
    }

    same_now : past b.log.disk (clock b.log.disk) ≡ past a.log.disk (clock a.log.disk)
    same_now = ap₂ (λ (p : ℕ → Files) (t : ℕ). p t) keeps.unchanged keeps.time

    pub keeps_cells : (file index : ℕ) → cells_under_records clock past b file index ≡ cells_under_records clock past a file index
    keeps_cells = same_cells tells clock past a b (ap (λ (r : Redo D). r.heads) keeps.rest) (ap (λ (r : Redo D). records_in r.backlog) keeps.rest)
        (λ j high. ap (λ (fs : Files). fs j) same_now)

    pub keeps_standing : (rows : List Row) (f : ℕ) → IsStanding tells clock past a rows f → IsStanding tells clock past b rows f
    keeps_standing = standing_alike a b keeps.log keeps.rest keeps.time keeps.unchanged keeps.told

    -- what it stands for after the reads it stood for before them
    pub stood_before : (rows : List Row) (f : ℕ) → IsStanding tells clock past b rows f → IsStanding tells clock past a rows f
    stood_before = standing_alike b a
        (sym (ap (λ (l : Log D). record l { disk = a.log.disk }) keeps.log))
        (sym (ap (λ (r : Redo D). record r { log = a.log; reads = a.reads }) keeps.rest))
        (sym keeps.time) (sym keeps.unchanged) keeps.untold
