-- A look-up keeps what a database stands for, and how far its commits have come.
use Rattle.std.proofs.Common.{◌≡◌, ◌++◌, ℕ, List, Bool, sym, ap, subst, ◌∙◌, arith}
use Rattle.std.specs.Prelude.{slice_index}
use mathlib.Core.Path.{fun_ext}
use Rattle.sdb_base.specs.Keeping.{Commits}
use Rattle.sdb_base.specs.Pipeline.{Pipeline}
use Rattle.pdb_cells.specs.Content.{Content}
use Rattle.pdb_column.specs.Holding.{HoldsColumns}
use Rattle.pdb_disk.specs.Files.{Files}
use Rattle.pdb_redo.specs.Reaches.{Reach, reach_of}
use Rattle.pdb_redo.specs.Standing.{cells_under_records}
use Rattle.pdb_redo.proofs.Kept.{keeps_cells, keeps_going, keeps_reach, keeps_standing, keeps_stopped}
use Rattle.pdb_redo.proofs.Tallies.{keeps_tally}
use Rattle.pdb_pipe.specs.Commits.{contents_of}
use Rattle.pdb_pipe.specs.Going.{ComesAfter, ComesAfterWith, LeavesDisk}
use Rattle.pdb_pipe.specs.Standing.{StandsFor, bases_of, fixed_index, pipeline_of}
use Rattle.pdb_pipe.specs.declared.database.Database.{Database}
use Rattle.pdb_pipe.specs.inner.After.{with_itself}
use Rattle.pdb_pipe.specs.Keeping.{KeepsDatabase}

-- the pipeline of these parts
abbrev pipeline_with : Reach → ℕ → ℕ → List ℕ → Pipeline
pipeline_with r accepted cleaned bases = record {
  numbers = record { accepted = accepted; logged = r.logged; flushed = r.flushed; enacted = r.enacted; cleaned = cleaned };
  waiting = r.waiting;
  ready = r.ready;
  columns = λ column. fixed_index (slice_index bases column);
}

module _ {D : Type 0} (tells : D → Bool) (clock : D → ℕ) (past : D → ℕ → Files) (fault_count : D → ℕ) (a b : Database D) (k : KeepsDatabase tells clock past fault_count a b) where
  pub reach_kept : reach_of b.redo ≡ reach_of a.redo
  reach_kept = keeps_reach tells clock past fault_count a.redo b.redo k.redo

  pub cells_kept : cells_under_records clock past b.redo ≡ cells_under_records clock past a.redo
  cells_kept = fun_ext (λ file. fun_ext (λ index. keeps_cells tells clock past fault_count a.redo b.redo k.redo file index))

  pub bases_kept : bases_of b ≡ bases_of a
  bases_kept = fun_ext (λ column. ap (λ (bs : List ℕ). slice_index bs column) k.bases)

  pub kept_stands : (commits : Commits) → StandsFor tells clock past a commits → StandsFor tells clock past b commits
  kept_stands commits s = record {
    told = k.redo.told s.told;
    logged = s.logged;
    parts = s.parts ∙ ap (λ (queue : Commits). s.logged ++ queue) (sym k.queue);
    count = s.count ∙ ap (λ (r : Reach). r.logged) (sym reach_kept);
    columns = subst (λ (bs : ℕ → ℕ). HoldsColumns (cells_under_records clock past b.redo) bs (contents_of s.logged)) (sym bases_kept)
        (subst (λ (cells : Content). HoldsColumns cells (bases_of a) (contents_of s.logged)) (sym cells_kept) s.columns);
    rows = λ running. let r = s.rows (sym (keeps_stopped tells clock past fault_count a.redo b.redo k.redo) ∙ running) in
        (r.0, r.1, keeps_standing tells clock past fault_count a.redo b.redo k.redo r.0 r.1 r.2);
  }

  pub kept_pipeline : pipeline_of b ≡ pipeline_of a
  kept_pipeline =
      ap (λ (r : Reach). pipeline_with r b.accepted b.cleaned b.bases) reach_kept
      ∙ ap (λ n. pipeline_with (reach_of a.redo) n b.cleaned b.bases) k.accepted
      ∙ ap (λ n. pipeline_with (reach_of a.redo) a.accepted n b.bases) k.cleaned
      ∙ ap (pipeline_with (reach_of a.redo) a.accepted a.cleaned) k.bases

  pub kept_after : ComesAfter clock past fault_count a b
  kept_after = record {
    faults = k.redo.faults;
    goes_on = keeps_going tells clock past fault_count a.redo b.redo k.redo;
    flushed = let e = ap (λ (r : Reach). r.flushed) reach_kept in omega (arith, e);
  }

  pub kept_later : (commits : Commits) → ComesAfterWith clock past fault_count a commits b commits
  kept_later commits = (kept_after, (with_itself clock past fault_count a commits).1)

  pub kept_outside : LeavesDisk clock past fault_count a b
  kept_outside = record {
    time = k.redo.time;
    unchanged = k.redo.unchanged;
    faults = k.redo.faults;
    reads = k.redo.reads;
    stopped = keeps_stopped tells clock past fault_count a.redo b.redo k.redo;
    reach = reach_kept;
    tally = keeps_tally tells clock past fault_count a.redo b.redo k.redo;
  }
