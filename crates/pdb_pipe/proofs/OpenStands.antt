-- A database over a redo of one row stands for the commits of that row.
use Rattle.std.proofs.Common.{◌≡◌, ℕ, zero, suc, ◌≤◌, List, [], ◌∷◌, ◌++◌, length, refl, sym, ◌∙◌, ap, arith}
use Rattle.std.specs.Prelude.{Bool, slice_index}
use Rattle.std.proofs.lemmas.List.{append-nil}
use Rattle.sdb_base.specs.Keeping.{Commits}
use Rattle.pdb_disk.specs.Files.{Files}
use Rattle.pdb_model.specs.Recovery.{Row}
use Rattle.pdb_column.specs.Holding.{HoldsColumns}
use Rattle.pdb_redo.specs.Creating.{new_row}
use Rattle.pdb_redo.specs.Standing.{IsStanding, cells_under_records}
use Rattle.pdb_redo.proofs.Kept.{standing_commits, standing_tells}
use Rattle.pdb_redo.proofs.Redos.{last_cells}
use Rattle.pdb_pipe.specs.Commits.{contents_of}
use Rattle.pdb_pipe.specs.Standing.{StandsFor, bases_of}
use Rattle.pdb_pipe.specs.declared.database.Database.{Database}
use Rattle.pdb_pipe.proofs.OpenBases.{bases_read, other_bases, other_cells}
use Rattle.pdb_pipe.proofs.OpenNew.{new_cells_hold_nothing}

bases_are : (bases : List ℕ) (of : ℕ → ℕ) (column : ℕ) → bases ≡ of 0 ∷ of 1 ∷ [] → column ≤ 1 → slice_index bases column ≡ of column
bases_are bases of zero e low = ap (λ (b : List ℕ). slice_index b 0) e
bases_are bases of (suc zero) e low = ap (λ (b : List ℕ). slice_index b 1) e
bases_are bases of (suc (suc column)) e low = absurd (omega (arith, low))

module _ {D : Type 0} (tells : D → Bool) (clock : D → ℕ) (past : D → ℕ → Files) (db : Database D) (none : db.queue ≡ []) where
  -- the cells after all records, of which there are none
  module _ (row : Row) (is : IsStanding tells clock past db.redo (row ∷ []) 0) (commits : Commits) (bases : ℕ → ℕ) (holds : HoldsColumns row.cells bases (contents_of commits)) where
    under_records : HoldsColumns (cells_under_records clock past db.redo) bases (contents_of commits)
    under_records = other_cells row.cells bases (contents_of commits) holds (cells_under_records clock past db.redo) (last_cells tells clock past db.redo (row ∷ []) 0 row is refl)

    stands : row.commits ≡ length commits → ((column : ℕ) → column ≤ 1 → bases_of db column ≡ bases column) → StandsFor tells clock past db commits
    stands count same = record {
      told = standing_tells tells clock past db.redo (row ∷ []) 0 is;
      logged = commits;
      parts = sym (ap (λ (q : Commits). commits ++ q) none ∙ append-nil commits);
      count = sym (standing_commits tells clock past db.redo (row ∷ []) 0 row is refl ∙ count);
      columns = other_bases (cells_under_records clock past db.redo) bases (contents_of commits) under_records (bases_of db) same;
      rows = λ running. (row ∷ [], 0, is);
    }

    -- where its bases are those in the head cells
    pub opened_stands : row.commits ≡ length commits → db.bases ≡ slice_index (cells_under_records clock past db.redo 9 0) 1 ∷ slice_index (cells_under_records clock past db.redo 9 1) 1 ∷ []
        → StandsFor tells clock past db commits
    opened_stands count heads = stands count (λ column low. bases_are db.bases (λ k. slice_index (cells_under_records clock past db.redo 9 k) 1) column heads low
        ∙ bases_read (cells_under_records clock past db.redo) bases (contents_of commits) under_records column low)

  -- a new one
  pub created_stands : (base : ℕ) → base ≤ 16 → IsStanding tells clock past db.redo (new_row base ∷ []) 0 → db.bases ≡ base ∷ base ∷ [] → StandsFor tells clock past db []
  created_stands base small is same = stands (new_row base) is [] (λ column. base) (new_cells_hold_nothing base small) refl
      (λ column low. bases_are db.bases (λ k. base) column same low)
