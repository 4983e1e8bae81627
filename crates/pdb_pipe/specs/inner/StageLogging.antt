-- What puts do for the commit that is next.
use Rattle.std.specs.Prelude.{ℕ, List}
use Rattle.sdb_base.specs.Keeping.{Commits}
use Rattle.sdb_base.specs.declared.op.Op.{Op}
use Rattle.pdb_cells.specs.Puts.{laid}
use Rattle.pdb_cells.specs.declared.puts.Put.{Put}
use Rattle.pdb_disk.specs.Files.{Files}
use Rattle.pdb_column.specs.Holding.{HoldsColumns}
use Rattle.pdb_column.specs.Maps.{column_from}
use Rattle.pdb_redo.specs.Standing.{cells_under_records}
use Rattle.pdb_pipe.specs.Commits.{contents_of}
use Rattle.pdb_pipe.specs.Stages.{IsNextCommit, logged_of}
use Rattle.pdb_pipe.specs.Standing.{bases_of}
use Rattle.pdb_pipe.specs.declared.database.Database.{Database}

-- laid over the cells after all records, these puts make what the columns hold after the next of these commits
abbrev pub CarryOut : {D : Type 0} → (D → ℕ) → (D → ℕ → Files) → Database D → Commits → List Put → Type 0
CarryOut clock past db commits puts = (ops : List Op) → IsNextCommit db commits ops
    → HoldsColumns (laid puts (cells_under_records clock past db.redo)) (bases_of db) (λ column. column_from column (contents_of (logged_of db commits) column) ops)
