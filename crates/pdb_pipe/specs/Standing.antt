-- For which commits a database stands, and how far they have come.
use Rattle.std.specs.Prelude.{◌≡◌, ◌++◌, ℕ, Bool, List, [], ◌∷◌, length, slice_index, None, IsTrue}
use Rattle.sdb_base.specs.Keeping.{Commits}
use Rattle.sdb_base.specs.Pipeline.{Growth, Pipeline}
use Rattle.pdb_disk.specs.Files.{Files}
use Rattle.pdb_model.specs.Recovery.{Row}
use Rattle.pdb_column.specs.Holding.{HoldsColumns}
use Rattle.pdb_redo.specs.Reaches.{reach_of}
use Rattle.pdb_redo.specs.Standing.{IsStanding, cells_under_records}
use Rattle.pdb_pipe.specs.Commits.{contents_of}
use Rattle.pdb_pipe.specs.declared.database.Database.{Database}

-- the bases of the columns: the bits that an index's entries leave out at the front
abbrev pub bases_of : {D : Type 0} → Database D → ℕ → ℕ
bases_of db column = slice_index db.bases column

-- both columns have this base
abbrev pub same_bases : ℕ → ℕ → ℕ
same_bases base column = slice_index (base ∷ base ∷ []) column

-- an index that doesn't grow has the bits of its base
abbrev pub fixed_index : ℕ → Growth
fixed_index base = record { base = base; bits = base; growing = 0; cursor = 0 }

-- how far the commits of a database have come
abbrev pub pipeline_of : {D : Type 0} → Database D → Pipeline
pipeline_of db = record {
  numbers = record {
    accepted = db.accepted;
    logged = (reach_of db.redo).logged;
    flushed = (reach_of db.redo).flushed;
    enacted = (reach_of db.redo).enacted;
    cleaned = db.cleaned;
  };
  waiting = (reach_of db.redo).waiting;
  ready = (reach_of db.redo).ready;
  columns = λ column. fixed_index (bases_of db column);
}

-- the state of a pipeline into which nothing has come since it was opened, where so many commits were found
abbrev pub pipeline_at : ℕ → (ℕ → ℕ) → Pipeline
pipeline_at n bases = record {
  numbers = record { accepted = n; logged = n; flushed = n; enacted = n; cleaned = n };
  waiting = [];
  ready = 0;
  columns = λ column. fixed_index (bases column);
}

-- The database stands for these commits: the cells, after all records, hold what those that are logged leave, and the others
-- wait in the queue. That holds also after a call of the disk failed; until then the redo stands for rows.
pub record StandsFor {D : Type 0} (tells : D → Bool) (clock : D → ℕ) (past : D → ℕ → Files) (db : Database D) (commits : Commits) : Type 0 where
  pub told : IsTrue (tells db.redo.log.disk)
  pub logged : Commits
  pub parts : commits ≡ logged ++ db.queue
  pub count : length logged ≡ (reach_of db.redo).logged
  pub columns : HoldsColumns (cells_under_records clock past db.redo) (bases_of db) (contents_of logged)
  pub rows : db.redo.stopped ≡ None → (rows : List Row) × (f : ℕ) × IsStanding tells clock past db.redo rows f
