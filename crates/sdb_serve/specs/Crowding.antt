-- Which commit is logged next, and whether the tables have room for it.
use Rattle.std.specs.Prelude.{◌≡◌, ℕ, List, length, take, slice_get, Some}
use Rattle.sdb_base.specs.Keeping.{Commits}
use Rattle.sdb_base.specs.declared.Logged.TheVariants as logged
use Rattle.sdb_base.specs.declared.StageAnswer.{StageAnswer}
use Rattle.sdb_base.specs.declared.StageAnswer.TheVariants as answers
use Rattle.sdb_base.specs.declared.op.Op.{Op}
use Rattle.sdb_model.specs.Clear.{Clear}
use Rattle.pdb_column.specs.Maps.{ColumnMap, FillsChunk}
use Rattle.pdb_column.specs.Storing.{FillsTier}
use Rattle.pdb_pipe.specs.Commits.{contents_of}
use Rattle.pdb_pipe.specs.Planning.{HasRoomFor}
use Rattle.sdb_serve.specs.BlockCommits.{commits_of}
use Rattle.sdb_serve.specs.Session.{SessionState}

-- the base of each column
abbrev pub bases_in : SessionState → ℕ → ℕ
bases_in s column = (s.pipeline.columns column).base

-- what the logged ones of some commits leave in each column
abbrev pub logged_contents : SessionState → Commits → ℕ → ColumnMap
logged_contents s commits = contents_of (take s.pipeline.numbers.logged commits)

-- these are the operations of the commit that is logged next
abbrev pub ComesNext : SessionState → Commits → List Op → Type 0
ComesNext s commits ops = slice_get commits s.pipeline.numbers.logged ≡ Some ops

-- no chunk is without room for the blocks' next commit
abbrev pub NextFits : SessionState → Type 0
NextFits s = (ops : List Op) → ComesNext s (commits_of s.blocks) ops → HasRoomFor (bases_in s) (logged_contents s (commits_of s.blocks)) ops

-- a commit that is logged had room
abbrev pub LoggedFits : SessionState → StageAnswer → Type 0
LoggedFits s (answers.Logged (logged.Commit n)) = NextFits s
LoggedFits s (answers.Logged (logged.Started column bits chunk)) = Unit {0}
LoggedFits s (answers.Logged (logged.Moved column bits left)) = Unit {0}
LoggedFits s (answers.Logged logged.Idle) = Unit {0}
LoggedFits s (answers.Flushed n) = Unit {0}
LoggedFits s (answers.Enacted answer) = Unit {0}
LoggedFits s (answers.Cleaned n) = Unit {0}
LoggedFits s (answers.Grown answer) = Unit {0}

-- The commits that are kept for the blocks. They are the blocks' commits where no two different nodes of the blocks have one hash.
pub record KeptCommits (s : SessionState) : Type 0 where
  pub commits : Commits
  pub count : length commits ≡ s.pipeline.numbers.accepted
  pub clear : Clear s.blocks → commits ≡ commits_of s.blocks

-- the next commit comes to this chunk with a new key, and 64 others that are held fill it
pub record CrowdsChunk (s : SessionState) (column bits chunk : ℕ) : Type 0 where
  pub kept : KeptCommits s
  pub ops : List Op
  pub next : ComesNext s kept.commits ops
  pub fills : FillsChunk (bases_in s column) (logged_contents s kept.commits column) ops column bits chunk

-- the next commit comes to this tier, which has fewer slots left than it needs there
pub record CrowdsTier (s : SessionState) (column tier : ℕ) : Type 0 where
  pub kept : KeptCommits s
  pub ops : List Op
  pub next : ComesNext s kept.commits ops
  pub fills : FillsTier (bases_in s column) (logged_contents s kept.commits column) ops column tier
