-- A session's disk, before and after `new`, and what its database stands for.
use Rattle.std.specs.Prelude.{◌≡◌, ℕ, Bool, true, false, [], Option, Some, None, IsTrue}
use Rattle.sdb_base.specs.Keeping.{Commits}
use Rattle.pdb_disk.specs.Files.{Files}
use Rattle.pdb_log.specs.Tallies.{Tally}
use Rattle.pdb_redo.specs.Tallies.{IsRedoTally}
use Rattle.pdb_pipe.specs.Standing.{StandsFor, pipeline_of}
use Rattle.pdb_pipe.specs.declared.database.Database.{Database}
use Rattle.sdb_serve.specs.Marks.{Reached}
use Rattle.sdb_serve.specs.Session.{SessionState}
use Rattle.sdb_serve.specs.inner.Blocks.{KeepsBlocks, RepresentsBlocks}
use Rattle.sdb_serve.specs.declared.blocks.BlockMap.{BlockMap}
use Rattle.sdb_serve.specs.declared.session.Session.{Session}

-- The blocks are those that are known, their commits have come as far, and no call of the disk failed. Where the disk tells its
-- content, the database stands for commits that keep the blocks' states.
pub record HoldsBlocks {D : Type 0} (tells : D → Bool) (clock : D → ℕ) (past : D → ℕ → Files) (told : Bool) (m : BlockMap (Database D)) (s : SessionState) : Type 0 where
  pub blocks : RepresentsBlocks m s.blocks
  pub pipeline : pipeline_of m.keeper ≡ s.pipeline
  pub running : m.keeper.redo.stopped ≡ None
  pub kept : IsTrue told → (commits : Commits) × KeepsBlocks (λ db c. StandsFor tells clock past db c) m s.blocks commits

-- Before `new` a session has the disk that was given; after it blocks over a database on it.
abbrev pub HoldsStore : {D : Type 0} → (D → Bool) → (D → ℕ) → (D → ℕ → Files) → D → Option D → Option (BlockMap (Database D)) → SessionState → Type 0
HoldsStore tells clock past given None None s = ⊥
HoldsStore tells clock past given (Some disk) None s = (disk ≡ given) × (s.begun ≡ false) × (s.blocks ≡ [])
HoldsStore tells clock past given None (Some m) s = (s.begun ≡ true) × HoldsBlocks tells clock past (tells given) m s
HoldsStore tells clock past given (Some disk) (Some m) s = ⊥

-- a number that is seen at the disk, before `new` or after it
abbrev pub seen_at : {D : Type 0} → (D → ℕ) → Option D → Option (BlockMap (Database D)) → ℕ
seen_at count None None = 0
seen_at count (Some disk) None = count disk
seen_at count disk (Some m) = count m.keeper.redo.log.disk

-- a session's disk has this count
abbrev pub disk_count : {D : Type 0} → (D → ℕ) → Session D → ℕ
disk_count count p = seen_at count p.disk p.blocks

-- after `new` the database's log counts so much
abbrev pub HoldsTally : {D : Type 0} → Option (BlockMap (Database D)) → Tally → Type 0
HoldsTally None t = Unit {0}
HoldsTally (Some m) t = IsRedoTally m.keeper.redo t

-- The session has come so far on a disk that was given.
pub record Represents {D : Type 0} (tells : D → Bool) (clock : D → ℕ) (past : D → ℕ → Files) (given : D) (p : Session D) (a : Reached) : Type 0 where
  pub window : p.window ≡ a.session.window
  pub read : p.read ≡ a.session.read
  pub lines : p.lines ≡ a.lines
  pub time : disk_count clock p ≡ a.clock
  pub marks : p.marks.items ≡ a.marks
  pub store : HoldsStore tells clock past given p.disk p.blocks a.session
  pub tally : HoldsTally p.blocks a.tally
