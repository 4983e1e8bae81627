-- What calls make of a database, whatever it stands for.
use Rattle.std.specs.Prelude.{◌≡◌, ◌≤◌, ◌++◌, ℕ}
use Rattle.sdb_base.specs.Keeping.{Commits}
use Rattle.pdb_disk.specs.Files.{Files}
use Rattle.pdb_log.specs.Tallies.{Tally}
use Rattle.pdb_redo.specs.Reaches.{RedoGoesOn, reach_of}
use Rattle.pdb_redo.specs.Tallies.{IsRedoTally}
use Rattle.pdb_pipe.specs.declared.database.Database.{Database}

-- The counts of faults and reads, the disk's clock and the flushed number didn't fall, and each moment up to the earlier clock has
-- the files that it had.
pub record ComesAfter {D : Type 0} (clock : D → ℕ) (past : D → ℕ → Files) (fault_count : D → ℕ) (old new : Database D) : Type 0 where
  pub faults : fault_count old.redo.log.disk ≤ fault_count new.redo.log.disk
  pub goes_on : RedoGoesOn clock past old.redo new.redo
  pub flushed : (reach_of old.redo).flushed ≤ (reach_of new.redo).flushed

-- Look-ups and commits made the second database of the first: the disk was read, and nothing else, and the records have come as
-- far as they had.
pub record LeavesDisk {D : Type 0} (clock : D → ℕ) (past : D → ℕ → Files) (fault_count : D → ℕ) (old new : Database D) : Type 0 where
  pub time : clock new.redo.log.disk ≡ clock old.redo.log.disk
  pub unchanged : past new.redo.log.disk ≡ past old.redo.log.disk
  pub faults : fault_count old.redo.log.disk ≤ fault_count new.redo.log.disk
  pub reads : old.redo.reads ≤ new.redo.reads
  pub stopped : new.redo.stopped ≡ old.redo.stopped
  pub reach : reach_of new.redo ≡ reach_of old.redo
  pub tally : (t : Tally) → IsRedoTally old.redo t → IsRedoTally new.redo t

-- the second database with its commits is what calls made of the first with its own
abbrev pub ComesAfterWith : {D : Type 0} → (D → ℕ) → (D → ℕ → Files) → (D → ℕ) → Database D → Commits → Database D → Commits → Type 0
ComesAfterWith clock past fault_count a g b h = ComesAfter clock past fault_count a b × ((more : Commits) × (h ≡ g ++ more))
