-- A database before and after look-ups.
use Rattle.std.specs.Prelude.{◌≡◌, ℕ, Bool}
use Rattle.pdb_disk.specs.Files.{Files}
use Rattle.pdb_redo.specs.Standing.{KeepsRedo}
use Rattle.pdb_pipe.specs.declared.database.Database.{Database}

-- Look-ups made the second database of the first: all is as it was, but for the counts of faults and reads, which didn't fall.
pub record KeepsDatabase {D : Type 0} (tells : D → Bool) (clock : D → ℕ) (past : D → ℕ → Files) (fault_count : D → ℕ) (old new : Database D) : Type 0 where
  pub redo : KeepsRedo tells clock past fault_count old.redo new.redo
  pub queue : new.queue ≡ old.queue
  pub accepted : new.accepted ≡ old.accepted
  pub cleaned : new.cleaned ≡ old.cleaned
  pub bases : new.bases ≡ old.bases
