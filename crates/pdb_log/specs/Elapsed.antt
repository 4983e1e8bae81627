-- What calls leave of a disk's past, whatever the disk tells.
use Rattle.std.specs.Prelude.{◌≡◌, ◌≤◌, ℕ}
use Rattle.pdb_disk.specs.Files.{Files}

-- A disk before and after calls: its clock didn't fall, and each moment up to the earlier clock has the files that it had.
pub record TimeGoesOn {D : Type 0} (clock : D → ℕ) (past : D → ℕ → Files) (old new : D) : Type 0 where
  pub later : clock old ≤ clock new
  pub earlier : (t : ℕ) → t ≤ clock old → past new t ≡ past old t
