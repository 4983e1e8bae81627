-- How what holds of a disk at every moment is said of a run of its calls.
use Rattle.std.specs.Prelude.{◌≡◌, ◌≤◌, ℕ}
use Rattle.pdb_disk.specs.Files.{Files}

-- From one clock to a later one: the earlier moments have the files that they had, and P holds of the files at each
-- moment from the one to the other, both among them.
pub record Moments (before now : ℕ) (past since : ℕ → Files) (P : Files → Type 0) : Type 0 where
  pub later : before ≤ now
  pub earlier : (t : ℕ) → t ≤ before → since t ≡ past t
  pub each : (t : ℕ) → before ≤ t → t ≤ now → P (since t)
