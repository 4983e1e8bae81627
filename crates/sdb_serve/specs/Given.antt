-- What is known of the disk that a run is given.
use Rattle.std.specs.Prelude.{ℕ, Bool}
use Rattle.pdb_disk.specs.Files.{Files, Image, reads_of}

-- whether it tells its content, its clock, and its files as they read
pub record Given : Type 0 where
  pub told : Bool
  pub clock : ℕ
  pub image : Image

abbrev pub given_disk : {D : Type 0} → (D → Bool) → (D → ℕ) → (D → ℕ → Files) → D → Given
given_disk tells clock past d = record { told = tells d; clock = clock d; image = reads_of (past d (clock d)) }
