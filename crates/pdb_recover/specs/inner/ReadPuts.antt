-- Puts that are read from a file, one after the other.
use Rattle.std.specs.Prelude.{◌≡◌, ◌≤◌, ◌++◌, ℕ, All, List, length}
use Rattle.pdb_cells.specs.Puts.{IsWholeCell}
use Rattle.pdb_cells.specs.declared.Put.{Put}
use Rattle.pdb_disk.specs.Files.{FileBytes, StandsAt}
use Rattle.pdb_model.specs.Records.{body_bytes, put_bytes}
use Rattle.pdb_model.specs.Recovery.{bytes_from}

-- the bytes of a file from a place on were added, as many as a put of a whole cell has that stands there
pub record AddsPut (c : FileBytes) (at : ℕ) (old new : List ℕ) : Type 0 where
  pub len : ℕ
  pub added : new ≡ old ++ bytes_from c at len
  pub only : (p : Put) → IsWholeCell p → StandsAt c at (put_bytes p) → length (put_bytes p) ≡ len

-- no put of a whole cell stands at a place within so many bytes
abbrev pub HasNoPut : FileBytes → ℕ → ℕ → Type 0
HasNoPut c at left = (p : Put) → IsWholeCell p → StandsAt c at (put_bytes p) → length (put_bytes p) ≤ left → ⊥

-- no body of whole cells with just so many bytes stands at a place
abbrev pub HasNoBody : FileBytes → ℕ → ℕ → Type 0
HasNoBody c at len = (ps : List Put) → All IsWholeCell ps → StandsAt c at (body_bytes ps) → length (body_bytes ps) ≡ len → ⊥
