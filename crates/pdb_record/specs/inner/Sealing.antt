-- A body between a header and its checksum.
use Rattle.std.specs.Prelude.{◌≡◌, ℕ, List, ◌++◌, take}
use Rattle.pdb_model.specs.Gates.{sealed}

-- after the first 48 bytes come this body, the checksum of both, and the rest
abbrev pub IsSealed : List ℕ → List ℕ → List ℕ → Type 0
IsSealed bytes body rest = bytes ≡ sealed (take 48 bytes ++ body) ++ rest
