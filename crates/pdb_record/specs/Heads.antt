-- What a header of a record says.
use Rattle.std.specs.Prelude.{◌≡◌, ℕ, List}
use Rattle.pdb_model.specs.Records.{IsHeader, header_bytes}
use Rattle.pdb_record.specs.declared.heads.Head.{Head}

-- these bytes are this header, and it keeps the rules
pub record IsHeaderOf (bytes : List ℕ) (h : Head) : Type 0 where
  pub spelled : bytes ≡ header_bytes h.number h.commits h.body h.puts
  pub is : IsHeader h.number h.commits h.body h.puts
