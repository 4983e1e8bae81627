-- What operations say of a key. Column 0 has nodes by their hashes, column 1 has bytes by plain keys.
use Rattle.std.specs.Prelude.{ℕ, ◌==◌, ◌&&◌, List, [], ◌∷◌, Option, Some, None, if◌then◌else◌}
use Rattle.std.specs.Option.{option_or}
use Rattle.std.specs.Str.{bytes_eq}
use Rattle.sdb_base.specs.declared.op.Op.{Op}
use Rattle.sdb_base.specs.declared.op.Op.TheVariants.{AddRef, DropRef, Put, Erase}
use Rattle.pdb_overlay.specs.declared.lent.Lent.{Lent}
use Rattle.pdb_overlay.specs.declared.lent.Lent.TheVariants as lent

-- what is said of a key
pub data Said : Type 0 where
  -- it has these bytes
  Bytes : (bytes : List ℕ) → Said
  Erased : Said

-- what an operation says of a key of a column
abbrev pub says : ℕ → List ℕ → Op → Option Said
says column key (AddRef k bytes) = if (column == 0) && bytes_eq k.0 key then Some (Bytes bytes) else None
says column key (DropRef k) = None
says column key (Put k bytes) = if (column == 1) && bytes_eq k key then Some (Bytes bytes) else None
says column key (Erase k) = if (column == 1) && bytes_eq k key then Some Erased else None

-- what the newest operation says that says anything
abbrev pub newest_said : ℕ → List ℕ → List Op → Option Said
newest_said column key [] = None
newest_said column key (op ∷ ops) = option_or (newest_said column key ops) (says column key op)

-- what is said by what was lent
abbrev pub said_in : Lent → Option Said
said_in (lent.Bytes bytes) = Some (Bytes bytes.now)
said_in lent.Erased = Some Erased
said_in lent.Silent = None
