-- The values of a commit's operations that are too long to be kept.
use Rattle.std.specs.Prelude.{ℕ, nat_lt, List, [], ◌∷◌, length, Option, Some, None, if◌then◌else◌}
use Rattle.sdb_base.specs.Keeping.{most_in_kept_value}
use Rattle.sdb_base.specs.declared.op.Op.{Op}
use Rattle.sdb_base.specs.declared.op.Op.TheVariants.{AddRef, DropRef, Put, Erase}

-- how many bytes the operation's value has, 0 where it has none
abbrev pub value_length : Op → ℕ
value_length (AddRef key bytes) = length bytes
value_length (DropRef key) = 0
value_length (Put key bytes) = length bytes
value_length (Erase key) = 0

-- the length of the first value that is too long
abbrev pub first_too_long : List Op → Option ℕ
first_too_long [] = None
first_too_long (op ∷ ops) = if nat_lt most_in_kept_value (value_length op) then Some (value_length op) else first_too_long ops
