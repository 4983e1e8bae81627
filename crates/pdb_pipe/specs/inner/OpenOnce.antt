-- What is kept of a database is known in one way.
use Rattle.std.specs.Prelude.{ℕ, List, [], ◌∷◌}
use Rattle.std.specs.Coded.{×_prop, Unit-prop, le_prop}
use Rattle.sdb_base.specs.declared.op.Op.{Op}
use Rattle.sdb_base.specs.declared.op.Op.TheVariants.{AddRef, DropRef, Put, Erase}
use Rattle.pdb_column.specs.Answers.{IsStorable}
use Rattle.pdb_pipe.specs.inner.Order.{NeverFall}

pub never_fall_once : (n : ℕ) (ms : List ℕ) → IsProp (NeverFall n ms)
never_fall_once n [] = Unit-prop
never_fall_once n (m ∷ ms) = ×_prop le_prop (never_fall_once m ms)

pub storable_once : (op : Op) → IsProp (IsStorable op)
storable_once (AddRef key bytes) = le_prop
storable_once (DropRef key) = Unit-prop
storable_once (Put key bytes) = le_prop
storable_once (Erase key) = Unit-prop
