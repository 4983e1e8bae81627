use Rattle.std.proofs.Common.{◌≡◌, drop}
use Rattle.sdb_base.specs.TooLong.{first_too_long}
use Rattle.sdb_base.proofs.value_limit.too_long_value.Given as goal

-- the operations so far have no such value
abbrev pub invariant-loop-op : goal.invariant-loop-op
invariant-loop-op l = first_too_long l.ops ≡ first_too_long (drop l.op-index l.ops)
