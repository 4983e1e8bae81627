use Rattle.std.proofs.Common.{All}
use Rattle.sdb_base.specs.Keeping.{HasShortKey}
use Rattle.base_tests.proofs.keeping.ops.Given as goal

abbrev pub invariant-loop-step : goal.invariant-loop-step
invariant-loop-step l = All HasShortKey l.ops
