-- The operations so far have short keys.
use Rattle.std.proofs.Common.{All}
use Rattle.sdb_base.specs.Keeping.{HasShortKey}
use Rattle.pipe_tests.proofs.look_ups.commit_of.Given as goal

abbrev pub invariant-loop-step : goal.invariant-loop-step
invariant-loop-step l = All HasShortKey l.ops
