-- The operations so far have short keys.
use Rattle.std.proofs.Common.{All}
use Rattle.sdb_base.specs.Keeping.{HasShortKey}
use Rattle.pipe_tests.proofs.databases.nodes.Given as goal

abbrev pub invariant-loop-place : goal.invariant-loop-place
invariant-loop-place l = All HasShortKey l.ops
