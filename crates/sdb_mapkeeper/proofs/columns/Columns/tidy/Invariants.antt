use Rattle.sdb_mapkeeper.specs.inner.Applying.{AreSame}
use Rattle.sdb_mapkeeper.proofs.columns.Columns.tidy.Given as goal

abbrev pub invariant-loop-op : goal.invariant-loop-op
invariant-loop-op l = AreSame l.fn.self l.self
