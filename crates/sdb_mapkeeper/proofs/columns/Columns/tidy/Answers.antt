use Rattle.sdb_mapkeeper.proofs.Applying.{same_on}
use Rattle.sdb_mapkeeper.proofs.columns.Columns.tidy.Goals as goal

pub loop-op-preserved : goal.loop-op-preserved
loop-op-preserved c = same_on c.args.self.now c.loop-op.self c.tidy_one.new.self c.loop-op.invariant c.tidy_one.ensures
