use Rattle.std.proofs.Common.{ap}
use Rattle.sdb_mapkeeper.specs.Holding.{held_at}
use Rattle.sdb_mapkeeper.proofs.columns.Columns.new.Goals as goal

pub returns-clause-nodes : goal.returns-clause-nodes
returns-clause-nodes c key = ap held_at (c.new.ensures (record { 0 = key }))
