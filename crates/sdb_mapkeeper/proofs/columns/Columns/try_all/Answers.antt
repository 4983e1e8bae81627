use Rattle.sdb_mapkeeper.proofs.Applying.{applied_between, same_itself}
use Rattle.sdb_mapkeeper.proofs.columns.Columns.try_all.Goals as goal

pub returns-clause-ok : goal.returns-clause-ok
returns-clause-ok c =
    applied_between c.args.self.now c.make_places.new.self c.apply_all.new.self c.apply_all.new.self c.args.ops.now
    c.make_places.ensures.same c.apply_all.ensures (same_itself c.apply_all.new.self)
