use Rattle.sdb_mapkeeper.proofs.Applying.{columns_same, places_stay}
use Rattle.std.proofs.Common.{refl}
use Rattle.sdb_mapkeeper.proofs.columns.Columns.make_place.Goals as goal

pub returns-in-AddRef-clause-stay : goal.returns-in-AddRef-clause-stay
returns-in-AddRef-clause-stay c =
    places_stay c.args.self.now (record c.args.self.now { nodes = c.make_place.new.self }) c.make_place.ensures.stay (λ q has. has)

pub returns-in-AddRef-clause-same : goal.returns-in-AddRef-clause-same
returns-in-AddRef-clause-same c =
    columns_same c.args.self.now (record c.args.self.now { nodes = c.make_place.new.self }) c.make_place.ensures.same (λ q. refl)
