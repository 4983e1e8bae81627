use Rattle.sdb_mapkeeper.proofs.Applying.{columns_same}
use Rattle.std.proofs.Common.{refl}
use Rattle.sdb_mapkeeper.proofs.columns.Columns.tidy_one.Goals as goal

pub returns-in-AddRef : goal.returns-in-AddRef
returns-in-AddRef c = columns_same c.args.self.now _ c.tidy-in-AddRef.ensures (λ q. refl)
