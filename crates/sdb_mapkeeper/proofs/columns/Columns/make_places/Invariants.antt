use Rattle.std.proofs.Common.{All, take}
use Rattle.sdb_mapkeeper.specs.inner.Applying.{AreSame, HasPlace}
use Rattle.sdb_mapkeeper.proofs.columns.Columns.make_places.Given as goal

-- the operations so far have their places
abbrev pub invariant-loop-op : goal.invariant-loop-op
invariant-loop-op l = record {
  made : All (HasPlace l.self) (take l.op-index l.ops);
  same : AreSame l.fn.self l.self;
}
