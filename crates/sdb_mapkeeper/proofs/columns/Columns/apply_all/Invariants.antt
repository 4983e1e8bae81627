use Rattle.std.proofs.Common.{◌≡◌, drop, length, take}
use Rattle.sdb_mapkeeper.specs.inner.Applying.{AreApplied, PlacesStay}
use Rattle.sdb_mapkeeper.proofs.columns.Columns.apply_all.Given as goal

-- the operations so far are applied, and the others are as they were
abbrev pub invariant-loop-at : goal.invariant-loop-at
invariant-loop-at l = record {
  applied : AreApplied l.fn.self (take l.at l.fn.ops) l.self;
  rest : drop l.at l.ops ≡ drop l.at l.fn.ops;
  length : length l.ops ≡ length l.fn.ops;
  stay : PlacesStay l.fn.self l.self;
}
