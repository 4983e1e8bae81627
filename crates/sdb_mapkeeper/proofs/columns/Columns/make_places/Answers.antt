use Rattle.std.proofs.Common.{arith, subst, All}
use Rattle.std.proofs.lemmas.List.{take_all}
use Rattle.sdb_mapkeeper.specs.inner.Applying.{HasPlace}
use Rattle.sdb_mapkeeper.proofs.Applying.{places_more, same_on}
use Rattle.sdb_mapkeeper.proofs.columns.Columns.make_places.Goals as goal

pub returns-in_err-make_place-clause-same : goal.returns-in_err-make_place-clause-same
returns-in_err-make_place-clause-same c =
    same_on c.args.self.now c.loop-op.self c.make_place.new.self c.loop-op.invariant.same c.in_err-make_place.ensures.same

pub loop-op-preserved : goal.loop-op-preserved
loop-op-preserved c = record {
  made = places_more c.loop-op.self c.make_place.new.self c.args.ops.now c.loop-op.op-index c.op-item.result (omega arith)
      c.in_ok-make_place.ensures.stay c.loop-op.invariant.made
      (subst (HasPlace c.make_place.new.self) c.op-item.is c.in_ok-make_place.ensures.made);
  same = same_on c.args.self.now c.loop-op.self c.make_place.new.self c.loop-op.invariant.same c.in_ok-make_place.ensures.same;
}

pub returns-clause-made : goal.returns-clause-made
returns-clause-made c =
    subst (All (HasPlace c.loop-op.self)) (take_all c.loop-op.op-index c.args.ops.now (omega arith)) c.loop-op.invariant.made
