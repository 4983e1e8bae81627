use Rattle.std.proofs.Common.{Some, subst}
use Rattle.pdb_overlay.specs.inner.Placing.{Changes}
use Rattle.pdb_overlay.proofs.Stepping.{set_more}
use Rattle.pdb_overlay.proofs.places.Places.set_all.Goals as goal

pub loop-at-preserved : goal.loop-at-preserved
loop-at-preserved c = record {
  set = set_more c.args.number c.args.ops.now c.loop-at.at c.index-ops-at.result c.args.self.now c.loop-at.self c.set.new.self c.loop-at-test.true
      c.loop-at.invariant.set
      (subst (λ op. Changes (λ _. Some (record { number = c.args.number; at = c.loop-at.at })) c.loop-at.self op c.set.new.self) c.index-ops-at.is c.set.ensures.holds);
  stay = λ op has. c.set.ensures.stay op (c.loop-at.invariant.stay op has);
}
