use Rattle.pdb_overlay.proofs.Stepping.{same_on}
use Rattle.pdb_overlay.proofs.places.Places.tidy_all.Goals as goal

pub loop-op-preserved : goal.loop-op-preserved
loop-op-preserved c = same_on c.args.self.now c.loop-op.self c.tidy.new.self c.loop-op.invariant c.tidy.ensures
