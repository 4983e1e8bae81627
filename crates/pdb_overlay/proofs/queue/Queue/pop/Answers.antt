use Rattle.std.proofs.Common.{List, subst}
use Rattle.sdb_base.specs.declared.op.Op.{Op}
use Rattle.pdb_overlay.specs.inner.Placing.{AreFound, AreReleased}
use Rattle.pdb_overlay.proofs.Finding.{found_less}
use Rattle.pdb_overlay.proofs.queue.Queue.pop.Goals as goal

pub invariant_of-self-2 : goal.invariant_of-self-2
invariant_of-self-2 c =
    found_less c.self.inside.first c.in-Some.ops c.pop_front.new.self.items c.self.inside.places c.release_all.new.self
    (subst (λ (commits : List (List Op)). AreFound c.self.inside.first commits c.self.inside.places) c.in-Some.ensures.items c.self.invariant)
    (subst (λ (ops : List Op). AreReleased c.self.inside.first ops c.self.inside.places c.release_all.new.self) c.as_slice.ensures c.release_all.ensures)
