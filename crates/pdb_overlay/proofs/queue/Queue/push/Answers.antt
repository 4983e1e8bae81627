use Rattle.std.proofs.Common.{◌≡◌, ℕ, ◌+◌, ◌++◌, ◌∷◌, [], List, length, ap, arith, subst, sym, ◌∙◌}
use Rattle.sdb_base.specs.declared.op.Op.{Op}
use Rattle.pdb_overlay.specs.inner.Placing.{AreFound, AreSet}
use Rattle.pdb_overlay.proofs.Finding.{found_more, found_same}
use Rattle.pdb_overlay.proofs.queue.Queue.push.Goals as goal

pub invariant_of-self-2 : goal.invariant_of-self-2
invariant_of-self-2 c =
    let first = c.self.inside.first in
    let commits = c.self.inside.commits.items in
    let number = first + c.len.result in
    let long : c.len.result ≡ length commits = ◌∙◌ {A = ℕ} c.len.ensures c.self.inside.commits.ok.0 in
    let fits = c.self.invariant.fits in
    let not_last = c.if-number.false in
    subst (λ (commits : List (List Op)). AreFound first commits c.set_all.new.self)
    (sym (◌∙◌ {A = List (List Op)} c.push_back_reserved.ensures.items (ap (λ (commits : List (List Op)). commits ++ c.args.ops ∷ []) c.in_ok-reserve.ensures.items)))
    (found_more first number commits c.args.ops c.make_room.new.self c.set_all.new.self
    (found_same first commits c.self.inside.places c.make_room.new.self c.self.invariant c.in_ok-make_room.ensures.same)
    (ap (λ n. first + n) long) (omega (arith, long, fits, not_last))
    (subst (λ (ops : List Op). AreSet number ops c.make_room.new.self c.set_all.new.self) c.as_slice-2.ensures c.set_all.ensures))
