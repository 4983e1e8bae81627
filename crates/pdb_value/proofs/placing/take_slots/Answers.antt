use Rattle.std.proofs.Common.{◌≡◌, ◌<◌, ◌≤◌, ◌+◌, ℕ, suc, List, All, length, refl, sym, ap, subst, ◌∙◌, arith}
use Rattle.std.proofs.lemmas.List.Elements.{All-push}
use Rattle.std.proofs.lemmas.Result.{err_from_is_err_and}
use Rattle.pdb_cells.specs.Content.{Content}
use Rattle.pdb_model.specs.Tables.{taken_many}
use Rattle.pdb_value.specs.Faults.{Drafts}
use Rattle.pdb_value.specs.inner.Many.{AreTaken}
use Rattle.pdb_value.proofs.Taken.{more_taken, then_faults, then_sound}
use Rattle.pdb_value.proofs.placing.take_slots.Goals as goal

pub returns-in_err-slot-clause-faults : goal.returns-in_err-slot-clause-faults
returns-in_err-slot-clause-faults g c cells drafts =
    let at = c.loop-alloc.invariant.taken cells drafts in
    let p = err_from_is_err_and c.from_residual-in_err-slot.result c.from_residual-in_err-slot.ensures.1 in
    rw (p.1, p.2) (then_faults (λ (x : Content). Drafts c.take_slot.new.d.puts (g.C.Cells.seen c.take_slot.new.d.under.now) x) at.0 c.args.column _ (c.in_err-slot.ensures.left at.0 at.1) (c.in_err-slot.ensures.faults at.0 at.1))

pub returns-in_err-slot-clause-sound : goal.returns-in_err-slot-clause-sound
returns-in_err-slot-clause-sound g c cells t drafts keeps spells =
    let at = c.loop-alloc.invariant.taken cells drafts in
    let p = err_from_is_err_and c.from_residual-in_err-slot.result c.from_residual-in_err-slot.ensures.1 in
    rw (p.1, p.2) (then_sound t (taken_many (length c.loop-alloc.slots.items) t) c.args.count (length c.loop-alloc.slots.items) _ (at.2.room t spells) (omega (arith, c.len.ensures))
    (c.in_err-slot.ensures.sound at.0 (taken_many (length c.loop-alloc.slots.items) t) at.1 (at.2.kept keeps) (at.2.table t spells)))

pub loop-alloc-preserved : goal.loop-alloc-preserved
loop-alloc-preserved g c =
    let n : length c.push.new.self.items ≡ suc (length c.loop-alloc.slots.items) = ap length c.in_ok-push.ensures.items ∙ (Rattle.std.proofs.Common.length-append c.loop-alloc.slots.items _ ∙ omega arith) in
    record {
      reference = c.take_slot.ensures.same_reference ∙ c.loop-alloc.invariant.reference;
      same = g.met.C.Cells.on _ _ _ c.loop-alloc.invariant.same c.take_slot.ensures.keeps;
      counted = c.in_ok-slot.ensures.counted ∙ c.loop-alloc.invariant.counted;
      within = omega (arith, c.len.ensures, n);
      slots = subst (All (λ s. 1 ≤ s)) (sym c.in_ok-push.ensures.items) (All-push (λ s. 1 ≤ s) c.loop-alloc.slots.items _ c.loop-alloc.invariant.slots c.in_ok-slot.ensures.slot);
      taken = λ cells drafts.
          let at = c.loop-alloc.invariant.taken cells drafts in
          let step = c.in_ok-slot.ensures.taken at.0 at.1 in (
            step.0,
            step.1,
            subst (AreTaken c.args.column (length c.push.new.self.items) cells step.0) (sym c.in_ok-push.ensures.items)
                (more_taken c.args.column (length c.loop-alloc.slots.items) (length c.push.new.self.items) cells at.0 step.0 c.loop-alloc.slots.items c.in_ok-slot.slot at.2 step.2 n),
          );
    }
