use Rattle.std.proofs.Common.{◌<◌, ℕ, List, sym, subst, ◌∙◌, refl}
use Rattle.pdb_model.specs.Slots.{IsFree}
use Rattle.pdb_value.specs.Faults.{FaultSays, NoTier}
use Rattle.pdb_value.proofs.Layouts.{one_next}
use Rattle.pdb_value.proofs.slots.next_free.Goals as goal

pub returns-then-ends-next-clause-faults : goal.returns-then-ends-next-clause-faults
returns-then-ends-next-clause-faults g c cells seen =
    subst (FaultSays _ NoTier) (sym c.damaged_slot-damaged.ensures) (
      refl,
      refl,
      λ n free. subst (λ k. c.args.ends.end < k)
          (one_next c.args.tier _ c.in-Some.next n (subst (λ (b : List ℕ). IsFree c.args.tier b c.in-Some.next) (c.deref.ensures.value ∙ c.in_ok-cell.ensures.cell cells seen) c.in-Some.ensures) free) c.if-ends-next.true,
    )
