use Rattle.std.proofs.Common.{ℕ, List, sym, subst, ◌∙◌, refl, arith, inl, inr}
use Rattle.pdb_model.specs.Breaks.{part_len}
use Rattle.pdb_model.specs.Slots.{IsPart}
use Rattle.pdb_value.specs.Faults.{FaultSays, NoTier}
use Rattle.pdb_value.proofs.Chains.{no_part, part_value}
use Rattle.pdb_value.proofs.parts.read_part_of.Goals as goal
use Rattle.pdb_value.proofs.parts.read_part_of.Goals.{then-part-min-via-then-part-min, then-part-min-via-else-part-min+then-not-is_next}

pub returns-then-part-min-clause-faults : goal.returns-then-part-min-clause-faults
returns-then-part-min-clause-faults g c cells seen =
    subst (FaultSays _ NoTier) (sym c.damaged_slot-damaged.ensures) (
      refl,
      refl,
      no_part c.args.left c.args.end _ c.in-Some.part.value.now c.in-Some.part.next
          (subst (λ (b : List ℕ). IsPart b c.in-Some.part.next c.in-Some.part.value.now) (c.deref.ensures.value ∙ c.in_ok-cell.ensures.cell cells seen) c.in-Some.ensures)
          (elim c.then-part-min.branch [
            | then-part-min-via-then-part-min w ↦ inl (λ e. let ne = w.if-part-min.true in omega arith)
            | then-part-min-via-else-part-min+then-not-is_next w ↦ inr (λ h. let yes = w.is_next.ensures.1 h in let no = w.if-not-is_next.true in cc)
          ]),
    )

pub returns-clause-part : goal.returns-clause-part
returns-clause-part g c =
    let here : IsPart c.in_ok-cell.cell.items c.in-Some.part.next c.in-Some.part.value.now = subst (λ (b : List ℕ). IsPart b c.in-Some.part.next c.in-Some.part.value.now) c.deref.ensures.value c.in-Some.ensures in
    subst (IsPart c.in_ok-cell.cell.items c.in-Some.part.next) (sym (part_value c.in_ok-cell.cell.items c.in-Some.part.value.now c.in-Some.part.next (part_len c.args.left) here (omega (arith, c.min.ensures)))) here
