use Rattle.std.proofs.Common.{subst, ◌∙◌, arith}
use Rattle.std.proofs.lemmas.Result.{err_from_is_err_and}
use Rattle.pdb_cells.specs.Content.{Content}
use Rattle.pdb_model.specs.Breaks.{HasEnd}
use Rattle.pdb_model.specs.Files.{table_cells}
use Rattle.pdb_model.specs.Tables.{freed_all}
use Rattle.pdb_model.specs.Tiers.{parts_tier}
use Rattle.pdb_value.specs.Faults.{Drafts}
use Rattle.pdb_value.proofs.Broken.{one_end}
use Rattle.pdb_value.proofs.Chains.{has_part}
use Rattle.pdb_value.proofs.Loosened.{freed_broken, freed_sound, left_step, none_left}
use Rattle.pdb_value.proofs.Spelled.{only_on}
use Rattle.pdb_value.proofs.removal.free_parts.Goals as goal

pub returns-clause-freed : goal.returns-clause-freed
returns-clause-freed g c cells t parts bytes drafts end spells are f n loose =
    let at = c.loop-left.invariant.freed cells t parts bytes drafts end spells are f n loose in
    (at.0, at.1, none_left at.0 c.args.column c.loop-left.slot c.loop-left.left c.args.end (freed_all t parts) at.2 (omega arith))

pub returns-in_err-slot-clause-faults : goal.returns-in_err-slot-clause-faults
returns-in_err-slot-clause-faults g c cells drafts end =
    let at = c.loop-left.invariant.only cells drafts end in
    let p = err_from_is_err_and c.from_residual.result c.from_residual.ensures.1 in
    rw (p.1, p.2) (freed_broken (λ (x : Content). Drafts c.free_part.new.d.puts (g.C.Cells.seen c.free_part.new.d.under.now) x) at.0 c.args.column c.loop-left.slot c.loop-left.left c.args.end _ (omega arith) at.3
    (c.in_err-slot.ensures.faults at.0 at.1 at.3))

pub returns-in_err-slot-clause-sound : goal.returns-in_err-slot-clause-sound
returns-in_err-slot-clause-sound g c cells t parts bytes drafts end spells are f n loose =
    let at = c.loop-left.invariant.freed cells t parts bytes drafts end spells are f n loose in
    let has = has_part c.args.end (table_cells at.0 c.args.column parts_tier) c.loop-left.slot c.loop-left.left at.2.rest at.2.bytes at.2.are at.2.next at.2.long (omega arith) in
    let p = err_from_is_err_and c.from_residual.result c.from_residual.ensures.1 in
    rw (p.1, p.2) (freed_sound (Drafts c.free_part.new.d.puts (g.C.Cells.seen c.free_part.new.d.under.now) at.0) at.0 c.args.column c.loop-left.slot c.loop-left.left c.args.end at.2.rest at.2.bytes _ has
    (c.in_err-slot.ensures.faults at.0 at.1 at.2.has_end))

pub loop-left-preserved : goal.loop-left-preserved
loop-left-preserved g c = record {
  reference = c.free_part.ensures.same_reference ∙ c.loop-left.invariant.reference;
  same = g.met.C.Cells.on _ _ _ c.loop-left.invariant.same c.free_part.ensures.keeps;
  counted = c.in_ok-slot.ensures.counted ∙ c.loop-left.invariant.counted;
  within = c.in_ok-slot.ensures.next.within;
  only = λ cells drafts end.
      let at = c.loop-left.invariant.only cells drafts end in
      let step = c.in_ok-slot.ensures.freed at.0 at.1 at.3 in (
        step.0,
        step.1,
        only_on c.args.column parts_tier cells at.0 step.0 at.2 step.2.only,
        subst (HasEnd step.0 c.args.column parts_tier) (one_end at.0 c.args.column parts_tier step.2.ends.0 c.args.end (omega arith) step.2.ends.1 at.3) step.2.ends.2,
      );
  freed = λ cells t parts bytes drafts end spells are f n loose.
      let at = c.loop-left.invariant.freed cells t parts bytes drafts end spells are f n loose in
      let step = c.in_ok-slot.ensures.freed at.0 at.1 at.2.has_end in
      (step.0, step.1, left_step at.0 step.0 c.args.column c.loop-left.slot c.in_ok-slot.slot c.loop-left.left c.min-left.result c.args.end (freed_all t parts) c.requires.column at.2 (omega arith) (omega (arith, c.min-left.ensures)) step.2 step.3);
}
