use Rattle.std.proofs.Common.{◌≡◌, List, Some, sym, ap, subst, ◌∙◌}
use Rattle.sdb_base.specs.Keeping.{IsCause}
use Rattle.sdb_base.specs.declared.numbers.KeepFault.{KeepFault}
use Rattle.pdb_cells.specs.Content.{Content}
use Rattle.pdb_cells.specs.Puts.{laid}
use Rattle.pdb_cells.specs.declared.puts.Put.{Put}
use Rattle.pdb_column.specs.Holding.{HoldsColumns}
use Rattle.pdb_column.specs.Maps.{column_from}
use Rattle.pdb_pipe.specs.Planning.{IsPlanFault, PlanEnds}
use Rattle.pdb_pipe.proofs.StagePlanned.{drafts_nothing, laid_there, plan_cause, plan_ends}
use Rattle.pdb_pipe.proofs.planning.planned.Goals as goal

pub returns-in-Ok-clause-planned : goal.returns-in-Ok-clause-planned
returns-in-Ok-clause-planned g c cells bases contents e holds =
    let at : g.C.Cells.seen c.new-draft.result.under.now ≡ Some cells = ap g.C.Cells.seen c.new-draft.ensures.now ∙ e in
    let p = c.in-Ok.ensures.planned cells bases contents (drafts_nothing (g.C.Cells.seen c.new-draft.result.under.now) cells c.new-draft.result.puts c.new-draft.ensures.puts at) holds in
    let there = g.met.C.Cells.stays c.new-draft.result.under.now c.plan-answer.new.d.under.now cells c.plan-answer.ensures.keeps at in
    subst (λ (x : Content). HoldsColumns x bases (λ column. column_from column (contents column) c.args.ops.now))
    (laid_there c.plan-answer.new.d.puts (g.C.Cells.seen c.plan-answer.new.d.under.now) cells p.0 there p.1 ∙ ap (λ (ps : List Put). laid ps cells) (sym c.finish-puts.ensures.puts)) p.2

pub returns-in-Ok-clause-room : goal.returns-in-Ok-clause-room
returns-in-Ok-clause-room g c cells bases contents e holds =
    c.in-Ok.ensures.uncrowded cells bases contents (drafts_nothing (g.C.Cells.seen c.new-draft.result.under.now) cells c.new-draft.result.puts c.new-draft.ensures.puts (ap g.C.Cells.seen c.new-draft.ensures.now ∙ e)) holds

pub returns-in-Err-clause-ends : goal.returns-in-Err-clause-ends
returns-in-Err-clause-ends g c cells bases contents e holds =
    let at : g.C.Cells.seen c.new-draft.result.under.now ≡ Some cells = ap g.C.Cells.seen c.new-draft.ensures.now ∙ e in
    let drafts = drafts_nothing (g.C.Cells.seen c.new-draft.result.under.now) cells c.new-draft.result.puts c.new-draft.ensures.puts at in
    subst (λ (f : KeepFault). PlanEnds cells bases contents c.args.ops.now f) (sym c.of_plan.ensures)
    (plan_ends c.plan-answer.new.d.puts (g.C.Cells.seen c.plan-answer.new.d.under.now) cells bases contents c.args.ops.now c.in-Err.fault (g.met.C.Cells.stays c.new-draft.result.under.now c.plan-answer.new.d.under.now cells c.plan-answer.ensures.keeps at)
    (c.in-Err.ensures.sound cells bases contents drafts holds) (c.in-Err.ensures.slots_first cells bases contents drafts holds)
    (c.in-Err.ensures.no_slots cells bases contents drafts holds))

pub returns-in-Err-clause-cause : goal.returns-in-Err-clause-cause
returns-in-Err-clause-cause g c =
    subst (λ (f : KeepFault). IsCause (IsPlanFault (g.C.Cells.seen c.args.cells.now)) f) (sym c.of_plan.ensures)
    (plan_cause c.plan-answer.new.d.puts (g.C.Cells.seen c.args.cells.now) (g.C.Cells.seen c.plan-answer.new.d.under.now) c.in-Err.fault (λ cells e. g.met.C.Cells.stays c.new-draft.result.under.now c.plan-answer.new.d.under.now cells c.plan-answer.ensures.keeps (ap g.C.Cells.seen c.new-draft.ensures.now ∙ e))
    (λ cells e. c.in-Err.ensures.faults cells (drafts_nothing (g.C.Cells.seen c.new-draft.result.under.now) cells c.new-draft.result.puts c.new-draft.ensures.puts (ap g.C.Cells.seen c.new-draft.ensures.now ∙ e))))
