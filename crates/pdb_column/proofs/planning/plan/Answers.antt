use Rattle.std.proofs.Common.{◌≡◌, ◌∷◌, [], ◌++◌, ◌+◌, ◌≤◌, ℕ, suc, List, take, drop, refl, sym, ap, subst, ◌∙◌, arith}
use Rattle.std.proofs.lemmas.List.{take_all, take_more}
use Rattle.sdb_base.specs.declared.op.Op.{Op}
use Rattle.pdb_cells.specs.Content.{Content}
use Rattle.pdb_value.specs.Faults.{Drafts, IsFullTier}
use Rattle.pdb_column.specs.Answers.{PlanSays}
use Rattle.pdb_column.specs.Damages.{BreaksColumn, IsFullChunk}
use Rattle.pdb_column.specs.Holding.{HoldsColumns}
use Rattle.pdb_column.specs.Maps.{ColumnMap, FillsChunk, column_from}
use Rattle.pdb_column.specs.Storing.{FillsTier, HasPlaced}
use Rattle.pdb_column.specs.inner.Faults.{as_planned}
use Rattle.pdb_column.specs.inner.Operations.{column_of}
use Rattle.pdb_column.proofs.Planned.{column_low, more_fill, more_hold, none_fills, plan_says, plan_sound, split_at, still_drafted}
use Rattle.pdb_column.proofs.NoSlots.{plan_lacks}
use Rattle.pdb_column.proofs.SlotsFirst.{plan_slots}
use Rattle.pdb_column.proofs.planning.plan.Goals as goal

pub loop-op-init : goal.loop-op-init
loop-op-init g c = record {
  reference = refl;
  same = g.met.C.Cells.itself _;
  counted = refl;
  planned = λ cells bases contents drafts holds. (cells, drafts, holds);
  uncrowded = λ cells bases contents drafts holds column bits chunk low f. none_fills bases contents column bits chunk f;
}

pub loop-op-preserved : goal.loop-op-preserved
loop-op-preserved g c =
    let items : List Op = c.as_slice-items.result.now in
    let i : ℕ = c.loop-op.op-index in
    let op : Op = c.op-item.result in
    let more : take (i + 1) items ≡ take i items ++ op ∷ [] = take_more items i op (omega arith) ∙ ap (λ (o : Op). take i items ++ o ∷ []) (sym c.op-item.is) in
    record {
      reference = c.plan_op.ensures.same_reference ∙ c.loop-op.invariant.reference;
      same = g.met.C.Cells.on _ _ _ c.loop-op.invariant.same c.plan_op.ensures.keeps;
      counted = c.in-Ok.ensures.counted ∙ c.loop-op.invariant.counted;
      planned = λ cells bases contents drafts holds.
          let at = c.loop-op.invariant.planned cells bases contents drafts holds in
          let s = c.in-Ok.ensures.planned at.0 bases (λ u. column_from u (contents u) (take i items)) at.1 at.2 in
          (s.0, s.1, more_hold s.0 bases contents (take i items) (take (i + 1) items) op more s.2);
      uncrowded = λ cells bases contents drafts holds column bits chunk low f.
          let at = c.loop-op.invariant.planned cells bases contents drafts holds in
          more_fill bases contents (take i items) (take (i + 1) items) op column bits chunk more (c.loop-op.invariant.uncrowded cells bases contents drafts holds column bits chunk low)
          (c.in-Ok.ensures.uncrowded at.0 bases (λ u. column_from u (contents u) (take i items)) at.1 at.2 column bits chunk low) f;
    }

pub returns-in-Err-clause-sound : goal.returns-in-Err-clause-sound
returns-in-Err-clause-sound g c cells bases contents drafts holds =
    let items : List Op = c.as_slice-items.result.now in
    let i : ℕ = c.loop-op.op-index in
    let op : Op = c.op-item.result in
    let at = c.loop-op.invariant.planned cells bases contents drafts holds in
    let in_order : c.args.ops.now ≡ take i items ++ op ∷ drop (suc i) items = sym c.as_slice-items.ensures ∙ split_at items i op (omega arith) c.op-item.is in
    subst (PlanSays (λ file cell. ⊥) (λ column bits chunk. FillsChunk (bases column) (contents column) c.args.ops.now column bits chunk) (λ column tier. Unit {0}))
    (sym (c.plan_fault.ensures ∙ ap (λ n. as_planned n c.in-Err.fault) c.column_of.ensures))
    (plan_sound bases contents c.args.ops.now (take i items) (drop (suc i) items) op (column_of op) c.in-Err.fault in_order (c.in-Err.ensures.sound at.0 bases (λ u. column_from u (contents u) (take i items)) at.1 at.2))

pub returns-in-Err-clause-faults : goal.returns-in-Err-clause-faults
returns-in-Err-clause-faults g c cells drafts =
    let op : Op = c.op-item.result in
    let at = still_drafted c.args.d.now.puts c.loop-op.d.puts (g.C.Cells.seen c.args.d.now.under.now) (g.C.Cells.seen c.loop-op.d.under.now) cells (λ below. g.met.C.Cells.stays _ _ below c.loop-op.invariant.same) drafts in
    subst (PlanSays (λ file cell. (x : Content) × Drafts c.plan_op.new.d.puts (g.C.Cells.seen c.plan_op.new.d.under.now) x × ((u : ℕ) × (u ≤ 1) × BreaksColumn x u file cell))
    (λ u bits chunk. (x : Content) × Drafts c.plan_op.new.d.puts (g.C.Cells.seen c.plan_op.new.d.under.now) x × IsFullChunk x u bits chunk)
    (λ u tier. (x : Content) × Drafts c.plan_op.new.d.puts (g.C.Cells.seen c.plan_op.new.d.under.now) x × IsFullTier x u tier))
    (sym (c.plan_fault.ensures ∙ ap (λ n. as_planned n c.in-Err.fault) c.column_of.ensures))
    (plan_says (λ (x : Content). Drafts c.plan_op.new.d.puts (g.C.Cells.seen c.plan_op.new.d.under.now) x) (column_of op) c.in-Err.fault (column_low op) (c.in-Err.ensures.faults at.0 at.1))

pub returns-in-Err-clause-slots_first : goal.returns-in-Err-clause-slots_first
returns-in-Err-clause-slots_first g c cells bases contents drafts holds =
    let items : List Op = c.as_slice-items.result.now in
    let i : ℕ = c.loop-op.op-index in
    let op : Op = c.op-item.result in
    let at = c.loop-op.invariant.planned cells bases contents drafts holds in
    let before : ℕ → ColumnMap = λ u. column_from u (contents u) (take i items) in
    let in_order : c.args.ops.now ≡ take i items ++ op ∷ drop (suc i) items = sym c.as_slice-items.ensures ∙ split_at items i op (omega arith) c.op-item.is in
    subst (PlanSays (λ file cell. Unit {0}) (λ u bits chunk. (x : Content) × Drafts c.plan_op.new.d.puts (g.C.Cells.seen c.plan_op.new.d.under.now) x
    × HasPlaced x (bases u) (contents u) c.args.ops.now u bits chunk) (λ u tier. Unit {0}))
    (sym (c.plan_fault.ensures ∙ ap (λ n. as_planned n c.in-Err.fault) c.column_of.ensures))
    (plan_slots (λ (x : Content). Drafts c.plan_op.new.d.puts (g.C.Cells.seen c.plan_op.new.d.under.now) x) bases contents c.args.ops.now (take i items) (drop (suc i) items) op (column_of op) c.in-Err.fault in_order
    (c.in-Err.ensures.sound at.0 bases before at.1 at.2) (c.in-Err.ensures.slots_first at.0 bases before at.1 at.2))

pub returns-in-Err-clause-no_slots : goal.returns-in-Err-clause-no_slots
returns-in-Err-clause-no_slots g c cells bases contents drafts holds =
    let items : List Op = c.as_slice-items.result.now in
    let i : ℕ = c.loop-op.op-index in
    let op : Op = c.op-item.result in
    let at = c.loop-op.invariant.planned cells bases contents drafts holds in
    let in_order : c.args.ops.now ≡ take i items ++ op ∷ drop (suc i) items = sym c.as_slice-items.ensures ∙ split_at items i op (omega arith) c.op-item.is in
    subst (PlanSays (λ file cell. Unit {0}) (λ u bits chunk. Unit {0}) (λ u tier. FillsTier (bases u) (contents u) c.args.ops.now u tier))
    (sym (c.plan_fault.ensures ∙ ap (λ n. as_planned n c.in-Err.fault) c.column_of.ensures))
    (plan_lacks bases contents c.args.ops.now (take i items) (drop (suc i) items) op (column_of op) c.in-Err.fault in_order
    (c.in-Err.ensures.no_slots at.0 bases (λ u. column_from u (contents u) (take i items)) at.1 at.2))

pub returns-clause-planned : goal.returns-clause-planned
returns-clause-planned g c cells bases contents drafts holds =
    let all : take c.loop-op.op-index c.as_slice-items.result.now ≡ c.args.ops.now = take_all c.loop-op.op-index c.as_slice-items.result.now (omega arith) ∙ c.as_slice-items.ensures in
    let at = c.loop-op.invariant.planned cells bases contents drafts holds in
    (at.0, at.1, subst (λ (ops : List Op). HoldsColumns at.0 bases (λ u. column_from u (contents u) ops)) all at.2)

pub returns-clause-uncrowded : goal.returns-clause-uncrowded
returns-clause-uncrowded g c cells bases contents drafts holds column bits chunk low f =
    let all : take c.loop-op.op-index c.as_slice-items.result.now ≡ c.args.ops.now = take_all c.loop-op.op-index c.as_slice-items.result.now (omega arith) ∙ c.as_slice-items.ensures in
    c.loop-op.invariant.uncrowded cells bases contents drafts holds column bits chunk low
    (subst (λ (ops : List Op). FillsChunk (bases column) (contents column) ops column bits chunk) (sym all) f)
