use Rattle.std.proofs.Common.{◌≡◌, IfErr, refl, sym, ap, subst, ◌∙◌, arith}
use Rattle.std.proofs.lemmas.Result.{IfErr-weaker, err_from_is_err_and, on_ok_weaker}
use Rattle.sdb_base.specs.declared.op.Op.TheVariants.{AddRef, Put}
use Rattle.sdb_blake2.specs.Blake2b.{H}
use Rattle.pdb_cells.specs.Content.{Content}
use Rattle.pdb_value.specs.Faults.{Drafts, IsFullTier, NoCell}
use Rattle.pdb_column.specs.Damages.{BreaksColumn, IsFullChunk}
use Rattle.pdb_column.specs.Holding.{HoldsColumns}
use Rattle.pdb_column.specs.Maps.{column_after}
use Rattle.pdb_column.specs.Storing.{LacksSlots}
use Rattle.pdb_column.specs.inner.Changes.{IsPlaced}
use Rattle.pdb_column.specs.inner.Faults.{AnyCell, AnyChunk, AnyTier, StepSays}
use Rattle.pdb_column.specs.inner.Operations.{Crowds, HasItsSlots, NeedsSlots, column_of}
use Rattle.pdb_column.proofs.Located.{step_more}
use Rattle.pdb_column.proofs.Planned.{added, dropped_node, erased_under, put_under, says_in}
use Rattle.pdb_column.proofs.NoSlots.{step_lacks, takes_none}
use Rattle.pdb_column.proofs.SlotsFirst.{any_says}
use Rattle.pdb_column.proofs.planning.plan_op.Goals as goal

pub returns-in-AddRef-clause-planned : goal.returns-in-AddRef-clause-planned
returns-in-AddRef-clause-planned g c cells bases contents drafts holds =
    on_ok_weaker c.add_node.result
    (λ w. (w.0, w.1, subst (λ op. HoldsColumns w.0 bases (λ u. column_after u (contents u) op)) (sym c.in-AddRef.is) (added cells w.0 bases contents c.in-AddRef.key c.in-AddRef.bytes c.as_slice.result.now c.as_slice.ensures holds w.2)))
    (c.add_node.ensures.changed cells (bases 0) (contents 0) drafts (holds.each 0 (omega arith)))

pub returns-in-AddRef-clause-sound : goal.returns-in-AddRef-clause-sound
returns-in-AddRef-clause-sound g c cells bases contents drafts holds =
    subst (λ op. IfErr c.add_node.result (StepSays NoCell AnyTier (Crowds bases contents op (column_of op)))) (sym c.in-AddRef.is)
    (IfErr-weaker c.add_node.result _ (StepSays NoCell AnyTier (Crowds bases contents (AddRef c.in-AddRef.key c.in-AddRef.bytes) 0))
    (λ e h. step_more NoCell AnyTier _ (Crowds bases contents (AddRef c.in-AddRef.key c.in-AddRef.bytes) 0) e
    (λ b n f. record { key = c.in-AddRef.key.0; inserts = (refl, refl, f.0); bits_are = f.1; chunk_is = f.2; crowded = f.3 }) h)
    (c.add_node.ensures.sound cells (bases 0) (contents 0) drafts (holds.each 0 (omega arith))))

pub returns-in-AddRef-clause-faults : goal.returns-in-AddRef-clause-faults
returns-in-AddRef-clause-faults g c cells drafts =
    subst (λ op. IfErr c.add_node.result (StepSays (λ file cell. (x : Content) × Drafts c.add_node.new.d.puts (g.C.Cells.seen c.add_node.new.d.under.now) x × BreaksColumn x (column_of op) file cell)
    (λ tier. (x : Content) × Drafts c.add_node.new.d.puts (g.C.Cells.seen c.add_node.new.d.under.now) x × IsFullTier x (column_of op) tier)
    (λ bits n. (x : Content) × Drafts c.add_node.new.d.puts (g.C.Cells.seen c.add_node.new.d.under.now) x × IsFullChunk x (column_of op) bits n))) (sym c.in-AddRef.is)
    (c.add_node.ensures.faults cells drafts)

pub returns-in_ok-drop_key-in-DropRef-clause-planned : goal.returns-in_ok-drop_key-in-DropRef-clause-planned
returns-in_ok-drop_key-in-DropRef-clause-planned g c cells bases contents drafts holds =
    let w = c.in_ok-drop_key-in-DropRef.ensures.changed cells (bases 0) (contents 0) drafts (holds.each 0 (omega arith)) in
    (w.0, w.1, subst (λ op. HoldsColumns w.0 bases (λ u. column_after u (contents u) op)) (sym c.in-DropRef.is) (dropped_node cells w.0 bases contents c.in-DropRef.key holds w.2))

pub returns-in_err-drop_key-in-DropRef-clause-faults : goal.returns-in_err-drop_key-in-DropRef-clause-faults
returns-in_err-drop_key-in-DropRef-clause-faults g c cells drafts =
    let p = err_from_is_err_and c.from_residual.result c.from_residual.ensures.1 in
    rw (p.1, p.2) (says_in (λ (x : Content). Drafts c.drop_key.new.d.puts (g.C.Cells.seen c.drop_key.new.d.under.now) x) c.args.op.now 0 _ (ap column_of (sym c.in-DropRef.is)) (c.in_err-drop_key-in-DropRef.ensures.faults cells drafts))

pub returns-in-Put-clause-planned : goal.returns-in-Put-clause-planned
returns-in-Put-clause-planned g c cells bases contents drafts holds =
    let hashed : c.hash256-hash.result ≡ H c.in-Put.key = c.hash256-hash.ensures ∙ ap H c.as_slice-in-Put.ensures in
    on_ok_weaker c.put_plain.result
    (λ w. (w.0, w.1, subst (λ op. HoldsColumns w.0 bases (λ u. column_after u (contents u) op)) (sym c.in-Put.is) (put_under cells w.0 bases contents c.in-Put.key c.in-Put.bytes c.hash256-hash.result c.as_slice-in-Put-2.result.now hashed c.as_slice-in-Put-2.ensures holds w.2)))
    (c.put_plain.ensures.changed cells (bases 1) (contents 1) drafts (holds.each 1 (omega arith)) (holds.single c.hash256-hash.result))

pub returns-in-Put-clause-sound : goal.returns-in-Put-clause-sound
returns-in-Put-clause-sound g c cells bases contents drafts holds =
    let hashed : c.hash256-hash.result ≡ H c.in-Put.key = c.hash256-hash.ensures ∙ ap H c.as_slice-in-Put.ensures in
    subst (λ op. IfErr c.put_plain.result (StepSays NoCell AnyTier (Crowds bases contents op (column_of op)))) (sym c.in-Put.is)
    (IfErr-weaker c.put_plain.result _ (StepSays NoCell AnyTier (Crowds bases contents (Put c.in-Put.key c.in-Put.bytes) 1))
    (λ e h. step_more NoCell AnyTier _ (Crowds bases contents (Put c.in-Put.key c.in-Put.bytes) 1) e
    (λ b n f. record { key = c.hash256-hash.result; inserts = (refl, sym hashed, f.0); bits_are = f.1; chunk_is = f.2; crowded = f.3 }) h)
    (c.put_plain.ensures.sound cells (bases 1) (contents 1) drafts (holds.each 1 (omega arith)) (holds.single c.hash256-hash.result)))

pub returns-in-Put-clause-faults : goal.returns-in-Put-clause-faults
returns-in-Put-clause-faults g c cells drafts =
    subst (λ op. IfErr c.put_plain.result (StepSays (λ file cell. (x : Content) × Drafts c.put_plain.new.d.puts (g.C.Cells.seen c.put_plain.new.d.under.now) x × BreaksColumn x (column_of op) file cell)
    (λ tier. (x : Content) × Drafts c.put_plain.new.d.puts (g.C.Cells.seen c.put_plain.new.d.under.now) x × IsFullTier x (column_of op) tier)
    (λ bits n. (x : Content) × Drafts c.put_plain.new.d.puts (g.C.Cells.seen c.put_plain.new.d.under.now) x × IsFullChunk x (column_of op) bits n))) (sym c.in-Put.is)
    (c.put_plain.ensures.faults cells drafts)

pub returns-in_ok-drop_key-in-Erase-clause-planned : goal.returns-in_ok-drop_key-in-Erase-clause-planned
returns-in_ok-drop_key-in-Erase-clause-planned g c cells bases contents drafts holds =
    let hashed : c.hash256-hash-in-Erase.result ≡ H c.in-Erase.key = c.hash256-hash-in-Erase.ensures ∙ ap H c.as_slice-in-Erase.ensures in
    let w = c.in_ok-drop_key-in-Erase.ensures.changed cells (bases 1) (contents 1) drafts (holds.each 1 (omega arith)) in
    (w.0, w.1, subst (λ op. HoldsColumns w.0 bases (λ u. column_after u (contents u) op)) (sym c.in-Erase.is) (erased_under cells w.0 bases contents c.in-Erase.key c.hash256-hash-in-Erase.result hashed holds w.2))

pub returns-in_err-drop_key-in-Erase-clause-faults : goal.returns-in_err-drop_key-in-Erase-clause-faults
returns-in_err-drop_key-in-Erase-clause-faults g c cells drafts =
    let p = err_from_is_err_and c.from_residual-in_err-drop_key-in-Erase.result c.from_residual-in_err-drop_key-in-Erase.ensures.1 in
    rw (p.1, p.2) (says_in (λ (x : Content). Drafts c.drop_key-in-Erase.new.d.puts (g.C.Cells.seen c.drop_key-in-Erase.new.d.under.now) x) c.args.op.now 1 _ (ap column_of (sym c.in-Erase.is)) (c.in_err-drop_key-in-Erase.ensures.faults cells drafts))

-- ---- the slots come first

pub returns-in-AddRef-clause-slots_first : goal.returns-in-AddRef-clause-slots_first
returns-in-AddRef-clause-slots_first g c cells bases contents drafts holds =
    subst (λ op. IfErr c.add_node.result (StepSays AnyCell AnyTier (λ bits n. (x : Content) × Drafts c.add_node.new.d.puts (g.C.Cells.seen c.add_node.new.d.under.now) x × HasItsSlots x (column_of op) op))) (sym c.in-AddRef.is)
    (IfErr-weaker c.add_node.result _ _
    (λ e h. step_more AnyCell AnyTier _ (λ bits n. (x : Content) × Drafts c.add_node.new.d.puts (g.C.Cells.seen c.add_node.new.d.under.now) x × HasItsSlots x 0 (AddRef c.in-AddRef.key c.in-AddRef.bytes)) e
    (λ bits n w. (w.0, w.1, (c.in-AddRef.key.0, c.in-AddRef.bytes, (refl, refl, refl), subst (IsPlaced w.0 0 c.in-AddRef.key.0) c.as_slice.ensures w.2))) h)
    (c.add_node.ensures.slots_first cells (bases 0) (contents 0) drafts (holds.each 0 (omega arith))))

pub returns-in_err-drop_key-in-DropRef-clause-slots_first : goal.returns-in_err-drop_key-in-DropRef-clause-slots_first
returns-in_err-drop_key-in-DropRef-clause-slots_first g c cells bases contents drafts holds =
    let p = err_from_is_err_and c.from_residual.result c.from_residual.ensures.1 in
    rw (p.1, p.2) (any_says _)

pub returns-in-Put-clause-slots_first : goal.returns-in-Put-clause-slots_first
returns-in-Put-clause-slots_first g c cells bases contents drafts holds =
    let hashed : c.hash256-hash.result ≡ H c.in-Put.key = c.hash256-hash.ensures ∙ ap H c.as_slice-in-Put.ensures in
    subst (λ op. IfErr c.put_plain.result (StepSays AnyCell AnyTier (λ bits n. (x : Content) × Drafts c.put_plain.new.d.puts (g.C.Cells.seen c.put_plain.new.d.under.now) x × HasItsSlots x (column_of op) op))) (sym c.in-Put.is)
    (IfErr-weaker c.put_plain.result _ _
    (λ e h. step_more AnyCell AnyTier _ (λ bits n. (x : Content) × Drafts c.put_plain.new.d.puts (g.C.Cells.seen c.put_plain.new.d.under.now) x × HasItsSlots x 1 (Put c.in-Put.key c.in-Put.bytes)) e
    (λ bits n w. (w.0, w.1, (c.hash256-hash.result, c.in-Put.bytes, (refl, sym hashed, refl), subst (IsPlaced w.0 1 c.hash256-hash.result) c.as_slice-in-Put-2.ensures w.2))) h)
    (c.put_plain.ensures.slots_first cells (bases 1) (contents 1) drafts (holds.each 1 (omega arith))))

pub returns-in_err-drop_key-in-Erase-clause-slots_first : goal.returns-in_err-drop_key-in-Erase-clause-slots_first
returns-in_err-drop_key-in-Erase-clause-slots_first g c cells bases contents drafts holds =
    let p = err_from_is_err_and c.from_residual-in_err-drop_key-in-Erase.result c.from_residual-in_err-drop_key-in-Erase.ensures.1 in
    rw (p.1, p.2) (any_says _)

-- ---- a tier without slots

pub returns-in-AddRef-clause-no_slots : goal.returns-in-AddRef-clause-no_slots
returns-in-AddRef-clause-no_slots g c cells bases contents drafts holds =
    subst (λ op. IfErr c.add_node.result (StepSays AnyCell (NeedsSlots bases contents op (column_of op)) AnyChunk)) (sym c.in-AddRef.is)
    (IfErr-weaker c.add_node.result _ (StepSays AnyCell (NeedsSlots bases contents (AddRef c.in-AddRef.key c.in-AddRef.bytes) 0) AnyChunk)
    (λ e h. step_lacks _ (NeedsSlots bases contents (AddRef c.in-AddRef.key c.in-AddRef.bytes) 0) e
    (λ u l. (c.in-AddRef.key.0, c.in-AddRef.bytes, (refl, refl, refl), subst (λ b. LacksSlots (bases 0) (contents 0) c.in-AddRef.key.0 b 0 u) c.as_slice.ensures l)) h)
    (c.add_node.ensures.no_slots cells (bases 0) (contents 0) drafts (holds.each 0 (omega arith))))

pub returns-in_err-drop_key-in-DropRef-clause-no_slots : goal.returns-in_err-drop_key-in-DropRef-clause-no_slots
returns-in_err-drop_key-in-DropRef-clause-no_slots g c cells bases contents drafts holds =
    let p = err_from_is_err_and c.from_residual.result c.from_residual.ensures.1 in
    rw (p.1, p.2) (takes_none (NeedsSlots bases contents c.args.op.now (column_of c.args.op.now)) _
    (c.in_err-drop_key-in-DropRef.ensures.sound cells (bases 0) (contents 0) drafts (holds.each 0 (omega arith))))

pub returns-in-Put-clause-no_slots : goal.returns-in-Put-clause-no_slots
returns-in-Put-clause-no_slots g c cells bases contents drafts holds =
    let hashed : c.hash256-hash.result ≡ H c.in-Put.key = c.hash256-hash.ensures ∙ ap H c.as_slice-in-Put.ensures in
    subst (λ op. IfErr c.put_plain.result (StepSays AnyCell (NeedsSlots bases contents op (column_of op)) AnyChunk)) (sym c.in-Put.is)
    (IfErr-weaker c.put_plain.result _ (StepSays AnyCell (NeedsSlots bases contents (Put c.in-Put.key c.in-Put.bytes) 1) AnyChunk)
    (λ e h. step_lacks _ (NeedsSlots bases contents (Put c.in-Put.key c.in-Put.bytes) 1) e
    (λ u l. (c.hash256-hash.result, c.in-Put.bytes, (refl, sym hashed, refl), subst (λ b. LacksSlots (bases 1) (contents 1) c.hash256-hash.result b 1 u) c.as_slice-in-Put-2.ensures l)) h)
    (c.put_plain.ensures.no_slots cells (bases 1) (contents 1) drafts (holds.each 1 (omega arith))))

pub returns-in_err-drop_key-in-Erase-clause-no_slots : goal.returns-in_err-drop_key-in-Erase-clause-no_slots
returns-in_err-drop_key-in-Erase-clause-no_slots g c cells bases contents drafts holds =
    let p = err_from_is_err_and c.from_residual-in_err-drop_key-in-Erase.result c.from_residual-in_err-drop_key-in-Erase.ensures.1 in
    rw (p.1, p.2) (takes_none (NeedsSlots bases contents c.args.op.now (column_of c.args.op.now)) _
    (c.in_err-drop_key-in-Erase.ensures.sound cells (bases 1) (contents 1) drafts (holds.each 1 (omega arith))))
