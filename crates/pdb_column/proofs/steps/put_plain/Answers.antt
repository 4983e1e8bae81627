use Rattle.std.proofs.Common.{◌≡◌, ◌<◌, ℕ, List, Some, None, refl, sym, subst, ◌∙◌, arith}
use Rattle.std.proofs.lemmas.Result.{IfErr-weaker, err_from_is_err_and, on_ok_weaker}
use Rattle.pdb_cells.specs.Content.{Content}
use Rattle.pdb_value.specs.Faults.{Drafts, HasTable, IsFullTier, NoCell, NoTier}
use Rattle.pdb_model.specs.Tables.{holding}
use Rattle.pdb_column.specs.Damages.{BreaksColumn}
use Rattle.pdb_column.specs.Holding.{HoldsColumn}
use Rattle.pdb_column.specs.Maps.{IsCrowded}
use Rattle.pdb_column.specs.Storing.{LacksSlots}
use Rattle.pdb_column.specs.inner.Changes.{IsDropped, dropped}
use Rattle.pdb_column.specs.inner.Faults.{AnyTier}
use Rattle.pdb_column.specs.inner.KeyChunks.{HasKeyChunk}
use Rattle.pdb_column.proofs.Entered.{place_sound}
use Rattle.pdb_column.proofs.Hits.{one_draft}
use Rattle.pdb_column.proofs.KeyChunks.{keeps_head}
use Rattle.pdb_column.proofs.Located.{any_tier, breaks_now, changed_as, drafts_stay, dropped_none, has_room, if_some_at, none_at, none_some, ok_any, over_dropped, some_at, step_more, written_over}
use Rattle.pdb_column.proofs.NoSlots.{lacks_undropped, step_lacks, takes_none}
use Rattle.pdb_column.proofs.SlotsFirst.{any_says}
use Rattle.pdb_column.proofs.steps.put_plain.Goals as goal

pub returns-in_err-found-clause-sound : goal.returns-in_err-found-clause-sound
returns-in_err-found-clause-sound g c cells base content drafts holds single =
    let p = err_from_is_err_and c.from_residual.result c.from_residual.ensures.1 in
    rw (p.1, p.2) (place_sound NoTier _ (c.in_err-found.ensures.sound cells base content drafts holds))

-- ---- the key is new

pub returns-in_default-clause-changed : goal.returns-in_default-clause-changed
returns-in_default-clause-changed g c cells base content drafts holds single =
    let same = c.in_ok-found.ensures.same_base cells base content drafts holds in
    let its : HoldsColumn cells 1 c.in_ok-found.found.chunk.base content = subst (λ n. HoldsColumn cells 1 n content) (sym same) holds in
    let none : content c.args.key.now ≡ None = none_at c.in_ok-found.found.hit _ _ c.in_default.is (c.in_ok-found.ensures.found cells content drafts its) in
    on_ok_weaker c.insert.result (λ w. (w.0, w.1, changed_as cells w.0 1 c.in_ok-found.found.chunk.base base content c.args.key.now _ _ same refl w.2))
    (c.insert.ensures.inserted cells content (c.locate.ensures.stays cells drafts) its (c.in_ok-found.ensures.spelled cells drafts) none)

pub returns-in_default-clause-uncrowded : goal.returns-in_default-clause-uncrowded
returns-in_default-clause-uncrowded g c cells base content drafts holds =
    let same = c.in_ok-found.ensures.same_base cells base content drafts holds in
    let its : HoldsColumn cells 1 c.in_ok-found.found.chunk.base content = subst (λ n. HoldsColumn cells 1 n content) (sym same) holds in
    on_ok_weaker c.insert.result (λ h none many. h (subst (λ n. IsCrowded content n c.args.key.now) (sym same) many))
    (c.insert.ensures.uncrowded cells content (c.locate.ensures.stays cells drafts) its (c.in_ok-found.ensures.spelled cells drafts))

pub returns-in_default-clause-sound : goal.returns-in_default-clause-sound
returns-in_default-clause-sound g c cells base content drafts holds single =
    let same = c.in_ok-found.ensures.same_base cells base content drafts holds in
    let its : HoldsColumn cells 1 c.in_ok-found.found.chunk.base content = subst (λ n. HoldsColumn cells 1 n content) (sym same) holds in
    let none : content c.args.key.now ≡ None = none_at c.in_ok-found.found.hit _ _ c.in_default.is (c.in_ok-found.ensures.found cells content drafts its) in
    IfErr-weaker c.insert.result _ _ (λ e h. step_more NoCell AnyTier _ _ e (λ b n f. (none, f.0 ∙ same, f.1, f.2)) h)
    (c.insert.ensures.sound cells content (c.locate.ensures.stays cells drafts) its (c.in_ok-found.ensures.spelled cells drafts))

pub returns-in_default-clause-faults : goal.returns-in_default-clause-faults
returns-in_default-clause-faults g c cells drafts = c.insert.ensures.faults cells (c.locate.ensures.stays cells drafts) (c.in_ok-found.ensures.spelled cells drafts)

-- ---- in place

pub returns-in_err-done-clause-sound : goal.returns-in_err-done-clause-sound
returns-in_err-done-clause-sound g c cells base content drafts holds single =
    let same = c.in_ok-found.ensures.same_base cells base content drafts holds in
    let its : HoldsColumn cells 1 c.in_ok-found.found.chunk.base content = subst (λ n. HoldsColumn cells 1 n content) (sym same) holds in
    let at = some_at c.in_ok-found.found.hit c.in-Some.hit _ _ c.in-Some.is (c.in_ok-found.ensures.found cells content drafts its) in
    let within = if_some_at c.in_ok-found.found.hit c.in-Some.hit _ c.in-Some.is c.in_ok-found.ensures.within in
    let p = err_from_is_err_and c.from_residual-in_err-done.result c.from_residual-in_err-done.ensures.1 in
    rw (p.1, p.2) (place_sound NoTier _ (c.in_err-done.ensures.sound cells (its.picture.tables c.in-Some.hit.at.tier) (record { key = c.args.key.now; count = at.counted.count; value = at.counted.bytes })
    (c.locate.ensures.stays cells drafts) (keeps_head cells 1 c.in_ok-found.found.chunk.base content its) (its.spelled.tables c.in-Some.hit.at.tier (let low = within.1 in omega arith)) at.holds))

pub returns-in_err-done-clause-faults : goal.returns-in_err-done-clause-faults
returns-in_err-done-clause-faults g c cells drafts =
    let within = if_some_at c.in_ok-found.found.hit c.in-Some.hit _ c.in-Some.is c.in_ok-found.ensures.within in
    let now = c.locate.ensures.stays cells drafts in
    let still = drafts_stay _ _ _ _ cells c.in_err-done.ensures.left (λ below. g.met.C.Cells.stays _ _ below c.replace.ensures.keeps) now in
    let p = err_from_is_err_and c.from_residual-in_err-done.result c.from_residual-in_err-done.ensures.1 in
    rw (p.1, p.2) (breaks_now (λ (x : Content). Drafts c.replace.new.d.puts (g.C.Cells.seen c.replace.new.d.under.now) x) cells 1 c.in-Some.hit.at.tier
    (λ tier. (x : Content) × Drafts c.replace.new.d.puts (g.C.Cells.seen c.replace.new.d.under.now) x × IsFullTier x 1 tier) _ within.1 still (c.in_err-done.ensures.faults cells now))

pub returns-then-done-clause-changed : goal.returns-then-done-clause-changed
returns-then-done-clause-changed g c cells base content drafts holds single =
    let same = c.in_ok-found.ensures.same_base cells base content drafts holds in
    let its : HoldsColumn cells 1 c.in_ok-found.found.chunk.base content = subst (λ n. HoldsColumn cells 1 n content) (sym same) holds in
    let hit = if_some_at c.in_ok-found.found.hit c.in-Some.hit _ c.in-Some.is c.in_ok-found.ensures.hit in
    let at = some_at c.in_ok-found.found.hit c.in-Some.hit _ _ c.in-Some.is (c.in_ok-found.ensures.found cells content drafts its) in
    let within = if_some_at c.in_ok-found.found.hit c.in-Some.hit _ c.in-Some.is c.in_ok-found.ensures.within in
    let low : c.in-Some.hit.at.tier < 16 = let tier = within.1 in omega arith in
    let now = c.locate.ensures.stays cells drafts in
    let o = c.in_ok-done.ensures.only cells now in
    let d = c.in_ok-done.ensures.replaced cells (its.picture.tables c.in-Some.hit.at.tier) (record { key = c.args.key.now; count = at.counted.count; value = at.counted.bytes }) now (its.spelled.tables c.in-Some.hit.at.tier low) at.holds c.if-done.true in
    let is : d.0 ≡ o.0 = one_draft d.0 o.0 (sym d.1 ∙ o.1) in (
      o.0,
      o.1,
      changed_as cells o.0 1 c.in_ok-found.found.chunk.base base content c.args.key.now (Some (record { count = 1; bytes = c.args.bytes.now })) (Some (record { count = 1; bytes = c.args.bytes.now })) same refl
          (written_over cells o.0 1 c.in_ok-found.found.chunk.base content c.args.key.now c.in_ok-found.found.chunk.entries.items c.args.bytes.now c.in-Some.hit.place c.in-Some.hit.at.tier c.in-Some.hit.at.slot its
          (c.in_ok-found.ensures.spelled cells drafts) hit at low o.2 o.3 (single at.counted at.is) (subst (λ (x : Content). HasTable x 1 c.in-Some.hit.at.tier (holding (its.picture.tables c.in-Some.hit.at.tier) c.in-Some.hit.at.slot c.args.key.now at.counted.count c.args.bytes.now)) is d.2)),
    )

pub returns-then-done-clause-uncrowded : goal.returns-then-done-clause-uncrowded
returns-then-done-clause-uncrowded g c cells base content drafts holds none many =
    let same = c.in_ok-found.ensures.same_base cells base content drafts holds in
    let its : HoldsColumn cells 1 c.in_ok-found.found.chunk.base content = subst (λ n. HoldsColumn cells 1 n content) (sym same) holds in
    let at = some_at c.in_ok-found.found.hit c.in-Some.hit _ _ c.in-Some.is (c.in_ok-found.ensures.found cells content drafts its) in
    none_some (content c.args.key.now) at.counted at.is none

-- ---- removed and placed again

pub returns-in_err-remove-clause-keeps : goal.returns-in_err-remove-clause-keeps
returns-in_err-remove-clause-keeps g c = g.met.C.Cells.on _ _ _ (g.met.C.Cells.on _ _ _ c.locate.ensures.keeps.1 c.replace.ensures.keeps) c.remove.ensures.keeps

pub returns-in_err-remove-clause-sound : goal.returns-in_err-remove-clause-sound
returns-in_err-remove-clause-sound g c cells base content drafts holds single =
    let same = c.in_ok-found.ensures.same_base cells base content drafts holds in
    let its : HoldsColumn cells 1 c.in_ok-found.found.chunk.base content = subst (λ n. HoldsColumn cells 1 n content) (sym same) holds in
    let at = some_at c.in_ok-found.found.hit c.in-Some.hit _ _ c.in-Some.is (c.in_ok-found.ensures.found cells content drafts its) in
    let still = drafts_stay _ _ _ _ cells (c.in_ok-done.ensures.nothing c.if-done.false) (λ below. g.met.C.Cells.stays _ _ below c.replace.ensures.keeps) (c.locate.ensures.stays cells drafts) in
    let p = err_from_is_err_and c.from_residual-in_err-remove.result c.from_residual-in_err-remove.ensures.1 in
    rw (p.1, p.2) (place_sound NoTier _ (c.in_err-remove.ensures.sound cells c.in_ok-found.found.chunk.base content c.args.key.now still its at))

pub returns-in_err-remove-clause-faults : goal.returns-in_err-remove-clause-faults
returns-in_err-remove-clause-faults g c cells drafts =
    let hit = if_some_at c.in_ok-found.found.hit c.in-Some.hit _ c.in-Some.is c.in_ok-found.ensures.hit in
    let still = drafts_stay _ _ _ _ cells (c.in_ok-done.ensures.nothing c.if-done.false) (λ below. g.met.C.Cells.stays _ _ below c.replace.ensures.keeps) (c.locate.ensures.stays cells drafts) in
    let p = err_from_is_err_and c.from_residual-in_err-remove.result c.from_residual-in_err-remove.ensures.1 in
    rw (p.1, p.2) (any_tier (λ file cell. (x : Content) × Drafts c.remove.new.d.puts (g.C.Cells.seen c.remove.new.d.under.now) x × BreaksColumn x 1 file cell)
    (λ tier. (x : Content) × Drafts c.remove.new.d.puts (g.C.Cells.seen c.remove.new.d.under.now) x × IsFullTier x 1 tier) _ (c.in_err-remove.ensures.faults cells still (c.in_ok-found.ensures.entries cells drafts) hit))

pub returns-clause-keeps : goal.returns-clause-keeps
returns-clause-keeps g c = g.met.C.Cells.on _ _ _ (g.met.C.Cells.on _ _ _ (g.met.C.Cells.on _ _ _ c.locate.ensures.keeps.1 c.replace.ensures.keeps) c.remove.ensures.keeps) c.insert-2.ensures.keeps

pub returns-clause-changed : goal.returns-clause-changed
returns-clause-changed g c cells base content drafts holds single =
    let b : ℕ = c.in_ok-found.found.chunk.base in
    let same = c.in_ok-found.ensures.same_base cells base content drafts holds in
    let its : HoldsColumn cells 1 b content = subst (λ n. HoldsColumn cells 1 n content) (sym same) holds in
    let hit = if_some_at c.in_ok-found.found.hit c.in-Some.hit _ c.in-Some.is c.in_ok-found.ensures.hit in
    let at = some_at c.in_ok-found.found.hit c.in-Some.hit _ _ c.in-Some.is (c.in_ok-found.ensures.found cells content drafts its) in
    let still = drafts_stay _ _ _ _ cells (c.in_ok-done.ensures.nothing c.if-done.false) (λ below. g.met.C.Cells.stays _ _ below c.replace.ensures.keeps) (c.locate.ensures.stays cells drafts) in
    let d = c.in_ok-remove.ensures.dropped cells content c.args.key.now still its (c.in_ok-found.ensures.spelled cells drafts) c.in_ok-found.ensures.number.0 hit at in
    let b_is : c.remove.new.chunk.base ≡ b = c.remove.ensures.base.0 in
    let gone = subst (λ n. IsDropped 1 n content c.args.key.now c.remove.new.chunk.entries.items c.in-Some.hit.place cells d.0) same d.2 in
    let left : HoldsColumn d.0 1 c.remove.new.chunk.base (dropped content c.args.key.now) = subst (λ n. HoldsColumn d.0 1 n (dropped content c.args.key.now)) (sym b_is) d.2.holds in
    let chunk : HasKeyChunk d.0 1 c.args.key.now c.remove.new.chunk.base c.remove.new.chunk.entries.items = subst (λ n. HasKeyChunk d.0 1 c.args.key.now n c.remove.new.chunk.entries.items) (sym b_is) d.2.chunk in
    on_ok_weaker c.insert-2.result
    (λ w. (
      w.0,
      w.1,
      over_dropped cells d.0 w.0 1 base content c.args.key.now c.remove.new.chunk.entries.items c.in-Some.hit.place (Some (record { count = 1; bytes = c.args.bytes.now })) gone
          (changed_as d.0 w.0 1 c.remove.new.chunk.base base (dropped content c.args.key.now) c.args.key.now _ _ (b_is ∙ same) refl w.2),
    ))
    (c.insert-2.ensures.inserted d.0 (dropped content c.args.key.now) d.1 left chunk (dropped_none content c.args.key.now at.counted at.is (single at.counted at.is)))

pub returns-clause-uncrowded : goal.returns-clause-uncrowded
returns-clause-uncrowded g c cells base content drafts holds =
    let same = c.in_ok-found.ensures.same_base cells base content drafts holds in
    let its : HoldsColumn cells 1 c.in_ok-found.found.chunk.base content = subst (λ n. HoldsColumn cells 1 n content) (sym same) holds in
    let at = some_at c.in_ok-found.found.hit c.in-Some.hit _ _ c.in-Some.is (c.in_ok-found.ensures.found cells content drafts its) in
    ok_any c.insert-2.result (λ none many. none_some (content c.args.key.now) at.counted at.is none)

pub returns-clause-sound : goal.returns-clause-sound
returns-clause-sound g c cells base content drafts holds single =
    let b : ℕ = c.in_ok-found.found.chunk.base in
    let same = c.in_ok-found.ensures.same_base cells base content drafts holds in
    let its : HoldsColumn cells 1 b content = subst (λ n. HoldsColumn cells 1 n content) (sym same) holds in
    let hit = if_some_at c.in_ok-found.found.hit c.in-Some.hit _ c.in-Some.is c.in_ok-found.ensures.hit in
    let at = some_at c.in_ok-found.found.hit c.in-Some.hit _ _ c.in-Some.is (c.in_ok-found.ensures.found cells content drafts its) in
    let still = drafts_stay _ _ _ _ cells (c.in_ok-done.ensures.nothing c.if-done.false) (λ below. g.met.C.Cells.stays _ _ below c.replace.ensures.keeps) (c.locate.ensures.stays cells drafts) in
    let d = c.in_ok-remove.ensures.dropped cells content c.args.key.now still its (c.in_ok-found.ensures.spelled cells drafts) c.in_ok-found.ensures.number.0 hit at in
    let b_is : c.remove.new.chunk.base ≡ b = c.remove.ensures.base.0 in
    let left : HoldsColumn d.0 1 c.remove.new.chunk.base (dropped content c.args.key.now) = subst (λ n. HoldsColumn d.0 1 n (dropped content c.args.key.now)) (sym b_is) d.2.holds in
    let chunk : HasKeyChunk d.0 1 c.args.key.now c.remove.new.chunk.base c.remove.new.chunk.entries.items = subst (λ n. HasKeyChunk d.0 1 c.args.key.now n c.remove.new.chunk.entries.items) (sym b_is) d.2.chunk in
    IfErr-weaker c.insert-2.result _ _
    (λ e h. step_more NoCell AnyTier _ _ e (λ b n f. absurd (has_room c.remove.new.chunk.entries.items c.in-Some.hit.place (d.2.room at.counted at.is (single at.counted at.is)) f.3)) h)
    (c.insert-2.ensures.sound d.0 (dropped content c.args.key.now) d.1 left chunk)

pub returns-clause-faults : goal.returns-clause-faults
returns-clause-faults g c cells drafts =
    let hit = if_some_at c.in_ok-found.found.hit c.in-Some.hit _ c.in-Some.is c.in_ok-found.ensures.hit in
    let still = drafts_stay _ _ _ _ cells (c.in_ok-done.ensures.nothing c.if-done.false) (λ below. g.met.C.Cells.stays _ _ below c.replace.ensures.keeps) (c.locate.ensures.stays cells drafts) in
    let d = c.in_ok-remove.ensures.chunk cells c.args.key.now still (c.in_ok-found.ensures.spelled cells drafts) (c.in_ok-found.ensures.entries cells drafts) c.in_ok-found.ensures.number.0 hit in
    c.insert-2.ensures.faults d.0 d.1 d.2

-- ---- the slots come first

pub returns-in_err-found-clause-slots_first : goal.returns-in_err-found-clause-slots_first
returns-in_err-found-clause-slots_first g c cells base content drafts holds =
    let p = err_from_is_err_and c.from_residual.result c.from_residual.ensures.1 in
    rw (p.1, p.2) (any_says _)

pub returns-in_default-clause-slots_first : goal.returns-in_default-clause-slots_first
returns-in_default-clause-slots_first g c cells base content drafts holds =
    let same = c.in_ok-found.ensures.same_base cells base content drafts holds in
    c.insert.ensures.slots_first cells content (c.locate.ensures.stays cells drafts) (subst (λ n. HoldsColumn cells 1 n content) (sym same) holds)

pub returns-in_err-done-clause-slots_first : goal.returns-in_err-done-clause-slots_first
returns-in_err-done-clause-slots_first g c cells base content drafts holds =
    let p = err_from_is_err_and c.from_residual-in_err-done.result c.from_residual-in_err-done.ensures.1 in
    rw (p.1, p.2) (any_says _)

pub returns-in_err-remove-clause-slots_first : goal.returns-in_err-remove-clause-slots_first
returns-in_err-remove-clause-slots_first g c cells base content drafts holds =
    let p = err_from_is_err_and c.from_residual-in_err-remove.result c.from_residual-in_err-remove.ensures.1 in
    rw (p.1, p.2) (any_says _)

pub returns-clause-slots_first : goal.returns-clause-slots_first
returns-clause-slots_first g c cells base content drafts holds =
    let same = c.in_ok-found.ensures.same_base cells base content drafts holds in
    let its : HoldsColumn cells 1 c.in_ok-found.found.chunk.base content = subst (λ n. HoldsColumn cells 1 n content) (sym same) holds in
    let hit = if_some_at c.in_ok-found.found.hit c.in-Some.hit _ c.in-Some.is c.in_ok-found.ensures.hit in
    let at = some_at c.in_ok-found.found.hit c.in-Some.hit _ _ c.in-Some.is (c.in_ok-found.ensures.found cells content drafts its) in
    let still = drafts_stay _ _ _ _ cells (c.in_ok-done.ensures.nothing c.if-done.false) (λ below. g.met.C.Cells.stays _ _ below c.replace.ensures.keeps) (c.locate.ensures.stays cells drafts) in
    let d = c.in_ok-remove.ensures.dropped cells content c.args.key.now still its (c.in_ok-found.ensures.spelled cells drafts) c.in_ok-found.ensures.number.0 hit at in
    c.insert-2.ensures.slots_first d.0 (dropped content c.args.key.now) d.1 (subst (λ n. HoldsColumn d.0 1 n (dropped content c.args.key.now)) (sym c.remove.ensures.base.0) d.2.holds)

-- ---- a tier without slots

pub returns-in_err-found-clause-no_slots : goal.returns-in_err-found-clause-no_slots
returns-in_err-found-clause-no_slots g c cells base content drafts holds =
    let p = err_from_is_err_and c.from_residual.result c.from_residual.ensures.1 in
    rw (p.1, p.2) (takes_none (LacksSlots base content c.args.key.now c.args.bytes.now 1) _ (c.in_err-found.ensures.sound cells base content drafts holds))

pub returns-in_default-clause-no_slots : goal.returns-in_default-clause-no_slots
returns-in_default-clause-no_slots g c cells base content drafts holds =
    let same = c.in_ok-found.ensures.same_base cells base content drafts holds in
    IfErr-weaker c.insert.result _ _
    (λ e h. step_lacks _ (LacksSlots base content c.args.key.now c.args.bytes.now 1) e (λ u l. subst (λ n. LacksSlots n content c.args.key.now c.args.bytes.now 1 u) same l) h)
    (c.insert.ensures.no_slots cells content (c.locate.ensures.stays cells drafts) (subst (λ n. HoldsColumn cells 1 n content) (sym same) holds))

pub returns-in_err-done-clause-no_slots : goal.returns-in_err-done-clause-no_slots
returns-in_err-done-clause-no_slots g c cells base content drafts holds =
    let same = c.in_ok-found.ensures.same_base cells base content drafts holds in
    let its : HoldsColumn cells 1 c.in_ok-found.found.chunk.base content = subst (λ n. HoldsColumn cells 1 n content) (sym same) holds in
    let at = some_at c.in_ok-found.found.hit c.in-Some.hit _ _ c.in-Some.is (c.in_ok-found.ensures.found cells content drafts its) in
    let within = if_some_at c.in_ok-found.found.hit c.in-Some.hit _ c.in-Some.is c.in_ok-found.ensures.within in
    let p = err_from_is_err_and c.from_residual-in_err-done.result c.from_residual-in_err-done.ensures.1 in
    rw (p.1, p.2) (takes_none (LacksSlots base content c.args.key.now c.args.bytes.now 1) _
    (c.in_err-done.ensures.sound cells (its.picture.tables c.in-Some.hit.at.tier) (record { key = c.args.key.now; count = at.counted.count; value = at.counted.bytes })
    (c.locate.ensures.stays cells drafts) (keeps_head cells 1 c.in_ok-found.found.chunk.base content its) (its.spelled.tables c.in-Some.hit.at.tier (let low = within.1 in omega arith)) at.holds))

pub returns-in_err-remove-clause-no_slots : goal.returns-in_err-remove-clause-no_slots
returns-in_err-remove-clause-no_slots g c cells base content drafts holds =
    let same = c.in_ok-found.ensures.same_base cells base content drafts holds in
    let its : HoldsColumn cells 1 c.in_ok-found.found.chunk.base content = subst (λ n. HoldsColumn cells 1 n content) (sym same) holds in
    let at = some_at c.in_ok-found.found.hit c.in-Some.hit _ _ c.in-Some.is (c.in_ok-found.ensures.found cells content drafts its) in
    let still = drafts_stay _ _ _ _ cells (c.in_ok-done.ensures.nothing c.if-done.false) (λ below. g.met.C.Cells.stays _ _ below c.replace.ensures.keeps) (c.locate.ensures.stays cells drafts) in
    let p = err_from_is_err_and c.from_residual-in_err-remove.result c.from_residual-in_err-remove.ensures.1 in
    rw (p.1, p.2) (takes_none (LacksSlots base content c.args.key.now c.args.bytes.now 1) _ (c.in_err-remove.ensures.sound cells c.in_ok-found.found.chunk.base content c.args.key.now still its at))

pub returns-clause-no_slots : goal.returns-clause-no_slots
returns-clause-no_slots g c cells base content drafts holds =
    let key : List ℕ = c.args.key.now in
    let same = c.in_ok-found.ensures.same_base cells base content drafts holds in
    let its : HoldsColumn cells 1 c.in_ok-found.found.chunk.base content = subst (λ n. HoldsColumn cells 1 n content) (sym same) holds in
    let hit = if_some_at c.in_ok-found.found.hit c.in-Some.hit _ c.in-Some.is c.in_ok-found.ensures.hit in
    let at = some_at c.in_ok-found.found.hit c.in-Some.hit _ _ c.in-Some.is (c.in_ok-found.ensures.found cells content drafts its) in
    let still = drafts_stay _ _ _ _ cells (c.in_ok-done.ensures.nothing c.if-done.false) (λ below. g.met.C.Cells.stays _ _ below c.replace.ensures.keeps) (c.locate.ensures.stays cells drafts) in
    let d = c.in_ok-remove.ensures.dropped cells content key still its (c.in_ok-found.ensures.spelled cells drafts) c.in_ok-found.ensures.number.0 hit at in
    IfErr-weaker c.insert-2.result _ _
    (λ e h. step_lacks _ (LacksSlots base content key c.args.bytes.now 1) e
    (λ u l. lacks_undropped base content key c.args.bytes.now 1 u (subst (λ n. LacksSlots n (dropped content key) key c.args.bytes.now 1 u) (c.remove.ensures.base.0 ∙ same) l)) h)
    (c.insert-2.ensures.no_slots d.0 (dropped content key) d.1 (subst (λ n. HoldsColumn d.0 1 n (dropped content key)) (sym c.remove.ensures.base.0) d.2.holds))
