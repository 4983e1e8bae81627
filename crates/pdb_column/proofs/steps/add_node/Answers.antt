use Rattle.std.proofs.Common.{◌≡◌, ◌<◌, None, refl, sym, ap, subst, ◌∙◌, arith}
use Rattle.std.proofs.lemmas.Result.{IfErr-weaker, err_from_is_err_and, on_ok_weaker}
use Rattle.sdb_base.specs.Content.{with_reference}
use Rattle.pdb_cells.specs.Content.{Content}
use Rattle.pdb_model.specs.Tables.{recounted}
use Rattle.pdb_value.specs.Faults.{Drafts, HasTable, IsFullTier, NoCell, NoTier}
use Rattle.pdb_column.specs.Holding.{HoldsColumn}
use Rattle.pdb_column.specs.Maps.{IsCrowded}
use Rattle.pdb_column.specs.Storing.{LacksSlots}
use Rattle.pdb_column.specs.inner.Faults.{AnyTier}
use Rattle.pdb_column.proofs.Entered.{place_sound}
use Rattle.pdb_column.proofs.Hits.{one_draft}
use Rattle.pdb_column.proofs.KeyChunks.{keeps_head}
use Rattle.pdb_column.proofs.Located.{breaks_now, changed_as, drafts_stay, if_some_at, none_at, none_some, referenced, some_at, step_more}
use Rattle.pdb_column.proofs.NoSlots.{step_lacks, takes_none}
use Rattle.pdb_column.proofs.SlotsFirst.{any_says}
use Rattle.pdb_column.proofs.steps.add_node.Goals as goal

pub returns-in_err-found-clause-sound : goal.returns-in_err-found-clause-sound
returns-in_err-found-clause-sound g c cells base content drafts holds =
    let p = err_from_is_err_and c.from_residual.result c.from_residual.ensures.1 in
    rw (p.1, p.2) (place_sound NoTier _ (c.in_err-found.ensures.sound cells base content drafts holds))

pub returns-in_err-add_ref-in-Some-clause-sound : goal.returns-in_err-add_ref-in-Some-clause-sound
returns-in_err-add_ref-in-Some-clause-sound g c cells base content drafts holds =
    let same = c.in_ok-found.ensures.same_base cells base content drafts holds in
    let its : HoldsColumn cells 0 c.in_ok-found.found.chunk.base content = subst (λ n. HoldsColumn cells 0 n content) (sym same) holds in
    let at = some_at c.in_ok-found.found.hit c.in-Some.hit _ _ c.in-Some.is (c.in_ok-found.ensures.found cells content drafts its) in
    let within = if_some_at c.in_ok-found.found.hit c.in-Some.hit _ c.in-Some.is c.in_ok-found.ensures.within in
    let p = err_from_is_err_and c.from_residual-in_err-add_ref-in-Some.result c.from_residual-in_err-add_ref-in-Some.ensures.1 in
    rw (p.1, p.2) (place_sound NoTier _ (c.in_err-add_ref-in-Some.ensures.sound cells (its.picture.tables c.in-Some.hit.at.tier) (record { key = c.args.key.now; count = at.counted.count; value = at.counted.bytes })
    (c.locate.ensures.stays cells drafts) (keeps_head cells 0 c.in_ok-found.found.chunk.base content its) (its.spelled.tables c.in-Some.hit.at.tier (let low = within.1 in omega arith)) at.holds))

pub returns-in_err-add_ref-in-Some-clause-faults : goal.returns-in_err-add_ref-in-Some-clause-faults
returns-in_err-add_ref-in-Some-clause-faults g c cells drafts =
    let within = if_some_at c.in_ok-found.found.hit c.in-Some.hit _ c.in-Some.is c.in_ok-found.ensures.within in
    let now = c.locate.ensures.stays cells drafts in
    let still = drafts_stay _ _ _ _ cells c.in_err-add_ref-in-Some.ensures.left (λ below. g.met.C.Cells.stays _ _ below c.add_ref.ensures.keeps) now in
    let p = err_from_is_err_and c.from_residual-in_err-add_ref-in-Some.result c.from_residual-in_err-add_ref-in-Some.ensures.1 in
    rw (p.1, p.2) (breaks_now (λ (x : Content). Drafts c.add_ref.new.d.puts (g.C.Cells.seen c.add_ref.new.d.under.now) x) cells 0 c.in-Some.hit.at.tier
    (λ tier. (x : Content) × Drafts c.add_ref.new.d.puts (g.C.Cells.seen c.add_ref.new.d.under.now) x × IsFullTier x 0 tier) _ within.1 still (c.in_err-add_ref-in-Some.ensures.faults cells now))

pub returns-in_ok-add_ref-in-Some-clause-changed : goal.returns-in_ok-add_ref-in-Some-clause-changed
returns-in_ok-add_ref-in-Some-clause-changed g c cells base content drafts holds =
    let same = c.in_ok-found.ensures.same_base cells base content drafts holds in
    let its : HoldsColumn cells 0 c.in_ok-found.found.chunk.base content = subst (λ n. HoldsColumn cells 0 n content) (sym same) holds in
    let hit = if_some_at c.in_ok-found.found.hit c.in-Some.hit _ c.in-Some.is c.in_ok-found.ensures.hit in
    let at = some_at c.in_ok-found.found.hit c.in-Some.hit _ _ c.in-Some.is (c.in_ok-found.ensures.found cells content drafts its) in
    let within = if_some_at c.in_ok-found.found.hit c.in-Some.hit _ c.in-Some.is c.in_ok-found.ensures.within in
    let low : c.in-Some.hit.at.tier < 16 = let tier = within.1 in omega arith in
    let now = c.locate.ensures.stays cells drafts in
    let o = c.in_ok-add_ref-in-Some.ensures.only cells now in
    let d = c.in_ok-add_ref-in-Some.ensures.added cells (its.picture.tables c.in-Some.hit.at.tier) (record { key = c.args.key.now; count = at.counted.count; value = at.counted.bytes }) now (its.spelled.tables c.in-Some.hit.at.tier low) at.holds in
    let is : d.1.0 ≡ o.0 = one_draft d.1.0 o.0 (sym d.1.1 ∙ o.1) in (
      o.0,
      o.1,
      changed_as cells o.0 0 c.in_ok-found.found.chunk.base base content c.args.key.now (with_reference c.args.bytes.now (content c.args.key.now)) (with_reference c.args.bytes.now (content c.args.key.now)) same refl
          (referenced cells o.0 0 c.in_ok-found.found.chunk.base content c.args.key.now c.in_ok-found.found.chunk.entries.items c.args.bytes.now c.in-Some.hit.place c.in-Some.hit.at.tier c.in-Some.hit.at.slot _ its
          (c.in_ok-found.ensures.spelled cells drafts) hit at low o.2 o.3 d.0 (subst (λ (x : Content). HasTable x 0 c.in-Some.hit.at.tier (recounted (its.picture.tables c.in-Some.hit.at.tier) c.in-Some.hit.at.slot c.in_ok-add_ref-in-Some.field-0)) is d.1.2)),
    )

pub returns-in_ok-add_ref-in-Some-clause-uncrowded : goal.returns-in_ok-add_ref-in-Some-clause-uncrowded
returns-in_ok-add_ref-in-Some-clause-uncrowded g c cells base content drafts holds none many =
    let same = c.in_ok-found.ensures.same_base cells base content drafts holds in
    let its : HoldsColumn cells 0 c.in_ok-found.found.chunk.base content = subst (λ n. HoldsColumn cells 0 n content) (sym same) holds in
    let at = some_at c.in_ok-found.found.hit c.in-Some.hit _ _ c.in-Some.is (c.in_ok-found.ensures.found cells content drafts its) in
    none_some (content c.args.key.now) at.counted at.is none

pub returns-in-None-clause-changed : goal.returns-in-None-clause-changed
returns-in-None-clause-changed g c cells base content drafts holds =
    let same = c.in_ok-found.ensures.same_base cells base content drafts holds in
    let its : HoldsColumn cells 0 c.in_ok-found.found.chunk.base content = subst (λ n. HoldsColumn cells 0 n content) (sym same) holds in
    let none : content c.args.key.now ≡ None = none_at c.in_ok-found.found.hit _ _ c.in-None.is (c.in_ok-found.ensures.found cells content drafts its) in
    on_ok_weaker c.insert.result
    (λ w. (w.0, w.1, changed_as cells w.0 0 c.in_ok-found.found.chunk.base base content c.args.key.now _ (with_reference c.args.bytes.now (content c.args.key.now)) same (ap (with_reference c.args.bytes.now) (sym none)) w.2))
    (c.insert.ensures.inserted cells content (c.locate.ensures.stays cells drafts) its (c.in_ok-found.ensures.spelled cells drafts) none)

pub returns-in-None-clause-uncrowded : goal.returns-in-None-clause-uncrowded
returns-in-None-clause-uncrowded g c cells base content drafts holds =
    let same = c.in_ok-found.ensures.same_base cells base content drafts holds in
    let its : HoldsColumn cells 0 c.in_ok-found.found.chunk.base content = subst (λ n. HoldsColumn cells 0 n content) (sym same) holds in
    on_ok_weaker c.insert.result (λ h none many. h (subst (λ n. IsCrowded content n c.args.key.now) (sym same) many))
    (c.insert.ensures.uncrowded cells content (c.locate.ensures.stays cells drafts) its (c.in_ok-found.ensures.spelled cells drafts))

pub returns-in-None-clause-sound : goal.returns-in-None-clause-sound
returns-in-None-clause-sound g c cells base content drafts holds =
    let same = c.in_ok-found.ensures.same_base cells base content drafts holds in
    let its : HoldsColumn cells 0 c.in_ok-found.found.chunk.base content = subst (λ n. HoldsColumn cells 0 n content) (sym same) holds in
    let none : content c.args.key.now ≡ None = none_at c.in_ok-found.found.hit _ _ c.in-None.is (c.in_ok-found.ensures.found cells content drafts its) in
    IfErr-weaker c.insert.result _ _ (λ e h. step_more NoCell AnyTier _ _ e (λ b n f. (none, f.0 ∙ same, f.1, f.2)) h)
    (c.insert.ensures.sound cells content (c.locate.ensures.stays cells drafts) its (c.in_ok-found.ensures.spelled cells drafts))

pub returns-in-None-clause-faults : goal.returns-in-None-clause-faults
returns-in-None-clause-faults g c cells drafts = c.insert.ensures.faults cells (c.locate.ensures.stays cells drafts) (c.in_ok-found.ensures.spelled cells drafts)

pub returns-in_err-found-clause-slots_first : goal.returns-in_err-found-clause-slots_first
returns-in_err-found-clause-slots_first g c cells base content drafts holds =
    let p = err_from_is_err_and c.from_residual.result c.from_residual.ensures.1 in
    rw (p.1, p.2) (any_says _)

pub returns-in_err-add_ref-in-Some-clause-slots_first : goal.returns-in_err-add_ref-in-Some-clause-slots_first
returns-in_err-add_ref-in-Some-clause-slots_first g c cells base content drafts holds =
    let p = err_from_is_err_and c.from_residual-in_err-add_ref-in-Some.result c.from_residual-in_err-add_ref-in-Some.ensures.1 in
    rw (p.1, p.2) (any_says _)

pub returns-in-None-clause-slots_first : goal.returns-in-None-clause-slots_first
returns-in-None-clause-slots_first g c cells base content drafts holds =
    let same = c.in_ok-found.ensures.same_base cells base content drafts holds in
    c.insert.ensures.slots_first cells content (c.locate.ensures.stays cells drafts) (subst (λ n. HoldsColumn cells 0 n content) (sym same) holds)

-- ---- a tier without slots

pub returns-in_err-found-clause-no_slots : goal.returns-in_err-found-clause-no_slots
returns-in_err-found-clause-no_slots g c cells base content drafts holds =
    let p = err_from_is_err_and c.from_residual.result c.from_residual.ensures.1 in
    rw (p.1, p.2) (takes_none (LacksSlots base content c.args.key.now c.args.bytes.now 0) _ (c.in_err-found.ensures.sound cells base content drafts holds))

pub returns-in_err-add_ref-in-Some-clause-no_slots : goal.returns-in_err-add_ref-in-Some-clause-no_slots
returns-in_err-add_ref-in-Some-clause-no_slots g c cells base content drafts holds =
    let same = c.in_ok-found.ensures.same_base cells base content drafts holds in
    let its : HoldsColumn cells 0 c.in_ok-found.found.chunk.base content = subst (λ n. HoldsColumn cells 0 n content) (sym same) holds in
    let at = some_at c.in_ok-found.found.hit c.in-Some.hit _ _ c.in-Some.is (c.in_ok-found.ensures.found cells content drafts its) in
    let within = if_some_at c.in_ok-found.found.hit c.in-Some.hit _ c.in-Some.is c.in_ok-found.ensures.within in
    let p = err_from_is_err_and c.from_residual-in_err-add_ref-in-Some.result c.from_residual-in_err-add_ref-in-Some.ensures.1 in
    rw (p.1, p.2) (takes_none (LacksSlots base content c.args.key.now c.args.bytes.now 0) _
    (c.in_err-add_ref-in-Some.ensures.sound cells (its.picture.tables c.in-Some.hit.at.tier) (record { key = c.args.key.now; count = at.counted.count; value = at.counted.bytes })
    (c.locate.ensures.stays cells drafts) (keeps_head cells 0 c.in_ok-found.found.chunk.base content its) (its.spelled.tables c.in-Some.hit.at.tier (let low = within.1 in omega arith)) at.holds))

pub returns-in-None-clause-no_slots : goal.returns-in-None-clause-no_slots
returns-in-None-clause-no_slots g c cells base content drafts holds =
    let same = c.in_ok-found.ensures.same_base cells base content drafts holds in
    IfErr-weaker c.insert.result _ _
    (λ e h. step_lacks _ (LacksSlots base content c.args.key.now c.args.bytes.now 0) e (λ u l. subst (λ n. LacksSlots n content c.args.key.now c.args.bytes.now 0 u) same l) h)
    (c.insert.ensures.no_slots cells content (c.locate.ensures.stays cells drafts) (subst (λ n. HoldsColumn cells 0 n content) (sym same) holds))
