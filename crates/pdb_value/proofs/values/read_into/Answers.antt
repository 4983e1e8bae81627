use Rattle.std.proofs.Common.{◌≡◌, ◌≤◌, ◌-◌, ◌+◌, ◌/◌, ◌++◌, true, false, not, length, take, drop, refl, sym, ap, subst, ◌∙◌, arith, length-drop}
use Rattle.std.proofs.lemmas.Result.{err_from_is_err_and}
use Rattle.std.proofs.lemmas.List.{take_rest}
use Rattle.std.proofs.lemmas.Slice.Eq.{bytes_eq-Decides}
use Rattle.pdb_model.specs.Tables.{slots_of}
use Rattle.pdb_model.specs.Tiers.{slot_size}
use Rattle.pdb_value.proofs.FirstSlots.{broken_part, first_at, not_no, parts_at, slots_long, whole_at}
use Rattle.pdb_value.proofs.Held.{agrees, first_sound, parts_there, value_is}
use Rattle.pdb_value.proofs.values.read_into.Goals as goal

pub returns-in_err-first-clause-sound : goal.returns-in_err-first-clause-sound
returns-in_err-first-clause-sound g c cells t h seen keeps spells holds =
    let p = err_from_is_err_and c.from_residual.result c.from_residual.ensures.1 in
    rw (p.1, p.2) (first_sound cells c.args.column c.args.at.tier c.args.at.slot t h _ (omega arith) keeps spells holds (c.in_err-first.ensures.faults cells seen))

pub returns-then-ne-clause-answer : goal.returns-then-ne-clause-answer
returns-then-ne-clause-answer g c cells seen = (
  refl,
  (
    c.in_ok-first.first.fields.key,
    c.in_ok-first.first.fields.count,
    first_at cells c.args.column c.args.at.tier c.args.at.slot c.in_ok-first.first.end c.in_ok-first.first.cell.items c.in_ok-first.first.fields.key c.in_ok-first.first.fields.count c.in_ok-first.first.fields.len c.in_ok-first.first.fields.next (c.in_ok-first.ensures.cell cells seen) c.in_ok-first.ensures.first,
    λ e. let q : true ≡ false = sym c.if-ne.true ∙ (c.ne.ensures ∙ ap not ((bytes_eq-Decides c.in_ok-first.first.fields.key c.args.key.now).1 e)) in cc,
  ),
)

pub returns-then-ne-clause-held : goal.returns-then-ne-clause-held
returns-then-ne-clause-held g c cells t h seen spells holds =
    let same = agrees cells c.args.column c.args.at.tier c.args.at.slot c.in_ok-first.first.end t h c.in_ok-first.first.cell.items c.in_ok-first.first.fields.key c.in_ok-first.first.fields.count c.in_ok-first.first.fields.len c.in_ok-first.first.fields.next spells holds (c.in_ok-first.ensures.cell cells seen) c.in_ok-first.ensures.first in
    (λ e. let q : true ≡ false = sym c.if-ne.true ∙ (c.ne.ensures ∙ ap not ((bytes_eq-Decides c.in_ok-first.first.fields.key c.args.key.now).1 (same.key_is ∙ e))) in cc, refl)

pub returns-then-at-lt-PARTS_TIER-clause-answer : goal.returns-then-at-lt-PARTS_TIER-clause-answer
returns-then-at-lt-PARTS_TIER-clause-answer g c cells seen = (
  c.in_ok-first.first.fields.count,
  whole_at cells c.args.column c.args.at.tier c.args.at.slot c.in_ok-first.first.end c.in_ok-first.first.fields.len c.in_ok-first.first.fields.next c.in_ok-first.first.fields.count
      (44 + c.in_ok-first.first.fields.len - 44) c.in_ok-first.first.cell.items c.in_ok-first.first.fields.key c.args.key.now c.deref.result.now c.extend_from_slice.new.self.items
      c.if-at-lt-PARTS_TIER.true c.in_ok-first.ensures.first (c.in_ok-first.ensures.cell cells seen) c.deref.ensures.value (omega arith)
      ((bytes_eq-Decides c.in_ok-first.first.fields.key c.args.key.now).0 (not_no _ (sym c.ne.ensures ∙ c.if-ne.false))) (c.in_ok-extend_from_slice.ensures.items ∙ ap (λ x. x ++ take (44 + c.in_ok-first.first.fields.len - 44) (drop 44 c.deref.result.now)) (c.reserve.ensures.items ∙ c.clear.ensures.items)),
)

pub returns-then-at-lt-PARTS_TIER-clause-held : goal.returns-then-at-lt-PARTS_TIER-clause-held
returns-then-at-lt-PARTS_TIER-clause-held g c cells t h seen spells holds =
    let is = value_is cells c.args.column c.args.at.tier c.args.at.slot t h c.args.key.now c.in_ok-first.first.fields.count c.extend_from_slice.new.self.items spells holds (whole_at cells c.args.column c.args.at.tier c.args.at.slot c.in_ok-first.first.end c.in_ok-first.first.fields.len c.in_ok-first.first.fields.next c.in_ok-first.first.fields.count
    (44 + c.in_ok-first.first.fields.len - 44) c.in_ok-first.first.cell.items c.in_ok-first.first.fields.key c.args.key.now c.deref.result.now c.extend_from_slice.new.self.items
    c.if-at-lt-PARTS_TIER.true c.in_ok-first.ensures.first (c.in_ok-first.ensures.cell cells seen) c.deref.ensures.value (omega arith)
    ((bytes_eq-Decides c.in_ok-first.first.fields.key c.args.key.now).0 (not_no _ (sym c.ne.ensures ∙ c.if-ne.false))) (c.in_ok-extend_from_slice.ensures.items ∙ ap (λ x. x ++ take (44 + c.in_ok-first.first.fields.len - 44) (drop 44 c.deref.result.now)) (c.reserve.ensures.items ∙ c.clear.ensures.items))) in
    (is.0, sym is.1)

pub returns-in_err-read_parts-clause-faults : goal.returns-in_err-read_parts-clause-faults
returns-in_err-read_parts-clause-faults g c cells seen =
    let p = err_from_is_err_and c.from_residual-in_err-read_parts.result c.from_residual-in_err-read_parts.ensures.1 in
    rw (p.1, p.2) (broken_part cells c.args.column c.args.at.tier c.in_ok-first.first.end _ (omega arith) (c.in_ok-first.ensures.end cells seen) (c.in_err-read_parts.ensures.faults cells (c.read_first.ensures.stays cells seen)))

pub returns-in_err-read_parts-clause-sound : goal.returns-in_err-read_parts-clause-sound
returns-in_err-read_parts-clause-sound g c cells t h seen keeps spells holds =
    let same = agrees cells c.args.column c.args.at.tier c.args.at.slot c.in_ok-first.first.end t h c.in_ok-first.first.cell.items c.in_ok-first.first.fields.key c.in_ok-first.first.fields.count c.in_ok-first.first.fields.len c.in_ok-first.first.fields.next spells holds (c.in_ok-first.ensures.cell cells seen) c.in_ok-first.ensures.first in
    let parts = parts_there cells c.args.column c.args.at.tier c.args.at.slot c.in_ok-first.first.end t h c.in_ok-first.first.fields.key c.in_ok-first.first.fields.count c.in_ok-first.first.fields.len c.in_ok-first.first.fields.next (omega arith) (c.in_ok-first.ensures.end cells seen) spells holds same in
    let p = err_from_is_err_and c.from_residual-in_err-read_parts.result c.from_residual-in_err-read_parts.ensures.1 in
    rw (p.1, p.2) (c.in_err-read_parts.ensures.sound cells parts.0 parts.1 (c.read_first.ensures.stays cells seen) parts.2 parts.3 parts.4)

pub returns-clause-answer : goal.returns-clause-answer
returns-clause-answer g c cells seen =
    let low : c.args.at.tier ≡ 15 = omega arith in
    let end = c.in_ok-first.ensures.end cells seen in
    let read = c.in_ok-read_parts.ensures.parts cells (c.read_first.ensures.stays cells seen) in
    let start : c.extend_from_slice-2.new.self.items ≡ drop 52 c.deref-2.result.now = c.in_ok-extend_from_slice-2.ensures.items ∙ (ap (λ x. x ++ take (length c.deref-2.result.now - 52) (drop 52 c.deref-2.result.now)) (c.reserve.ensures.items ∙ c.clear.ensures.items) ∙ take_rest c.deref-2.result.now 52) in
    let it = parts_at cells c.args.column c.args.at.tier c.args.at.slot c.in_ok-first.first.end c.in_ok-first.first.fields.len c.in_ok-first.first.fields.next c.in_ok-first.first.fields.count c.in_ok-first.first.cell.items c.in_ok-first.first.fields.key c.args.key.now c.deref-2.result.now c.read_parts.new.out.items read.0 read.1 low
    c.in_ok-first.ensures.first end (c.in_ok-first.ensures.cell cells seen) c.deref-2.ensures.value ((bytes_eq-Decides c.in_ok-first.first.fields.key c.args.key.now).0 (not_no _ (sym c.ne.ensures ∙ c.if-ne.false))) read.2 read.3 read.4 (read.5 ∙ ap (λ x. x ++ read.1) start) in
    (c.in_ok-first.first.fields.count, it)

pub returns-clause-held : goal.returns-clause-held
returns-clause-held g c cells t h seen spells holds =
    let low : c.args.at.tier ≡ 15 = omega arith in
    let end = c.in_ok-first.ensures.end cells seen in
    let read = c.in_ok-read_parts.ensures.parts cells (c.read_first.ensures.stays cells seen) in
    let start : c.extend_from_slice-2.new.self.items ≡ drop 52 c.deref-2.result.now = c.in_ok-extend_from_slice-2.ensures.items ∙ (ap (λ x. x ++ take (length c.deref-2.result.now - 52) (drop 52 c.deref-2.result.now)) (c.reserve.ensures.items ∙ c.clear.ensures.items) ∙ take_rest c.deref-2.result.now 52) in
    let it = parts_at cells c.args.column c.args.at.tier c.args.at.slot c.in_ok-first.first.end c.in_ok-first.first.fields.len c.in_ok-first.first.fields.next c.in_ok-first.first.fields.count c.in_ok-first.first.cell.items c.in_ok-first.first.fields.key c.args.key.now c.deref-2.result.now c.read_parts.new.out.items read.0 read.1 low
    c.in_ok-first.ensures.first end (c.in_ok-first.ensures.cell cells seen) c.deref-2.ensures.value ((bytes_eq-Decides c.in_ok-first.first.fields.key c.args.key.now).0 (not_no _ (sym c.ne.ensures ∙ c.if-ne.false))) read.2 read.3 read.4 (read.5 ∙ ap (λ x. x ++ read.1) start) in
    let is = value_is cells c.args.column c.args.at.tier c.args.at.slot t h c.args.key.now c.in_ok-first.first.fields.count c.read_parts.new.out.items spells holds it in
    (is.0, sym is.1)

pub returns-clause-reads : goal.returns-clause-reads
returns-clause-reads g c =
    let low : c.args.at.tier ≡ 15 = omega arith in
    let start : c.extend_from_slice-2.new.self.items ≡ drop 52 c.deref-2.result.now = c.in_ok-extend_from_slice-2.ensures.items ∙ (ap (λ x. x ++ take (length c.deref-2.result.now - 52) (drop 52 c.deref-2.result.now)) (c.reserve.ensures.items ∙ c.clear.ensures.items) ∙ take_rest c.deref-2.result.now 52) in
    let cell : length c.deref-2.result.now ≡ 4096 = ap length c.deref-2.ensures.value ∙ (c.in_ok-first.ensures.len.0 ∙ ap slot_size low) in
    let first : length c.extend_from_slice-2.new.self.items ≡ 4044 = ap length start ∙ (length-drop 52 c.deref-2.result.now ∙ ap (λ n. n - 52) cell) in
    let long = (c.in_ok-first.ensures.fits.parted low).0 in
    let n : length c.read_parts.new.out.items ≡ c.in_ok-first.first.fields.len = c.in_ok-read_parts.ensures.len ∙ omega arith in
    let all : slots_of (length c.read_parts.new.out.items) ≡ 1 + (c.in_ok-first.first.fields.len - 4044 + 4087) / 4088 = ap slots_of n ∙ slots_long c.args.at.tier c.in_ok-first.first.fields.len low c.in_ok-first.ensures.fits.lowest in
    let once = c.read_first.ensures.reads.1 in
    let others = c.read_parts.ensures.reads in
    subst (λ k. g.C.Cells.read_count c.read_parts.new.c ≤ g.C.Cells.read_count c.args.c.now + k) (sym all) (omega arith)
