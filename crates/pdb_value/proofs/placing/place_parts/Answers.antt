use Rattle.std.proofs.Common.{rules, ◌≡◌, ◌≤◌, ◌+◌, ◌-◌, ◌/◌, length, take, drop, refl, sym, ap, subst, ◌∙◌, arith, length-drop}
use Rattle.std.proofs.lemmas.List.{take_rest}
use Rattle.std.proofs.lemmas.Result.{err_from_is_err_and}
use Rattle.std.specs.Prelude.{slice_index}
use Rattle.pdb_cells.specs.Content.{put_cell}
use Rattle.pdb_model.specs.Files.{table_file}
use Rattle.pdb_model.specs.Heads.{IsHeadCell}
use Rattle.pdb_model.specs.Slots.{head_bytes}
use Rattle.pdb_value.specs.Faults.{HasTable}
use Rattle.pdb_model.specs.Tables.{room_of, slots_of}
use Rattle.pdb_model.specs.Tiers.{parts_tier}
use Rattle.pdb_value.proofs.FirstSlots.{slots_long}
use Rattle.pdb_value.proofs.Placed.{first_taken, head_of, parts_placed}
use Rattle.pdb_value.proofs.Spelled.{only_on, only_slot, same_head}
use Rattle.pdb_value.proofs.Taken.{tier_sound}
use Rattle.pdb_value.proofs.placing.place_parts.Goals as goal

pub returns-in_err-slots-clause-sound : goal.returns-in_err-slots-clause-sound
returns-in_err-slots-clause-sound g c cells t drafts keeps spells =
    let all = slots_long parts_tier (length c.args.bytes.now) refl c.requires.long in
    let behind : length c.split_at.result.1.now ≡ length c.args.bytes.now - 4044 = ap length c.split_at.ensures.back ∙ length-drop 4044 c.args.bytes.now in
    let p = err_from_is_err_and c.from_residual.result c.from_residual.ensures.1 in
    rw (p.1, p.2) (tier_sound (room_of t) (1 + (length c.split_at.result.1.now + 4087) / 4088) (slots_of (length c.args.bytes.now)) parts_tier parts_tier _ refl (ap (λ k. 1 + (k + 4087) / 4088) behind ∙ sym all)
    (c.in_err-slots.ensures.sound cells t drafts keeps spells))

pub returns-clause-only : goal.returns-clause-only
returns-clause-only g c cells drafts =
    let taken = c.in_ok-slots.ensures.taken cells drafts in
    let wrote = c.in_ok-put_parts.ensures.written taken.0 taken.1 in
    let after = c.in_ok-put_slot.ensures.cells wrote.0 wrote.1 in (
      put_cell (table_file c.args.column parts_tier) c.index-head.result.now c.deref-3.result.now wrote.0,
      after,
      only_on c.args.column parts_tier cells wrote.0 _ (only_on c.args.column parts_tier cells taken.0 wrote.0 taken.2.only wrote.2.only) (only_slot c.args.column parts_tier c.index-head.result.now c.deref-3.result.now wrote.0),
      subst IsHeadCell (sym (same_head c.args.column parts_tier c.index-head.result.now c.deref-3.result.now wrote.0 ∙ wrote.2.head)) (taken.2.head (omega arith)),
    )

pub returns-clause-placed : goal.returns-clause-placed
returns-clause-placed g c cells t drafts spells =
    let taken = c.in_ok-slots.ensures.taken cells drafts in
    let wrote = c.in_ok-put_parts.ensures.written taken.0 taken.1 in
    let after = c.in_ok-put_slot.ensures.cells wrote.0 wrote.1 in
    let top : c.index-head.result.now ≡ slice_index c.in_ok-slots.slots.items 0 = head_of c.in_ok-slots.slots.items c.index-head.result.now (omega (arith, c.in_ok-slots.ensures.len)) c.index-head.ensures in
    let all = slots_long parts_tier (length c.args.bytes.now) refl c.requires.long in
    let behind : length c.split_at.result.1.now ≡ length c.args.bytes.now - 4044 = ap length c.split_at.ensures.back ∙ length-drop 4044 c.args.bytes.now in
    let n : (1 + (length c.split_at.result.1.now + 4087) / 4088) ≡ slots_of (length c.args.bytes.now) = ap (λ k. 1 + (k + 4087) / 4088) behind ∙ sym all in
    let room : (1 + (length c.split_at.result.1.now + 4087) / 4088) ≤ room_of t = let r = taken.2.room t spells in omega arith in
    let rest : take (length c.deref.result.now - 1) (drop 1 c.deref.result.now) ≡ drop 1 c.in_ok-slots.slots.items = take_rest c.deref.result.now 1 ∙ ap (drop 1) c.deref.ensures.value in
    let placed = parts_placed c.args.column (1 + (length c.split_at.result.1.now + 4087) / 4088) t taken.0 wrote.0 c.in_ok-slots.slots.items (take (length c.deref.result.now - 1) (drop 1 c.deref.result.now)) c.split_at.result.1.now c.args.bytes.now c.args.key.now c.deref-3.result.now c.args.count
    c.slot_after-next.result (sym c.requires.long) c.requires.len n spells.is room (taken.2.table t spells) (taken.2.listed t spells) rest c.split_at.ensures.back
    (c.slot_after-next.ensures ∙ ap (λ l. slice_index l 1) c.deref-2.ensures.value) (omega arith) wrote.2
    (c.deref-3.ensures.value ∙ (c.in_ok-cell.ensures.cell ∙ ap (head_bytes c.args.key.now c.args.count (length c.args.bytes.now) c.slot_after-next.result) c.split_at.ensures.front))
    (search rules) c.requires.count (omega arith) in (
      top ∙ first_taken (1 + (length c.split_at.result.1.now + 4087) / 4088) t c.in_ok-slots.slots.items (omega arith) (taken.2.listed t spells),
      subst (λ k. k ≤ room_of t) n room,
      (
        put_cell (table_file c.args.column parts_tier) c.index-head.result.now c.deref-3.result.now wrote.0,
        after,
        subst (λ h. HasTable (put_cell (table_file c.args.column parts_tier) h c.deref-3.result.now wrote.0) c.args.column parts_tier (Rattle.pdb_model.specs.Tables.placed t c.args.key.now c.args.count c.args.bytes.now)) (sym top) placed,
      ),
    )
