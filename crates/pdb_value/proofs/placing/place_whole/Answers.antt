use Rattle.std.proofs.Common.{◌≡◌, ◌<◌, ◌≤◌, ◌+◌, ℕ, List, length, refl, sym, ap, subst, ◌∙◌, arith}
use Rattle.pdb_cells.specs.Content.{put_cell}
use Rattle.pdb_model.specs.Files.{table_file}
use Rattle.pdb_model.specs.Heads.{IsHeadCell}
use Rattle.pdb_model.specs.Tables.{Loose, holding, next_slot, taken}
use Rattle.pdb_model.specs.Tiers.{parts_tier, tier_of}
use Rattle.pdb_value.specs.Faults.{HasTable}
use Rattle.pdb_value.proofs.Placed.{one_slot, placed_whole}
use Rattle.pdb_value.proofs.Sound.{loose_used, there}
use Rattle.pdb_value.proofs.Spelled.{hold_spelled, only_on, only_slot, same_head}
use Rattle.pdb_value.proofs.Taken.{room_less}
use Rattle.pdb_value.proofs.placing.place_whole.Goals as goal

pub returns-clause-only : goal.returns-clause-only
returns-clause-only g c cells drafts =
    let step = c.in_ok-slot.ensures.taken cells drafts in (
      put_cell (table_file c.args.column c.args.tier) c.in_ok-slot.slot c.deref.result.now step.0,
      c.in_ok-put_slot.ensures.cells step.0 step.1,
      only_on c.args.column c.args.tier cells step.0 _ step.2.only (only_slot c.args.column c.args.tier c.in_ok-slot.slot c.deref.result.now step.0),
      subst IsHeadCell (sym (same_head c.args.column c.args.tier c.in_ok-slot.slot c.deref.result.now step.0)) step.2.head,
    )

pub returns-clause-placed : goal.returns-clause-placed
returns-clause-placed g c cells t drafts spells =
    let step = c.in_ok-slot.ensures.taken cells drafts in
    let tab = step.2.table t spells in
    let ne : tier_of (length c.args.bytes.now) ≡ parts_tier → ⊥ = λ e. let q : c.args.tier ≡ parts_tier = c.requires.lowest ∙ e in let low = c.requires.tier in omega arith in
    let loose : (taken t).slot c.in_ok-slot.slot ≡ Loose = ap (taken t).slot tab.0 ∙ there t.slot (next_slot t.free t.end) Loose in
    let held = hold_spelled step.0 c.args.column c.args.tier c.in_ok-slot.slot (taken t) c.args.key.now c.args.count c.args.bytes.now c.deref.result.now tab.1 (loose_used (taken t) c.in_ok-slot.slot loose) (record {
      spelled = c.deref.ensures.value ∙ c.in_ok-cell.ensures.cell;
      counted = record { key_len = search Rattle.std.proofs.Common.rules; some = c.requires.count; narrow = omega arith };
      lowest = c.requires.lowest;
      not_parts = c.requires.tier;
    }) in
    let less = room_less t tab.1.is in (
      tab.0,
      subst (λ n. n ≤ Rattle.pdb_model.specs.Tables.room_of t) (sym (one_slot (length c.args.bytes.now) ne)) (omega arith),
      (
        put_cell (table_file c.args.column c.args.tier) c.in_ok-slot.slot c.deref.result.now step.0,
        c.in_ok-put_slot.ensures.cells step.0 step.1,
        subst (HasTable (put_cell (table_file c.args.column c.args.tier) c.in_ok-slot.slot c.deref.result.now step.0) c.args.column c.args.tier)
            (ap (λ s. holding (taken t) s c.args.key.now c.args.count c.args.bytes.now) tab.0 ∙ sym (placed_whole t c.args.key.now c.args.count c.args.bytes.now ne)) held,
      ),
    )
