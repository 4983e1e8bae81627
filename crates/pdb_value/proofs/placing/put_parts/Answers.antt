use Rattle.std.proofs.Common.{◌≡◌, ◌+◌, ◌*◌, ◌++◌, length, take, drop, min, refl, sym, ap, ◌∙◌, arith, length-append}
use Rattle.std.proofs.lemmas.List.{drop-drop}
use Rattle.std.specs.Prelude.{slice_index}
use Rattle.pdb_cells.specs.Content.{put_cell}
use Rattle.pdb_model.specs.Files.{table_file}
use Rattle.pdb_model.specs.Tiers.{in_part, parts_tier}
use Rattle.pdb_value.proofs.Chains.{part_before}
use Rattle.pdb_value.proofs.Placed.{written_step}
use Rattle.pdb_value.proofs.placing.put_parts.Goals as goal

pub loop-i-preserved : goal.loop-i-preserved
loop-i-preserved g c =
    let all : c.loop-i.left.now ≡ c.split_at.result.0.now ++ c.split_at.result.1.now = c.split_at.ensures.by_index.0 in
    let n : length c.loop-i.left.now ≡ length c.split_at.result.0.now + length c.split_at.result.1.now = ap length all ∙ length-append c.split_at.result.0.now c.split_at.result.1.now in
    let front : length c.split_at.result.0.now ≡ min 4088 (length c.loop-i.left.now) = omega (arith, c.split_at.ensures.front_len, c.min.ensures) in
    let cut = part_before c.split_at.result.0.now c.split_at.result.1.now (length c.loop-i.left.now) front (omega arith) in
    let here : c.split_at.result.0.now ≡ take in_part (drop (in_part * c.loop-i.i) c.args.bytes.now) = sym cut.0 ∙ ap (take in_part) (sym all ∙ c.loop-i.invariant.left) in
    let rest : c.split_at.result.1.now ≡ drop in_part (drop (in_part * c.loop-i.i) c.args.bytes.now) = sym cut.1 ∙ ap (drop in_part) (sym all ∙ c.loop-i.invariant.left) in
    record {
      reference = c.put_slot.ensures.same_reference ∙ c.loop-i.invariant.reference;
      below = c.put_slot.ensures.below ∙ c.loop-i.invariant.below;
      within = omega arith;
      left = rest ∙ (drop-drop in_part (in_part * c.loop-i.i) c.args.bytes.now ∙ ap (λ n. drop n c.args.bytes.now) (let q : in_part * c.loop-i.i + in_part ≡ in_part * (c.loop-i.i + 1) = omega arith in q));
      written = λ cells drafts.
          let at = c.loop-i.invariant.written cells drafts in (
            put_cell (table_file c.args.column parts_tier) (slice_index c.args.slots.now c.loop-i.i) c.deref.result.now at.0,
            c.in_ok-put_slot.ensures.cells at.0 at.1,
            written_step c.args.column c.loop-i.i (c.loop-i.i + 1) c.args.slots.now c.args.bytes.now cells at.0 c.slot_after-next.result c.split_at.result.0.now c.deref.result.now (omega arith) at.2
                (c.deref.ensures.value ∙ c.in_ok-cell.ensures.cell) c.slot_after-next.ensures (omega arith) here (omega arith) refl,
          );
    }
