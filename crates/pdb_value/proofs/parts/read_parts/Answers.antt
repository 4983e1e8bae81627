use Rattle.std.proofs.Common.{◌≡◌, ◌+◌, ◌-◌, ◌++◌, ◌∷◌, [], ℕ, List, length, take, drop, refl, sym, ap, subst, ◌∙◌, arith, append_assoc, length-append, length-drop}
use Rattle.std.proofs.lemmas.List.{append-nil}
use Rattle.std.proofs.lemmas.Result.{err_from_is_err_and}
use Rattle.pdb_model.specs.Breaks.{part_len}
use Rattle.pdb_model.specs.Files.{table_cells}
use Rattle.pdb_model.specs.Slots.{IsPart}
use Rattle.pdb_model.specs.Tables.{first}
use Rattle.pdb_model.specs.Tiers.{in_part, parts_tier}
use Rattle.pdb_value.proofs.Chains.{has_part, one_fewer, part_added, part_sound, value_len, value_read}
use Rattle.pdb_value.proofs.Layouts.{one_part}
use Rattle.pdb_value.proofs.parts.read_parts.Goals as goal

pub returns-clause-parts : goal.returns-clause-parts
returns-clause-parts g c cells seen =
    let zero : 0 ≡ c.loop-left.left = omega arith in
    let b = c.loop-left.invariant.back cells [] [] seen refl (sym (c.loop-left.invariant.none (sym zero))) zero in
    (b.0, b.1, b.2, b.3, b.4, sym (append-nil c.loop-left.out.items) ∙ sym b.5)

pub returns-in_err-part-clause-sound : goal.returns-in_err-part-clause-sound
returns-in_err-part-clause-sound g c cells parts bytes seen are f len =
    let at = c.loop-left.invariant.forth cells parts bytes seen are f len in
    let has = has_part c.args.end (table_cells cells c.args.column parts_tier) c.loop-left.slot c.loop-left.left at.0 at.1 at.2 at.3 at.4 (omega arith) in
    let p = err_from_is_err_and c.from_residual.result c.from_residual.ensures.1 in
    rw (p.1, p.2) (part_sound cells c.args.column c.args.end c.loop-left.slot c.loop-left.left at.0 at.1 _ has (c.in_err-part.ensures.faults cells (c.loop-left.invariant.stays cells seen)))

pub loop-left-preserved : goal.loop-left-preserved
loop-left-preserved g c = record {
  same = g.met.C.Cells.on _ _ _ c.loop-left.invariant.same c.read_part_of.ensures.keeps;
  counted = c.in_ok-part.ensures.counted ∙ c.loop-left.invariant.counted;
  stays = λ cells seen. c.read_part_of.ensures.stays cells (c.loop-left.invariant.stays cells seen);
  reads = let fewer = one_fewer c.loop-left.left c.min-here.result (omega arith) (omega (arith, c.min-here.ensures)) in let once = c.read_part_of.ensures.reads.1 in let so_far = c.loop-left.invariant.reads in omega arith;
  long =
      let value : List ℕ = take (part_len c.loop-left.left) (drop 8 c.in_ok-part.part.cell.items) in
      let n : length value ≡ part_len c.loop-left.left = value_len c.in_ok-part.part.cell.items c.loop-left.left c.in_ok-part.ensures.len in
      let wrote : c.extend_from_slice.new.self.items ≡ c.loop-left.out.items ++ value = c.in_ok-extend_from_slice.ensures.items ∙ ap (λ x. c.loop-left.out.items ++ x) (value_read c.in_ok-part.part.cell.items c.deref.result.now c.loop-left.left c.min-here.result c.deref.ensures.value (omega (arith, c.min-here.ensures))) in
      let all : length c.extend_from_slice.new.self.items ≡ length c.loop-left.out.items + length value = ap length wrote ∙ length-append c.loop-left.out.items value in
      let so_far = c.loop-left.invariant.long in omega (arith, c.min-here.ensures);
  some = λ h. c.in_ok-part.ensures.next.more (omega (arith, c.min-here.ensures));
  within = c.in_ok-part.ensures.next.within;
  none = λ h. c.in_ok-part.ensures.next.last (omega (arith, c.min-here.ensures));
  back = λ cells rest tail seen are f t.
      let here : c.in_ok-part.part.cell.items ≡ table_cells cells c.args.column parts_tier c.loop-left.slot = c.in_ok-part.ensures.cell cells (c.loop-left.invariant.stays cells seen) in
      let value : List ℕ = take (part_len c.loop-left.left) (drop 8 c.in_ok-part.part.cell.items) in
      let part : IsPart (table_cells cells c.args.column parts_tier c.loop-left.slot) c.in_ok-part.part.next value = subst (λ (b : List ℕ). IsPart b c.in_ok-part.part.next value) here c.in_ok-part.ensures.part in
      let n : length value ≡ part_len c.loop-left.left = value_len c.in_ok-part.part.cell.items c.loop-left.left c.in_ok-part.ensures.len in
      let m : length tail ≡ c.loop-left.left - length value = omega (arith, c.min-here.ensures) in
      let all = part_added c.args.end (table_cells cells c.args.column parts_tier) c.loop-left.slot c.in_ok-part.part.next rest value tail c.loop-left.left (omega arith)
      (c.loop-left.invariant.some (omega arith)) c.loop-left.invariant.within part n m f are in
      let b = c.loop-left.invariant.back cells (c.loop-left.slot ∷ rest) (value ++ tail) seen all refl (length-append value tail ∙ omega arith) in
      let wrote : c.extend_from_slice.new.self.items ≡ c.loop-left.out.items ++ value = c.in_ok-extend_from_slice.ensures.items ∙ ap (λ x. c.loop-left.out.items ++ x) (value_read c.in_ok-part.part.cell.items c.deref.result.now c.loop-left.left c.min-here.result c.deref.ensures.value (omega (arith, c.min-here.ensures))) in
      (b.0, b.1, b.2, b.3, b.4, b.5 ∙ (sym (append_assoc c.loop-left.out.items value tail) ∙ ap (λ x. x ++ tail) (sym wrote)));
  forth = λ cells parts bytes seen are f len.
      let at = c.loop-left.invariant.forth cells parts bytes seen are f len in
      let has = has_part c.args.end (table_cells cells c.args.column parts_tier) c.loop-left.slot c.loop-left.left at.0 at.1 at.2 at.3 at.4 (omega arith) in
      let here : c.in_ok-part.part.cell.items ≡ table_cells cells c.args.column parts_tier c.loop-left.slot = c.in_ok-part.ensures.cell cells (c.loop-left.invariant.stays cells seen) in
      let value : List ℕ = take (part_len c.loop-left.left) (drop 8 c.in_ok-part.part.cell.items) in
      let part : IsPart (table_cells cells c.args.column parts_tier c.loop-left.slot) c.in_ok-part.part.next value = subst (λ (b : List ℕ). IsPart b c.in_ok-part.part.next value) here c.in_ok-part.ensures.part in
      let same = one_part (table_cells cells c.args.column parts_tier c.loop-left.slot) value (take in_part at.1) c.in_ok-part.part.next (first has.rest) part has.part in
      (has.rest, drop in_part at.1, has.others, sym same.next_is, length-drop in_part at.1 ∙ omega (arith, c.min-here.ensures, at.4));
}
