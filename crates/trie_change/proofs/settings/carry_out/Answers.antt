use Rattle.std.proofs.Common.{arith, List, ◌++◌, reverse, ap, subst, sym, ◌∙◌}
use Rattle.trie_change.specs.Item.{Item}
use Rattle.trie_change.specs.inner.Merged.{IsMerged}
use Rattle.trie_change.specs.inner.Pieces.{all_items, back_items}
use Rattle.trie_change.specs.declared.frontier.Piece.{Piece}
use Rattle.trie_change.proofs.CarriedStep.{all_set, no_items, one_set}
use Rattle.trie_change.proofs.PieceLists.{back_joined, back_reversed}
use Rattle.trie_change.proofs.PiecesApart.{beside_key}
use Rattle.trie_change.proofs.PiecesMoved.{before_last}
use Rattle.trie_change.proofs.settings.carry_out.Goals as goal

pub loop-setting-preserved : goal.loop-setting-preserved
loop-setting-preserved c = record {
  merged = λ apart rest m.
      let beside = beside_key _ _ _ _ c.in-Some.setting c.as_slice.result.now (sym c.as_slice.ensures) c.loop-setting.invariant.left.1 c.in-Some.ensures.items c.loop-setting.found.items
      (c.loop-setting.invariant.apart apart) in
      let one = one_set c.in-Some.setting c.as_slice.result.now c.loop-setting.settings.items c.pop.new.self.items (all_items c.loop-setting.found.items)
      (back_items c.loop-setting.later.items) (all_items c.move_above.new.found.items)
      (back_items c.move_above.new.later.items) (back_items c.put_setting.new.later.items) rest (sym c.as_slice.ensures) c.in-Some.ensures.items (c.move_above.ensures.moved beside)
      (c.move_above.ensures.below beside c.in-Some.setting (sym c.as_slice.ensures)) c.put_setting.ensures.items m in
      subst (λ (xs : List Item). IsMerged (reverse (all_items c.args.found.now.items)) (reverse c.args.settings.now.items) xs) (sym one.1)
      (c.loop-setting.invariant.merged apart one.0 one.2);
  apart = λ apart. c.move_above.ensures.apart c.args.settings.now.items (c.loop-setting.invariant.apart apart);
  left = before_last _ _ _ _ c.in-Some.setting c.loop-setting.invariant.left.1 c.in-Some.ensures.items;
  room = omega (arith, c.in-Some.ensures.len, c.move_above.ensures.room, c.put_setting.ensures.room, c.put_setting.ensures.capacity, c.move_above.ensures.capacity);
  fewer = omega (arith, c.in-Some.ensures.len, c.move_above.ensures.room, c.put_setting.ensures.room, c.loop-setting.invariant.fewer);
  found_capacity = c.move_above.ensures.found_capacity ∙ c.loop-setting.invariant.found_capacity;
}

pub returns-clause-merged : goal.returns-clause-merged
returns-clause-merged c = λ apart.
    all_set (all_items c.loop-setting.found.items) (all_items c.args.found.now.items) c.loop-setting.settings.items c.args.settings.now.items (back_items c.loop-setting.later.items)
    (back_items c.move_all.new.later.items)
    (no_items c.loop-setting.settings.items (omega (arith, c.in_default.ensures.cases, c.loop-setting.settings.ok.0)))
    (ap (λ (ps : List Piece). back_items ps) c.move_all.ensures.items ∙ back_joined c.loop-setting.later.items (reverse c.loop-setting.found.items)
    ∙ ap (λ (is : List Item). back_items c.loop-setting.later.items ++ is) (back_reversed c.loop-setting.found.items))
    (c.loop-setting.invariant.merged apart)
