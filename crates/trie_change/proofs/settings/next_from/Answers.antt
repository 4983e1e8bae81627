use Rattle.std.proofs.Common.{◌≡◌, ℕ, List, true, ap, sym, ◌∙◌, arith}
use Rattle.std.specs.Ordering.{is_lt}
use Rattle.std.proofs.lemmas.List.{get_or_default}
use Rattle.std.proofs.lemmas.List.Elements.{AllWithin-more}
use Rattle.trie_change.specs.declared.settings.Setting.{Setting}
use Rattle.trie_change.proofs.KeysBegun.{is_before}
use Rattle.trie_change.proofs.Orders.{key_cmp}
use Rattle.trie_change.proofs.settings.next_from.Goals as goal

pub loop-i-preserved : goal.loop-i-preserved
loop-i-preserved c = record {
  from = omega (arith, c.loop-i.invariant.from);
  below = AllWithin-more (λ (s : Setting). is_before c.args.path.now s ≡ true) c.args.settings.now c.args.at c.loop-i.i c.loop-i.invariant.below
      (λ d. ap (is_before c.args.path.now) (get_or_default c.args.settings.now c.loop-i.i d c.index-settings-i.result c.loop-i-test.true)
      ∙ ap (λ (k : List ℕ). is_lt (key_cmp k c.args.path.now)) (sym c.as_slice.ensures) ∙ sym c.is_below.ensures ∙ c.if-not-is_below.false);
}
