use Rattle.std.proofs.Common.{◌++◌, List, ap₂, subst, sym, ◌∙◌}
use Rattle.std.specs.List.{AllByRecursion}
use Rattle.trie_change.specs.Changing.{IsLimitedSetting}
use Rattle.trie_change.specs.inner.InOrder.{set_pairs}
use Rattle.trie_change.specs.inner.LastSet.{IsShortEntry}
use Rattle.trie_change.specs.inner.Merged.{HasBytes}
use Rattle.trie_change.specs.declared.settings.Setting.{Setting}
use Rattle.trie_change.proofs.LastSets.{set_all_is, short_set}
use Rattle.trie_change.proofs.MergedSteps.{Setted}
use Rattle.trie_change.proofs.Nibbled.{nibbled}
use Rattle.trie_change.proofs.settings.settings_of.Goals as goal

pub loop-key-init : goal.loop-key-init
loop-key-init c = record {
  pairs = ap₂ (λ (ss : List Setting) (es : List Setted). set_pairs ss ++ nibbled es) c.in_ok-settings.ensures.items
      (c.into_iter-key-iterator.ensures.into_iter_gives.0 ∙ c.in_ok-last.ensures ∙ set_all_is c.args.changes);
  short = subst (AllByRecursion IsShortEntry) (sym (c.into_iter-key-iterator.ensures.into_iter_gives.0 ∙ c.in_ok-last.ensures)) (short_set c.args.changes c.requires.each);
  limits = subst (AllByRecursion IsLimitedSetting) (sym c.in_ok-settings.ensures.items) tt;
  bytes = subst (AllByRecursion HasBytes) (sym c.in_ok-settings.ensures.items) tt;
}
