use Rattle.std.proofs.Common.{◌≡◌, ◌++◌}
use Rattle.std.specs.List.{AllByRecursion}
use Rattle.trie_change.specs.Changing.{IsLimitedSetting}
use Rattle.trie_change.specs.inner.InOrder.{set_pairs}
use Rattle.trie_change.specs.inner.LastSet.{IsShortEntry}
use Rattle.trie_change.specs.inner.Merged.{HasBytes}
use Rattle.trie_change.proofs.Nibbled.{nibbled}
use Rattle.trie_change.proofs.settings.settings_of.Given as goal
use Rattle.trie_change.specs.Settings.{settings_of}

abbrev pub invariant-loop-key : goal.invariant-loop-key
invariant-loop-key l = record {
  pairs : set_pairs l.settings.items ++ nibbled l.key-iterator ≡ settings_of l.fn.changes;
  short : AllByRecursion IsShortEntry l.key-iterator;
  limits : AllByRecursion IsLimitedSetting l.settings.items;
  bytes : AllByRecursion HasBytes l.settings.items;
}
