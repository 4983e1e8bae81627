use Rattle.std.proofs.Common.{◌≡◌, ◌+◌, ◌≤◌, ◌++◌, List, reverse, vec_len, vec_capacity}
use Rattle.std.specs.List.{AllByRecursion}
use Rattle.trie_change.specs.Item.{Item}
use Rattle.trie_change.specs.declared.settings.Setting.{Setting}
use Rattle.trie_change.specs.inner.Merged.{IsMerged}
use Rattle.trie_change.specs.inner.Pieces.{IsAside, all_items, back_items}
use Rattle.trie_change.proofs.settings.carry_out.Given as goal

abbrev pub invariant-loop-setting : goal.invariant-loop-setting
invariant-loop-setting l = record {
  merged : AllByRecursion (IsAside l.fn.settings.items) l.fn.found.items → (rest : List Item)
      → IsMerged (reverse (all_items l.found.items)) (reverse l.settings.items) rest
      → IsMerged (reverse (all_items l.fn.found.items)) (reverse l.fn.settings.items) (back_items l.later.items ++ rest);
  apart : AllByRecursion (IsAside l.fn.settings.items) l.fn.found.items → AllByRecursion (IsAside l.fn.settings.items) l.found.items;
  left : (more : List Setting) × (l.fn.settings.items ≡ l.settings.items ++ more);
  room : vec_len l.settings + vec_len l.found + vec_len l.later ≤ vec_capacity l.later;
  fewer : vec_len l.settings + vec_len l.found + vec_len l.later ≤ vec_len l.fn.settings + vec_len l.fn.found;
  found_capacity : vec_capacity l.found ≡ vec_capacity l.fn.found;
}

abbrev pub decreases-loop-setting : goal.decreases-loop-setting
decreases-loop-setting l = vec_len l.settings
