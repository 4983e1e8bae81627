use Rattle.std.proofs.Common.{◌≡◌, ◌≤◌, true}
use Rattle.std.specs.List.{AllWithin}
use Rattle.trie_change.specs.declared.settings.Setting.{Setting}
use Rattle.trie_change.proofs.KeysBegun.{is_before}
use Rattle.trie_change.proofs.settings.next_from.Given as goal

-- those that were passed are below the path
abbrev pub invariant-loop-i : goal.invariant-loop-i
invariant-loop-i l = record {
  from : l.at ≤ l.i;
  below : AllWithin (λ (s : Setting). is_before l.path s ≡ true) l.settings l.at l.i;
}
