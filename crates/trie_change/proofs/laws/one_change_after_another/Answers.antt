use Rattle.trie_read.proofs.Among.{contains_from}
use Rattle.trie_change.proofs.Superseded.{left_out}
use Rattle.trie_change.proofs.Values.{value_named_last, value_unnamed}
use Rattle.trie_change.specs.ChangedKeys.{keys_in_changes}
use Rattle.trie_change.proofs.laws.one_change_after_another.Goals as goal

pub returns : goal.returns
returns c = record {
  last = λ m before after d none. value_named_last m before after d (λ a. none (contains_from d.key (keys_in_changes after) a));
  other = λ m changes key none. value_unnamed changes m key (λ a. none (contains_from key (keys_in_changes changes) a));
  left_out = left_out;
}
