use Rattle.trie_change.proofs.Idle.{same_dropped, same_put, same_values}
use Rattle.trie_change.proofs.laws.setting_the_same_value.Goals as goal

pub returns : goal.returns
returns c = record { state = same_values; put = same_put; dropped = same_dropped }
