use Rattle.trie_change.proofs.Unchanged.{below_stays}
use Rattle.trie_change.proofs.laws.other_keys_stay.Goals as goal

pub returns : goal.returns
returns c = below_stays
