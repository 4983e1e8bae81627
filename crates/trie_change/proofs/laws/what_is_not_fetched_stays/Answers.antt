use Rattle.trie_change.proofs.Carried.{dropped_fetched, unfetched_stays}
use Rattle.trie_change.proofs.laws.what_is_not_fetched_stays.Goals as goal

pub returns : goal.returns
returns c = record { stays = unfetched_stays; dropped = dropped_fetched }
