use Rattle.trie_change.proofs.Idle.{nothing_fetched, nothing_put}
use Rattle.trie_change.proofs.laws.no_changes_fetch_nothing.Goals as goal

pub returns : goal.returns
returns c = record { fetched = nothing_fetched; put = nothing_put; dropped = nothing_put }
