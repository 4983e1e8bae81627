use Rattle.trie_read.proofs.GoodNodes.{good}
use Rattle.trie_read.proofs.laws.stored_nodes_are_good.Goals as goal

pub returns : goal.returns
returns c = good
