use Rattle.trie_read.proofs.Children.{named}
use Rattle.trie_read.proofs.laws.nodes_are_named_from_above.Goals as goal

pub returns : goal.returns
returns c = named
