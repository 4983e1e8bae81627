use Rattle.trie_change.proofs.Deeper.{deeper_after, deeper_before}
use Rattle.trie_change.proofs.laws.children_keep_their_paths.Goals as goal

pub returns : goal.returns
returns c = record { before = deeper_before; after = deeper_after }
