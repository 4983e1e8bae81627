use Rattle.trie_root.proofs.Levels.{same_node}
use Rattle.trie_root.proofs.laws.more_levels_change_nothing.Goals as goal

pub returns : goal.returns
returns c = same_node
