use Rattle.trie_read.proofs.Rising.{all_rise, stored_rise}
use Rattle.trie_read.proofs.laws.nodes_rise_by_path.Goals as goal

pub returns : goal.returns
returns c = record { all = all_rise; stored = stored_rise }
