use Rattle.trie_read.proofs.Stored.{all_hang, stored_hang}
use Rattle.trie_read.proofs.laws.nodes_hang_where_keys_part.Goals as goal

pub returns : goal.returns
returns c = record { all = all_hang; stored = stored_hang }
