use Rattle.trie_model.specs.Trie.{common_prefix}
use Rattle.trie_root.proofs.Prefixes.{all_remain, begins_itself}
use Rattle.trie_root.proofs.laws.all_go_on_with_the_shared_prefix.Goals as goal

pub returns : goal.returns
returns c = λ suffixes. all_remain (common_prefix suffixes) suffixes (begins_itself (common_prefix suffixes))
