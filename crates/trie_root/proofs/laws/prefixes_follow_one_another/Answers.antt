use Rattle.trie_root.proofs.Prefixes.{below-append}
use Rattle.trie_root.proofs.laws.prefixes_follow_one_another.Goals as goal

pub returns : goal.returns
returns c = below-append
