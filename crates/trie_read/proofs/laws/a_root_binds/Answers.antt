use Rattle.trie_read.proofs.Binding.{root_binds}
use Rattle.trie_read.proofs.laws.a_root_binds.Goals as goal

pub returns : goal.returns
returns c = root_binds
