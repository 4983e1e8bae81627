use Rattle.trie_read.proofs.Balance.{balance}
use Rattle.trie_read.proofs.laws.puts_and_drops_balance.Goals as goal

pub returns : goal.returns
returns c = balance
