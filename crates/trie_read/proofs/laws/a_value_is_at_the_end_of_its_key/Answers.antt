use Rattle.trie_read.proofs.Ways.{found_at_its_nibbles, value_off, value_on}
use Rattle.trie_read.proofs.laws.a_value_is_at_the_end_of_its_key.Goals as goal

pub returns : goal.returns
returns c = record { state = found_at_its_nibbles; off = value_off; on = λ rest left suffixes e. value_on rest suffixes left e }
