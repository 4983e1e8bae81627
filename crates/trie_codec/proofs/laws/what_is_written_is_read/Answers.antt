use Rattle.trie_codec.proofs.Spellings.{one_spelling, whole_read}
use Rattle.trie_codec.proofs.Written.{node_read}
use Rattle.trie_codec.proofs.laws.what_is_written_is_read.Goals as goal

pub returns-clause-front : goal.returns-clause-front
returns-clause-front c = node_read 32

pub returns-clause-whole : goal.returns-clause-whole
returns-clause-whole c = whole_read

pub returns-clause-one : goal.returns-clause-one
returns-clause-one c = one_spelling
