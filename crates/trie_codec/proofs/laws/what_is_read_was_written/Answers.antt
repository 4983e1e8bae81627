use Rattle.trie_codec.proofs.ReadWhole.{front_was_written, whole_was_written}
use Rattle.trie_codec.proofs.laws.what_is_read_was_written.Goals as goal

pub returns-clause-front : goal.returns-clause-front
returns-clause-front c = front_was_written

pub returns-clause-whole : goal.returns-clause-whole
returns-clause-whole c = whole_was_written
