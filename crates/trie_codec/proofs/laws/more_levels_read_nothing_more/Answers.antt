use Rattle.trie_codec.proofs.Levels.{bound_limits_nothing}
use Rattle.trie_codec.proofs.laws.more_levels_read_nothing_more.Goals as goal

pub returns : goal.returns
returns c = bound_limits_nothing
