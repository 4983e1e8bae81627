use Rattle.std.proofs.lemmas.Float.{T_from_true}
use Rattle.trie_root.proofs.Ends.{common_of_ends}
use Rattle.trie_root.proofs.laws.ends_share_the_prefix.Goals as goal

pub returns : goal.returns
returns c = λ first last between h. common_of_ends first last between (T_from_true _ h)
