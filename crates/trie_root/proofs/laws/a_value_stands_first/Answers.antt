use Rattle.std.proofs.lemmas.Float.{T_from_true}
use Rattle.trie_root.proofs.Stripped.{value_first}
use Rattle.trie_root.proofs.laws.a_value_stands_first.Goals as goal

pub returns : goal.returns
returns c = λ first others h. value_first first others (T_from_true _ h)
