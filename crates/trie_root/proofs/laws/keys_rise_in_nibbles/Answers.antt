use Rattle.std.proofs.lemmas.Float.{T_from_true}
use Rattle.trie_root.proofs.Rising.{nibbles_rise}
use Rattle.trie_root.proofs.Stripped.{true_from_T}
use Rattle.trie_root.proofs.laws.keys_rise_in_nibbles.Goals as goal

pub returns : goal.returns
returns c = λ low high h. true_from_T _ (nibbles_rise low high (T_from_true _ h))
