use Rattle.std.proofs.lemmas.Float.{T_from_true}
use Rattle.trie_root.proofs.Stripped.{is_sorted-below, true_from_T}
use Rattle.trie_root.proofs.laws.order_stays_below_the_shared_prefix.Goals as goal

pub returns : goal.returns
returns c = λ suffixes h. true_from_T _ (is_sorted-below suffixes (T_from_true _ h))
