use Rattle.trie_model.proofs.Limits.{empty_is_within, within_after}
use Rattle.trie_model.proofs.laws.limits_last.Goals as goal

pub returns-clause-empty : goal.returns-clause-empty
returns-clause-empty c = empty_is_within

pub returns-clause-next : goal.returns-clause-next
returns-clause-next c = λ m block h b. within_after block.changes m h b.each
