use Rattle.trie_model.proofs.States.{get-no_keys, get-with_key, apply-append}
use Rattle.trie_model.proofs.laws.changes_apply_in_order.Goals as goal

pub returns-clause-none : goal.returns-clause-none
returns-clause-none c = get-no_keys

pub returns-clause-one : goal.returns-clause-one
returns-clause-one c = get-with_key

pub returns-clause-joined : goal.returns-clause-joined
returns-clause-joined c = apply-append
