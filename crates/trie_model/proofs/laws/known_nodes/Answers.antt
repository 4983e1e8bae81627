use Rattle.std.proofs.Common.{refl}
use Rattle.sdb_scale.specs.Compact.{compact}
use Rattle.trie_model.specs.Node.{merkle_value, spelling}
use Rattle.trie_model.specs.Trie.{node_over}
use Rattle.trie_model.proofs.laws.known_nodes.Goals as goal

pub returns-clause-headers : goal.returns-clause-headers
returns-clause-headers c = (refl, refl, refl, refl, refl, refl, refl, refl, refl)

pub returns-clause-nothing : goal.returns-clause-nothing
unfolding spelling node_over
returns-clause-nothing c = refl

pub returns-clause-odd : goal.returns-clause-odd
unfolding spelling compact
returns-clause-odd c = refl

pub returns-clause-one : goal.returns-clause-one
unfolding spelling node_over compact merkle_value
returns-clause-one c = refl

pub returns-clause-extended : goal.returns-clause-extended
unfolding spelling node_over compact merkle_value
returns-clause-extended c = refl

pub returns-clause-apart : goal.returns-clause-apart
unfolding spelling node_over compact merkle_value
returns-clause-apart c = refl
