use Rattle.trie_codec.proofs.LongerNodes.{fault_stays, node_then_more}
use Rattle.trie_codec.proofs.laws.faults_stay.Goals as goal

pub returns-clause-faults : goal.returns-clause-faults
returns-clause-faults c = fault_stays

pub returns-clause-nodes : goal.returns-clause-nodes
returns-clause-nodes c = node_then_more
