use Rattle.std.proofs.Common.{refl}
use Rattle.sdb_blake2.specs.Blake2b.{H, words_of_block, compress, digest, final_state, mixed, round, rounds, state_after, state_bytes}
use Rattle.sdb_scale.specs.Compact.{compact}
use Rattle.trie_model.specs.Node.{merkle_value, spelling}
use Rattle.trie_model.specs.Nodes.{nodes_over}
use Rattle.trie_model.specs.Trie.{node_over}
use Rattle.trie_model.proofs.fetching.known_stored_nodes.Goals as goal

pub returns-clause-all : goal.returns-clause-all
unfolding nodes_over node_over spelling compact merkle_value H words_of_block compress digest final_state mixed round rounds state_after state_bytes
returns-clause-all c = refl

pub returns-clause-stored : goal.returns-clause-stored
unfolding nodes_over node_over spelling compact merkle_value H words_of_block compress digest final_state mixed round rounds state_after state_bytes
returns-clause-stored c = refl

pub returns-clause-nothing : goal.returns-clause-nothing
unfolding nodes_over node_over spelling compact merkle_value H words_of_block compress digest final_state mixed round rounds state_after state_bytes
returns-clause-nothing c = refl
