use Rattle.std.proofs.Common.{refl}
use Rattle.sdb_blake2.specs.Blake2b.{H, words_of_block, compress, digest, final_state, mixed, round, rounds, state_after, state_bytes}
use Rattle.sdb_scale.specs.Compact.{compact}
use Rattle.trie_model.specs.Node.{merkle_value, spelling}
use Rattle.trie_model.specs.Nodes.{nodes_over}
use Rattle.trie_model.specs.Trie.{node_over}
use Rattle.trie_model.proofs.fetching.known_changes.Goals as goal

pub returns-clause-fetched : goal.returns-clause-fetched
unfolding nodes_over node_over spelling compact merkle_value H words_of_block compress digest final_state mixed round rounds state_after state_bytes
returns-clause-fetched c = refl

pub returns-clause-put : goal.returns-clause-put
unfolding nodes_over node_over spelling compact merkle_value H words_of_block compress digest final_state mixed round rounds state_after state_bytes
returns-clause-put c = refl

pub returns-clause-dropped : goal.returns-clause-dropped
unfolding nodes_over node_over spelling compact merkle_value H words_of_block compress digest final_state mixed round rounds state_after state_bytes
returns-clause-dropped c = refl

pub returns-clause-nothing : goal.returns-clause-nothing
unfolding nodes_over node_over spelling compact merkle_value H words_of_block compress digest final_state mixed round rounds state_after state_bytes
returns-clause-nothing c = (refl, refl)
