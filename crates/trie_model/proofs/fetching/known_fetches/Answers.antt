use Rattle.std.proofs.Common.{refl}
use Rattle.sdb_blake2.specs.Blake2b.{H, words_of_block, compress, digest, final_state, mixed, round, rounds, state_after, state_bytes}
use Rattle.sdb_scale.specs.Compact.{compact}
use Rattle.trie_model.specs.Node.{merkle_value, spelling}
use Rattle.trie_model.specs.Nodes.{nodes_over}
use Rattle.trie_model.specs.Trie.{node_over}
use Rattle.trie_model.proofs.fetching.known_fetches.Goals as goal

pub returns-clause-read : goal.returns-clause-read
unfolding nodes_over node_over spelling compact merkle_value H words_of_block compress digest final_state mixed round rounds state_after state_bytes
returns-clause-read c = refl

pub returns-clause-next_key : goal.returns-clause-next_key
unfolding nodes_over node_over spelling compact merkle_value H words_of_block compress digest final_state mixed round rounds state_after state_bytes
returns-clause-next_key c = (refl, refl, refl)

pub returns-clause-next : goal.returns-clause-next
unfolding nodes_over node_over spelling compact merkle_value H words_of_block compress digest final_state mixed round rounds state_after state_bytes
returns-clause-next c = refl

pub returns-clause-beginning_with : goal.returns-clause-beginning_with
unfolding nodes_over node_over spelling compact merkle_value H words_of_block compress digest final_state mixed round rounds state_after state_bytes
returns-clause-beginning_with c = (refl, refl, refl)

pub returns-clause-walk : goal.returns-clause-walk
unfolding nodes_over node_over spelling compact merkle_value H words_of_block compress digest final_state mixed round rounds state_after state_bytes
returns-clause-walk c = refl

pub returns-clause-walk_below : goal.returns-clause-walk_below
unfolding nodes_over node_over spelling compact merkle_value H words_of_block compress digest final_state mixed round rounds state_after state_bytes
returns-clause-walk_below c = refl
