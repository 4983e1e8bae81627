use Rattle.std.proofs.Common.{refl}
use Rattle.sdb_blake2.specs.Blake2b.{H, words_of_block, compress, digest, final_state, mixed, round, rounds, state_after, state_bytes}
use Rattle.sdb_blake2.proofs.laws.known_digests.Goals as goal

pub returns-clause-nothing : goal.returns-clause-nothing
unfolding H words_of_block compress digest final_state mixed round rounds state_after state_bytes
returns-clause-nothing c = refl

pub returns-clause-zero_byte : goal.returns-clause-zero_byte
unfolding H words_of_block compress digest final_state mixed round rounds state_after state_bytes
returns-clause-zero_byte c = refl

pub returns-clause-abc : goal.returns-clause-abc
unfolding words_of_block compress digest final_state mixed round rounds state_after state_bytes
returns-clause-abc c = refl

pub returns-clause-full_block : goal.returns-clause-full_block
unfolding H words_of_block compress digest final_state mixed round rounds state_after state_bytes
returns-clause-full_block c = refl
