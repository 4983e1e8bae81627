use Rattle.std.proofs.Common.{refl}
use Rattle.sdb_blake2.specs.Blake2b.{compress}
use Rattle.sdb_blake2.proofs.block.compress.Goals as goal

pub returns : goal.returns
unfolding compress
returns c = rw (c.twelve_rounds.ensures, c.working_vector-v.ensures, c.words_of_block-words.ensures) refl
