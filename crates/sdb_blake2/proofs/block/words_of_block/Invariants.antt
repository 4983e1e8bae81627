use Rattle.std.proofs.Common.{◌≡◌, length, take}
use Rattle.sdb_blake2.specs.Blake2b.{words_of_block}
use Rattle.sdb_blake2.proofs.block.words_of_block.Given as goal

abbrev pub invariant-load : goal.invariant-load
invariant-load l = (length l.words ≡ 16) × (take l.i l.words ≡ words_of_block l.block l.i)
