use Rattle.std.proofs.Common.{refl}
use Rattle.sdb_blake2.specs.Blake2b.{rounds}
use Rattle.sdb_blake2.proofs.block.twelve_rounds.Goals as goal

pub returns : goal.returns
unfolding rounds
returns c =
    rw (
      c.round-12.ensures 11 refl,
      c.round-11.ensures 10 refl,
      c.round-10.ensures 9 refl,
      c.round-9.ensures 8 refl,
      c.round-8.ensures 7 refl,
      c.round-7.ensures 6 refl,
      c.round-6.ensures 5 refl,
      c.round-5.ensures 4 refl,
      c.round-4.ensures 3 refl,
      c.round-3.ensures 2 refl,
      c.round-2.ensures 1 refl,
      c.round.ensures 0 refl,
    ) refl
