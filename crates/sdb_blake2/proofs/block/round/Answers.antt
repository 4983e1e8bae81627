use Rattle.std.proofs.Common.{refl}
use Rattle.sdb_blake2.specs.Blake2b.{round}
use Rattle.sdb_blake2.proofs.block.round.Goals as goal

pub returns : goal.returns
unfolding round
returns c = λ r e.
    rw (c.mix-8.ensures, c.mix-7.ensures, c.mix-6.ensures, c.mix-5.ensures, c.mix-4.ensures, c.mix-3.ensures, c.mix-2.ensures, c.mix.ensures, e) refl
