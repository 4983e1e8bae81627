use Rattle.std.proofs.Common.{refl}
use Rattle.sdb_blake2.specs.Blake2b.{state_after}
use Rattle.sdb_blake2.specs.Hasher.{Holds}
use Rattle.sdb_blake2.proofs.hasher.Blake2b.new.Goals as goal

pub returns-clause-holds : goal.returns-clause-holds
unfolding Holds state_after
returns-clause-holds c = (refl, rw c.from.ensures refl, refl)
