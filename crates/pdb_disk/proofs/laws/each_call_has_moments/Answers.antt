use Rattle.std.proofs.Common.{IsTrue}
use Rattle.pdb_disk.proofs.Calls.{begun, maybe_begun, synced, unsynced, no_time}
use Rattle.pdb_disk.proofs.laws.each_call_has_moments.Goals as goal

pub returns-clause-begun : goal.returns-clause-begun
returns-clause-begun c before now past since p = begun before now past since (λ fs. IsTrue (p fs))

pub returns-clause-maybe_begun : goal.returns-clause-maybe_begun
returns-clause-maybe_begun c before now past since p = maybe_begun before now past since (λ fs. IsTrue (p fs))

pub returns-clause-synced : goal.returns-clause-synced
returns-clause-synced c before now past since p = synced before now past since (λ fs. IsTrue (p fs))

pub returns-clause-unsynced : goal.returns-clause-unsynced
returns-clause-unsynced c before now past since p = unsynced before now past since (λ fs. IsTrue (p fs))

pub returns-clause-no_time : goal.returns-clause-no_time
returns-clause-no_time c before now past since p = no_time before now past since (λ fs. IsTrue (p fs))
