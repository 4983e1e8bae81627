use Rattle.std.proofs.Common.{IsTrue}
use Rattle.pdb_disk.proofs.Calls.{no_call, one_call, joined, at_end, weaker}
use Rattle.pdb_disk.proofs.laws.moments_compose.Goals as goal

pub returns-clause-no_call : goal.returns-clause-no_call
returns-clause-no_call c t past p = no_call t past (λ fs. IsTrue (p fs))

pub returns-clause-one_call : goal.returns-clause-one_call
returns-clause-one_call c before now past since p = one_call before now past since (λ fs. IsTrue (p fs))

pub returns-clause-joined : goal.returns-clause-joined
returns-clause-joined c a b d past mid since p = joined a b d past mid since (λ fs. IsTrue (p fs))

pub returns-clause-at_end : goal.returns-clause-at_end
returns-clause-at_end c a b past since p = at_end a b past since (λ fs. IsTrue (p fs))

pub returns-clause-weaker : goal.returns-clause-weaker
returns-clause-weaker c a b past since p q = weaker a b past since (λ fs. IsTrue (p fs)) (λ fs. IsTrue (q fs))
