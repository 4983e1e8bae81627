use Rattle.std.proofs.Common.{refl}
use Rattle.pdb_index.proofs.chunk.put.Goals as goal

pub returns-in-Some-clause-full : goal.returns-in-Some-clause-full
returns-in-Some-clause-full c = (λ never. cc, λ full. absurd (full c.in-Some.place 0 c.in-Some.ensures.within c.in-Some.ensures.full))

pub returns-in-None-clause-full : goal.returns-in-None-clause-full
returns-in-None-clause-full c = (λ _. c.in-None.ensures.full, λ _. refl)
