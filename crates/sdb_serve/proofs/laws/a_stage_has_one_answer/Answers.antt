use Rattle.sdb_serve.proofs.StageSteps.{steps_as, steps_so}
use Rattle.sdb_serve.proofs.laws.a_stage_has_one_answer.Goals as goal

pub returns : goal.returns
returns c = λ p q answer order. (steps_so p q answer, λ is. steps_as p q answer order is.0 is.1)
