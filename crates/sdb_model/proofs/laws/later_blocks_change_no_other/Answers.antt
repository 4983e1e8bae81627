use Rattle.sdb_model.proofs.Chains.{number-later, state-later}
use Rattle.sdb_model.proofs.laws.later_blocks_change_no_other.Goals as goal

pub returns : goal.returns
returns c b parent older id other = (number-later b parent older id other, state-later b parent older id other)
