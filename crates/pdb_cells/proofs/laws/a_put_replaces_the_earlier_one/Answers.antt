use Rattle.pdb_cells.proofs.Laying.{laid-after}
use Rattle.pdb_cells.proofs.Placing.{after_new, last_after, names_kept, once_after}
use Rattle.pdb_cells.proofs.laws.a_put_replaces_the_earlier_one.Goals as goal

pub returns-clause-there : goal.returns-clause-there
returns-clause-there c = names_kept

pub returns-clause-new : goal.returns-clause-new
returns-clause-new c = after_new

pub returns-clause-last : goal.returns-clause-last
returns-clause-last c = last_after

pub returns-clause-cells : goal.returns-clause-cells
returns-clause-cells c = laid-after

pub returns-clause-once : goal.returns-clause-once
returns-clause-once c = once_after
