use Rattle.pdb_cells.proofs.Laying.{laid-append, laid-last}
use Rattle.pdb_cells.proofs.laws.puts_are_laid_in_order.Goals as goal

pub returns-clause-cell : goal.returns-clause-cell
returns-clause-cell c = laid-last

pub returns-clause-joined : goal.returns-clause-joined
returns-clause-joined c = laid-append
