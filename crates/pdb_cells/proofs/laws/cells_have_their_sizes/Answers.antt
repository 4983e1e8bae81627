use Rattle.pdb_cells.proofs.Sizes.{no_cells, slot_size}
use Rattle.pdb_cells.proofs.laws.cells_have_their_sizes.Goals as goal

pub returns-clause-slots : goal.returns-clause-slots
returns-clause-slots c = slot_size

pub returns-clause-none : goal.returns-clause-none
returns-clause-none c = no_cells
