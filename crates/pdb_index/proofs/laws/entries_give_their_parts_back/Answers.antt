use Rattle.pdb_index.proofs.Parts.{entry_fits, entry_is_full, parts_of_entry}
use Rattle.pdb_index.proofs.laws.entries_give_their_parts_back.Goals as goal

pub returns-clause-parts : goal.returns-clause-parts
returns-clause-parts c = parts_of_entry

pub returns-clause-full : goal.returns-clause-full
returns-clause-full c = entry_is_full

pub returns-clause-narrow : goal.returns-clause-narrow
returns-clause-narrow c = entry_fits
