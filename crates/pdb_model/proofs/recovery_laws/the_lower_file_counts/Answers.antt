use Rattle.pdb_model.proofs.Scans.{first_file_counts, only_first_file}
use Rattle.pdb_model.proofs.recovery_laws.the_lower_file_counts.Goals as goal

pub returns-clause-counts : goal.returns-clause-counts
returns-clause-counts c = first_file_counts

pub returns-clause-no_other : goal.returns-clause-no_other
returns-clause-no_other c = only_first_file
