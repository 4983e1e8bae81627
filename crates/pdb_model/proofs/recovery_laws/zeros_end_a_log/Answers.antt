use Rattle.pdb_model.proofs.Scans.{nothing_at_zeros}
use Rattle.pdb_model.proofs.recovery_laws.zeros_end_a_log.Goals as goal

pub returns : goal.returns
returns c = nothing_at_zeros
