use Rattle.std.proofs.Common.{[], refl}
use Rattle.pdb_model.proofs.Scans.{nothing_taken}
use Rattle.pdb_model.proofs.recovery_laws.empty_logs_leave_the_cells.Goals as goal

pub returns : goal.returns
returns c x g is_gate zeros = record {
  gate = g;
  is_gate = is_gate;
  taken = [];
  are_taken = nothing_taken x g.number zeros;
  cells = λ file index. refl;
  commits = refl;
}
