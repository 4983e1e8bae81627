use Rattle.pdb_model.proofs.Scans.{after_the_first, at_the_front}
use Rattle.pdb_model.proofs.recovery_laws.a_scan_follows_the_numbers.Goals as goal

pub returns-clause-first : goal.returns-clause-first
returns-clause-first c = at_the_front

pub returns-clause-second : goal.returns-clause-second
returns-clause-second c = after_the_first
