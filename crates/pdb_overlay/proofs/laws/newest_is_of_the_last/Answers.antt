use Rattle.pdb_overlay.proofs.Sayings.{newest_said-append}
use Rattle.pdb_overlay.proofs.laws.newest_is_of_the_last.Goals as goal

pub returns : goal.returns
returns c = newest_said-append
