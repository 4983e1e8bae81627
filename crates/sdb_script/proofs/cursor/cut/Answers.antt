use Rattle.std.proofs.Common.{◌==◌}
use Rattle.sdb_script.proofs.Cuts.{found_some, found_none}
use Rattle.sdb_script.proofs.cursor.cut.Goals as goal

pub returns-in-Some-clause-found : goal.returns-in-Some-clause-found
returns-in-Some-clause-found c = found_some (λ b. b == c.args.at) c.args.text.now c.in-Some.i c.in-Some.ensures

pub returns-in-None-clause-found : goal.returns-in-None-clause-found
returns-in-None-clause-found c = found_none (λ b. b == c.args.at) c.args.text.now c.in-None.ensures
