use Rattle.sdb_serve.proofs.Unique.{no_script, one_first}
use Rattle.sdb_serve.proofs.laws.first_bad_line_is_one.Goals as goal

pub returns-clause-one : goal.returns-clause-one
returns-clause-one c = one_first

pub returns-clause-none : goal.returns-clause-none
returns-clause-none c = λ g input n script bad. no_script g bad.0 input bad.1 bad.2 script
