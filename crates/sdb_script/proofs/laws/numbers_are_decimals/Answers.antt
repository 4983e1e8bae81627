use Rattle.sdb_script.proofs.Decimals.{decimal_read, read_only}
use Rattle.sdb_script.proofs.laws.numbers_are_decimals.Goals as goal

pub returns-clause-read : goal.returns-clause-read
returns-clause-read c = decimal_read

pub returns-clause-only : goal.returns-clause-only
returns-clause-only c = read_only
