use Rattle.sdb_script.proofs.WrittenLines.{line_back}
use Rattle.sdb_script.proofs.laws.lines_are_read_as_written.Goals as goal

pub returns : goal.returns
returns c = line_back
