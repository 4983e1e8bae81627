use Rattle.sdb_script.proofs.LinesWithin.{line_within}
use Rattle.sdb_script.proofs.laws.lines_keep_the_limits.Goals as goal

pub returns : goal.returns
returns c = line_within
