use Rattle.std.proofs.Common.{arith}
use Rattle.sdb_serve.specs.Marks.{first_reached}
use Rattle.sdb_serve.proofs.InOrder.{none_in_order}
use Rattle.sdb_serve.proofs.MarkedLines.{lines_marks}
use Rattle.sdb_serve.proofs.laws.marks_rise.Goals as goal

pub returns : goal.returns
returns c = λ g r input run.
    lines_marks g 0 g.clock (first_reached g) r.lines r.replies r.at run.answers (none_in_order 0) (omega arith, omega arith)
