use Rattle.sdb_serve.specs.Marks.{first_reached}
use Rattle.sdb_serve.proofs.InOrder.{lines_in_order, none_in_order}
use Rattle.sdb_serve.proofs.laws.commits_come_in_order.Goals as goal

pub returns : goal.returns
returns c = λ g r input run. lines_in_order g (first_reached g) r.lines r.replies r.at run.answers (none_in_order 0)
