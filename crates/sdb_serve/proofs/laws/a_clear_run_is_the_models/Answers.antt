use Rattle.sdb_serve.proofs.ClearRuns.{clear_lines}
use Rattle.sdb_serve.specs.Marks.{first_reached}
use Rattle.sdb_serve.proofs.laws.a_clear_run_is_the_models.Goals as goal

pub returns : goal.returns
returns c = λ g r input run told clear. (clear_lines g (first_reached g) r.lines r.replies r.at run.answers told clear).0
