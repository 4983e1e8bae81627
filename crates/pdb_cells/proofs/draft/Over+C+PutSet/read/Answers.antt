use Rattle.std.proofs.Common.{◌∙◌}
use Rattle.std.proofs.lemmas.Result.{on_ok_weaker}
use Rattle.pdb_cells.proofs.Laying.{read_below, read_put}
use Rattle.pdb_cells.proofs.draft.Over+C+PutSet.read.Goals as goal

pub returns-in-Some-clause-bytes : goal.returns-in-Some-clause-bytes
returns-in-Some-clause-bytes g c cells seen =
    c.copy_from_slice.ensures.after ∙ read_put c.args.self.now.puts c.args.name c.in-Some.bytes.now _ cells c.in-Some.ensures.bytes seen

pub returns-in-None-clause-bytes : goal.returns-in-None-clause-bytes
returns-in-None-clause-bytes g c cells seen =
    let below = read_below c.args.self.now.puts c.args.name _ cells c.in-None.ensures.bytes seen in
    on_ok_weaker c.cell.result (λ e. e ∙ below.2) (c.cell.ensures.bytes below.0 below.1)
