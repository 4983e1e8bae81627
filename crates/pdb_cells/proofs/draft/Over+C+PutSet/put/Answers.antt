use Rattle.std.proofs.Common.{ap, ◌∙◌}
use Rattle.std.proofs.lemmas.Result.{on_ok_weaker}
use Rattle.pdb_cells.specs.Puts.{drafted}
use Rattle.pdb_cells.proofs.Laying.{drafted-after}
use Rattle.pdb_cells.proofs.draft.Over+C+PutSet.put.Goals as goal

pub returns-clause-cells : goal.returns-clause-cells
returns-clause-cells g c cells seen =
    let below = g.C.Cells.seen c.args.self.now.under.now in
    on_ok_weaker c.put.result
    (λ e. ap (λ puts. drafted puts below) e
    ∙ drafted-after c.args.self.now.puts (record { name = c.args.name; bytes = c.args.bytes.now }) below cells c.put.ensures.once seen)
    c.put.ensures.ok
