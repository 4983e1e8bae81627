use Rattle.std.proofs.Common.{◌∙◌, arith}
use Rattle.std.proofs.lemmas.Result.{on_ok_weaker}
use Rattle.pdb_cells.specs.Content.{put_cell}
use Rattle.pdb_model.specs.Files.{table_file}
use Rattle.pdb_value.proofs.Recounted.{recount_spelled}
use Rattle.pdb_value.proofs.Spelled.{only_slot, same_head}
use Rattle.pdb_value.proofs.refs.put_count.Goals as goal

pub returns-clause-recounted : goal.returns-clause-recounted
returns-clause-recounted g c cells drafts is =
    on_ok_weaker c.put_slot.result
    (λ put. (
      put_cell (table_file c.args.column c.args.at.tier) c.args.at.slot c.deref.result.now cells,
      put,
      record {
        only = only_slot c.args.column c.args.at.tier c.args.at.slot c.deref.result.now cells;
        head = same_head c.args.column c.args.at.tier c.args.at.slot c.deref.result.now cells;
        table = λ t h spells holds. recount_spelled cells c.args.column c.args.at.tier c.args.at.slot c.args.count t h c.deref.result.now spells holds c.requires.some (omega arith)
            (λ kind len m rest e. c.deref.ensures.value ∙ c.set_count.ensures.count kind len m rest (is ∙ e));
      },
    ))
    (c.put_slot.ensures.cells cells drafts)
