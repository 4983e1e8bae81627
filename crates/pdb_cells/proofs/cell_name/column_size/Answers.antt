use Rattle.std.proofs.Common.{◌-◌, ◌∙◌, sym, arith}
use Rattle.std.proofs.lemmas.Option.{slice_get-get_or}
use Rattle.pdb_cells.specs.Sizes.{slot_sizes}
use Rattle.pdb_cells.proofs.Sizes.{slot_in_column}
use Rattle.pdb_cells.proofs.cell_name.column_size.Goals as goal

pub returns-then-tier-lt16 : goal.returns-then-tier-lt16
returns-then-tier-lt16 c =
    sym (slice_get-get_or slot_sizes (c.args.file - 2) 0 c.if-tier-lt16.true) ∙ sym (slot_in_column c.args.file (c.args.file - 2) (omega arith))
