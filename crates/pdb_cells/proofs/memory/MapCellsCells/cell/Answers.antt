use Rattle.std.proofs.Common.{length, ap, sym, ◌∙◌}
use Rattle.std.proofs.lemmas.Option.{same_Some}
use Rattle.pdb_cells.specs.Content.{Content}
use Rattle.pdb_cells.specs.Memory.{cells_of}
use Rattle.pdb_cells.proofs.Storing.{absent_zeros, found_length}
use Rattle.pdb_cells.proofs.memory.MapCellsCells.cell.Goals as goal

pub copy_from_slice-requires : goal.copy_from_slice-requires
copy_from_slice-requires c =
    found_length c.args.self.now.cells c.args.name c.in-Some.bytes.now (length c.args.into.now) c.args.self.now.sized c.in-Some.ensures.value c.requires.sized
    ∙ ap length (sym c.as_slice.ensures)

pub returns-in-None-clause-bytes : goal.returns-in-None-clause-bytes
returns-in-None-clause-bytes c cells seen =
    c.fill.ensures.after (λ y e. e) ∙ absent_zeros c.args.self.now.cells c.args.name (length c.args.into.now) c.in-None.ensures.value c.requires.sized
    ∙ ap (λ (f : Content). f c.args.name.file c.args.name.index) (same_Some (cells_of c.args.self.now) cells seen)
