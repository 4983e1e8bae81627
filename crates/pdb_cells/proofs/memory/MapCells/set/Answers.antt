use Rattle.std.proofs.Common.{ap, length, Some, ◌∙◌, sym}
use Rattle.pdb_cells.specs.Content.{put_cell}
use Rattle.pdb_cells.specs.Memory.{cells_of}
use Rattle.pdb_cells.proofs.Storing.{cells_set, sized_insert}
use Rattle.pdb_cells.proofs.memory.MapCells.set.Goals as goal

pub invariant_of-self : goal.invariant_of-self
invariant_of-self c = record {
  sized = sized_insert c.insert.result c.args.self.now.cells c.insert.new.self c.args.name c.in_ok-bytes.bytes c.insert.ensures.updates c.insert.ensures.err
      (c.requires.sized ∙ ap (λ bytes. Some (length bytes)) (sym c.in_ok-bytes.ensures)) c.args.self.now.sized;
}

pub returns-clause-ok : goal.returns-clause-ok
returns-clause-ok c =
    cells_set c.args.self.now.cells c.insert.new.self c.args.name c.in_ok-bytes.bytes c.in_ok-insert.ensures.updates
    ∙ ap (λ bytes. put_cell c.args.name.file c.args.name.index bytes (cells_of c.args.self.now)) c.in_ok-bytes.ensures
