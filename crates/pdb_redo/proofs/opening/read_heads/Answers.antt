use Rattle.std.proofs.Common.{refl, ◌∙◌, ap}
use Rattle.pdb_disk.specs.Files.{Files, reads_of}
use Rattle.pdb_model.specs.Files.{head_cell}
use Rattle.pdb_model.specs.Recovery.{cells_of_files}
use Rattle.pdb_recover.proofs.ReadBytes.{same_files}
use Rattle.pdb_recover.proofs.ReadHeads.{head_cell_is}
use Rattle.pdb_redo.proofs.opening.read_heads.Goals as goal

pub returns-clause-first : goal.returns-clause-first
returns-clause-first g c told =
    let x = reads_of (g.D.Disk.past c.args.disk.now (g.D.Disk.clock c.args.disk.now)) in
    head_cell_is x 0 0 c.read_at.new.into c.read_at.auto.into refl (c.in_ok-read_at.ensures.bytes told)

pub returns-clause-second : goal.returns-clause-second
returns-clause-second g c told =
    let first = c.read_at.ensures in
    let x = reads_of (g.D.Disk.past c.read_at.new.self (g.D.Disk.clock c.read_at.new.self)) in
    let same = same_files g.D.Disk.clock g.D.Disk.past c.args.disk.now c.read_at.new.self first.time first.unchanged in
    head_cell_is x 1 256 c.read_at-2.new.into c.read_at-2.auto.into refl (c.in_ok-read_at-2.ensures.bytes (first.told told))
    ∙ ap (λ (fs : Files). head_cell (cells_of_files (reads_of fs)) 1) same
