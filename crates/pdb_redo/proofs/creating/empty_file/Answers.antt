use Rattle.pdb_redo.proofs.CreatGates.{either_way}
use Rattle.pdb_redo.proofs.CreatMoments.{cut_moments, emptying_moments}
use Rattle.pdb_redo.proofs.creating.empty_file.Goals as goal

pub returns-in-Ok-clause-any_moment : goal.returns-in-Ok-clause-any_moment
returns-in-Ok-clause-any_moment g c told never =
    emptying_moments g.D.Disk.clock g.D.Disk.past c.args.disk.now c.cut.new.self c.sync.new.self c.args.file c.cut.ensures.time c.sync.ensures.time never
    (c.in-Ok.ensures.begun told) (c.in-Ok.ensures.written told)
    (either_way c.sync.result _ _ _ (c.cut.ensures.told told) c.sync.ensures.synced c.sync.ensures.failed)

pub returns-in-Err-clause-any_moment : goal.returns-in-Err-clause-any_moment
returns-in-Err-clause-any_moment g c told never =
    cut_moments g.D.Disk.clock g.D.Disk.past c.args.disk.now c.cut.new.self c.args.file c.cut.ensures.time never (c.in-Err.ensures.failed told)
