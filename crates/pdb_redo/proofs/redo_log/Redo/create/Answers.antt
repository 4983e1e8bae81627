use Rattle.std.proofs.Common.{sym, subst}
use Rattle.pdb_disk.specs.Moments.{Moments}
use Rattle.pdb_redo.specs.Creating.{IsNoneOrNew, new_row}
use Rattle.pdb_redo.proofs.NewStart.{never_at_first}
use Rattle.pdb_redo.proofs.redo_log.Redo.create.Goals as goal

pub returns-in-Ok-clause-any_moment : goal.returns-in-Ok-clause-any_moment
returns-in-Ok-clause-any_moment g c told none =
    subst (λ d. Moments (g.D.Disk.clock c.args.disk) (g.D.Disk.clock d) (g.D.Disk.past c.args.disk) (g.D.Disk.past d) (IsNoneOrNew c.args.base)) (sym c.over.ensures.disk)
    (c.create_files.ensures.any_moment told (never_at_first (g.D.Disk.past c.args.disk (g.D.Disk.clock c.args.disk)) none))

pub returns-in-Err-clause-any_moment : goal.returns-in-Err-clause-any_moment
returns-in-Err-clause-any_moment g c told none =
    c.create_files.ensures.any_moment told (never_at_first (g.D.Disk.past c.args.disk (g.D.Disk.clock c.args.disk)) none)

pub returns-in-Ok-clause-created : goal.returns-in-Ok-clause-created
returns-in-Ok-clause-created g c told =
    c.over.ensures.stands (new_row c.args.base) (c.create_files.ensures.told told) (c.in-Ok.ensures.created told) c.new_head-head.ensures c.new_head-head.ensures
