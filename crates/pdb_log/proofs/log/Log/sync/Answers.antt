use Rattle.std.proofs.Common.{refl, arith}
use Rattle.pdb_log.proofs.Passes.{cells_synced_log, log_moments, same_log}
use Rattle.pdb_log.proofs.log.Log.sync.Goals as goal

pub returns-in-Ok-clause-stands : goal.returns-in-Ok-clause-stands
returns-in-Ok-clause-stands g c l rows f is =
    cells_synced_log g.D.Disk.tells g.D.Disk.clock g.D.Disk.past c.args.self.now _ l rows f c.args.file is c.requires refl refl refl refl refl refl (c.sync.ensures.told is.told)
    (g.met.D.Disk.read_is_image c.args.self.now.disk (g.D.Disk.clock c.args.self.now.disk) is.told (omega arith)) (c.in-Ok.ensures.synced is.told)

pub returns-in-Ok-clause-any_moment : goal.returns-in-Ok-clause-any_moment
returns-in-Ok-clause-any_moment g c l rows f is =
    log_moments g.D.Disk.tells g.D.Disk.clock g.D.Disk.past c.args.self.now _ l l rows f is (returns-in-Ok-clause-stands g c l rows f is) c.sync.ensures.time

pub returns-in-Err-clause-stands : goal.returns-in-Err-clause-stands
returns-in-Err-clause-stands g c l rows f is =
    same_log g.D.Disk.tells g.D.Disk.clock g.D.Disk.past c.args.self.now _ l rows f is refl refl refl refl refl refl (c.sync.ensures.told is.told) (c.in-Err.ensures.failed is.told)

pub returns-in-Err-clause-any_moment : goal.returns-in-Err-clause-any_moment
returns-in-Err-clause-any_moment g c l rows f is =
    log_moments g.D.Disk.tells g.D.Disk.clock g.D.Disk.past c.args.self.now _ l l rows f is (returns-in-Err-clause-stands g c l rows f is) c.sync.ensures.time
