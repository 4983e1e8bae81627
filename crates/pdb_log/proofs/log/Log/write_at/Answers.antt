use Rattle.std.proofs.Common.{inl, refl}
use Rattle.pdb_log.proofs.Passes.{put_log, log_moments}
use Rattle.pdb_log.proofs.log.Log.write_at.Goals as goal

pub returns-in-Ok-clause-stands : goal.returns-in-Ok-clause-stands
returns-in-Ok-clause-stands g c l rows f r p is flushed has cell =
    put_log g.D.Disk.tells g.D.Disk.clock g.D.Disk.past c.args.self.now _ l rows f r p c.args.file c.args.at c.args.bytes.now is flushed has c.requires.cells cell
    refl refl refl refl refl refl (c.write_at.ensures.told is.told) (inl (c.in-Ok.ensures.begun is.told))

pub returns-in-Ok-clause-any_moment : goal.returns-in-Ok-clause-any_moment
returns-in-Ok-clause-any_moment g c l rows f r p is flushed has cell =
    log_moments g.D.Disk.tells g.D.Disk.clock g.D.Disk.past c.args.self.now _ l l rows f is (returns-in-Ok-clause-stands g c l rows f r p is flushed has cell) c.write_at.ensures.time

pub returns-in-Err-clause-stands : goal.returns-in-Err-clause-stands
returns-in-Err-clause-stands g c l rows f r p is flushed has cell =
    put_log g.D.Disk.tells g.D.Disk.clock g.D.Disk.past c.args.self.now _ l rows f r p c.args.file c.args.at c.args.bytes.now is flushed has c.requires.cells cell
    refl refl refl refl refl refl (c.write_at.ensures.told is.told) (c.in-Err.ensures.failed is.told)

pub returns-in-Err-clause-any_moment : goal.returns-in-Err-clause-any_moment
returns-in-Err-clause-any_moment g c l rows f r p is flushed has cell =
    log_moments g.D.Disk.tells g.D.Disk.clock g.D.Disk.past c.args.self.now _ l l rows f is (returns-in-Err-clause-stands g c l rows f r p is flushed has cell) c.write_at.ensures.time
