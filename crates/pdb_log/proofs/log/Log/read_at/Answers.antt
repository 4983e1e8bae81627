use Rattle.std.proofs.Common.{refl}
use Rattle.pdb_log.proofs.Passes.{read_log}
use Rattle.pdb_log.proofs.log.Log.read_at.Goals as goal

pub returns-in-Ok-clause-stands : goal.returns-in-Ok-clause-stands
returns-in-Ok-clause-stands g c l rows f is =
    let e = c.read_at.ensures in
    read_log g.D.Disk.tells g.D.Disk.clock g.D.Disk.past c.args.self.now _ l rows f is refl refl refl refl refl refl (e.told is.told) e.time e.unchanged

pub returns-in-Err-clause-stands : goal.returns-in-Err-clause-stands
returns-in-Err-clause-stands g c l rows f is =
    let e = c.read_at.ensures in
    read_log g.D.Disk.tells g.D.Disk.clock g.D.Disk.past c.args.self.now _ l rows f is refl refl refl refl refl refl (e.told is.told) e.time e.unchanged
