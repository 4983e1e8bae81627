use Rattle.std.proofs.Common.{refl}
use Rattle.pdb_recover.proofs.ScanFronts.{front_scan}
use Rattle.pdb_recover.proofs.cursor.Cursor.at_front.Goals as goal

pub returns-in-Ok-clause-begun : goal.returns-in-Ok-clause-begun
returns-in-Ok-clause-begun g c told n = front_scan (g.D.Disk.past c.args.disk.now (g.D.Disk.clock c.args.disk.now) c.args.file).read _ n refl (c.in-Ok.ensures.head told)
