-- A new database stands for no commits.
use Rattle.std.proofs.Common.{refl}
use Rattle.pdb_pipe.proofs.OpenStands.{created_stands}
use Rattle.pdb_pipe.proofs.database.Database.create.Goals as goal

pub returns-in-Ok-clause-created : goal.returns-in-Ok-clause-created
returns-in-Ok-clause-created g c told =
    created_stands g.D.Disk.tells g.D.Disk.clock g.D.Disk.past _ c.new.ensures c.args.base c.requires (c.in-Ok.ensures.created told) refl
