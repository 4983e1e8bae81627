-- A database that is opened stands for the commits that recovery makes of the files.
use Rattle.std.proofs.Common.{ℕ, List, [], ◌∷◌, ap₂}
use Rattle.std.specs.Prelude.{slice_index}
use Rattle.pdb_pipe.proofs.OpenStands.{opened_stands}
use Rattle.pdb_pipe.proofs.database.Database.open.Goals as goal

pub returns-in-Ok-clause-opened : goal.returns-in-Ok-clause-opened
returns-in-Ok-clause-opened g c commits told holds =
    opened_stands g.D.Disk.tells g.D.Disk.clock g.D.Disk.past _ c.new.ensures holds.row (c.in-Ok.ensures.opened holds.row told holds.laid) commits holds.bases holds.columns
    holds.count (ap₂ (λ (a b : List ℕ). slice_index a 1 ∷ slice_index b 1 ∷ []) c.head.ensures c.head-in-Ok.ensures)
