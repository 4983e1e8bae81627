use Rattle.pdb_value.proofs.Sizes.{file_sized}
use Rattle.pdb_value.proofs.tiers.file_of.Goals as goal

pub returns-clause-sized : goal.returns-clause-sized
returns-clause-sized c = file_sized c.args.column c.args.tier _ _ c.requires.column c.requires.tier c.from.ensures c.from-2.ensures
