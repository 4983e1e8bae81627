use Rattle.sdb_serve.proofs.Keeping.{keeps_nothing, represents_nothing}
use Rattle.sdb_serve.proofs.blocks.BlockMap.new.Goals as goal

pub returns-clause-represents : goal.returns-clause-represents
returns-clause-represents g c = represents_nothing _ c.new.ensures.empty c.new-2.ensures.items

pub returns-clause-keeps : goal.returns-clause-keeps
returns-clause-keeps g c at = keeps_nothing g.K.Keeper.stands _ (represents_nothing _ c.new.ensures.empty c.new-2.ensures.items) at
