use Rattle.sdb_serve.proofs.KeptReads.{known, root_kind, root_same}
use Rattle.sdb_serve.proofs.blocks.BlockMap.root.Goals as goal

pub returns-in-Some-clause-kind : goal.returns-in-Some-clause-kind
returns-in-Some-clause-kind g c blocks r =
    root_kind c.args.self.now blocks c.args.id.now c.in-Some.root (known c.args.self.now blocks c.args.id.now r c.in-Some.root c.in-Some.ensures)

pub returns-in-Some-clause-answer : goal.returns-in-Some-clause-answer
returns-in-Some-clause-answer g c blocks commits keeps clear =
    root_same c.args.self.now blocks c.args.id.now c.in-Some.root (known c.args.self.now blocks c.args.id.now keeps.represents c.in-Some.root c.in-Some.ensures)
    g.K.Keeper.stands commits keeps clear
