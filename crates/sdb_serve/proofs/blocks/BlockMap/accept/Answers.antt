use Rattle.sdb_serve.proofs.Accepting.{on_err, same_entries, taken_back}
use Rattle.sdb_serve.proofs.blocks.BlockMap.accept.Goals as goal

pub returns-clause-same : goal.returns-clause-same
returns-clause-same g c none =
    taken_back c.args.self.now c.make_room.new.self _ c.args.id _ none c.in_ok-make_room.ensures.added c.remove.ensures.updates c.make_room.ensures.levels

pub returns-in_err-make_room-clause-same : goal.returns-in_err-make_room-clause-same
returns-in_err-make_room-clause-same g c none =
    on_err _ (same_entries c.args.self.now c.make_room.new.self c.in_err-make_room.ensures.err c.make_room.ensures.levels)
