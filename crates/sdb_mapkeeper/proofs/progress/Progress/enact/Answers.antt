use Rattle.std.proofs.Common.{arith}
use Rattle.sdb_mapkeeper.proofs.Records.{enacts_next}
use Rattle.sdb_mapkeeper.proofs.progress.Progress.enact.Goals as goal

pub returns-clause-steps : goal.returns-clause-steps
returns-clause-steps c =
    let now = c.args.self.now in
    enacts_next now.numbers (omega (arith, c.if-self.false, now.flushed_first)) now.logged_first
