use Rattle.std.proofs.Common.{refl, arith}
use Rattle.sdb_mapkeeper.proofs.Records.{logs_next}
use Rattle.sdb_mapkeeper.proofs.progress.Progress.log.Goals as goal

pub returns-clause-steps : goal.returns-clause-steps
returns-clause-steps c =
    let now = c.args.self.now in
    (omega (arith, c.if-self.false, now.accepted_first), refl, logs_next now.numbers (omega (arith, now.flushed_first, now.logged_first)))
