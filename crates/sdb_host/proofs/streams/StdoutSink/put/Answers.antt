use Rattle.sdb_host.proofs.Written.{prefix_got}
use Rattle.sdb_host.proofs.streams.StdoutSink.put.Goals as goal

pub returns-clause-err : goal.returns-clause-err
returns-clause-err g c = prefix_got _ _ c.args.bytes.now (λ before told. let w = c.write_whole.ensures.written before told in (w.0, w.1))
