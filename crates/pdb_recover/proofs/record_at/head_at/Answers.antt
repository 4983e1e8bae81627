use Rattle.pdb_recover.proofs.ReadRecords.{headed, short_body}
use Rattle.pdb_recover.proofs.record_at.head_at.Goals as goal

pub returns-in-Ok-clause-head : goal.returns-in-Ok-clause-head
returns-in-Ok-clause-head g c told =
    headed (g.D.Disk.past c.args.disk.now (g.D.Disk.clock c.args.disk.now) c.args.file).read c.args.at c.read_at.new.into c.header.result
    c.read_at.auto.into (c.in-Ok.ensures.bytes told) c.header.ensures.whole c.header.ensures.only

pub returns-in-Ok-clause-short : goal.returns-in-Ok-clause-short
returns-in-Ok-clause-short g c = short_body c.read_at.new.into c.header.result c.header.ensures.only
