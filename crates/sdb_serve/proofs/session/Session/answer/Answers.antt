use Rattle.std.proofs.Common.{refl, None}
use Rattle.sdb_serve.proofs.Answering.{blank}
use Rattle.sdb_serve.proofs.HeldStores.{as_it_was}
use Rattle.sdb_serve.proofs.session.Session.answer.Goals as goal

pub returns-in-Blank-clause-answer : goal.returns-in-Blank-clause-answer
returns-in-Blank-clause-answer g c = λ given a h. record {
  model = None;
  next = a.session;
  answered = rw c.in-Blank.is (blank a.session);
  may = rw c.in-Blank.is refl;
  now = a.clock;
  time = refl;
  counted = a.tally;
  tally = refl;
  represents =
      as_it_was g.D.Disk.tells g.D.Disk.clock g.D.Disk.past given c.args.self.now c.args.self.now a h refl refl refl refl refl refl;
}
