use Rattle.std.proofs.Common.{refl}
use Rattle.pdb_redo.specs.Backlogs.{records_in}
use Rattle.pdb_redo.specs.Standing.{next_redo_record}
use Rattle.pdb_redo.proofs.Carried.{carries_more, ends_at, next_after}
use Rattle.pdb_redo.proofs.Marked.{marked_more}
use Rattle.pdb_redo.proofs.redo_log.Redo.add_waiting.Goals as goal

pub push-requires-clause-next : goal.push-requires-clause-next
push-requires-clause-next g c = next_after (records_in c.args.self.now.backlog) c.args.self.now.appended.number c.args.self.now.last

pub invariant_of-self : goal.invariant_of-self
invariant_of-self g c = record {
  whole = rw c.push.ensures (carries_more (records_in c.args.self.now.backlog) (next_redo_record c.args.self.now c.args.commits c.args.puts) c.args.self.now.whole c.requires.whole);
  last = rw c.push.ensures (ends_at (records_in c.args.self.now.backlog) (next_redo_record c.args.self.now c.args.commits c.args.puts));
  marked = rw c.push.ensures (marked_more c.args.self.now.enacted.number c.args.self.now.flushed.number c.args.self.now.appended.number (records_in c.args.self.now.backlog)
      (next_redo_record c.args.self.now c.args.commits c.args.puts) c.args.self.now.marked refl);
}
