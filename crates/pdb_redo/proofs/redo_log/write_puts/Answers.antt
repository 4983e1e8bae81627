use Rattle.std.proofs.Common.{◌∙◌, refl}
use Rattle.pdb_redo.proofs.Marks.{marks_next, marks_none}
use Rattle.pdb_redo.proofs.WriteLoop.{all_done, all_writes, next_done, next_writes, writes_none}
use Rattle.pdb_redo.proofs.redo_log.write_puts.Goals as goal

pub loop-put-init : goal.loop-put-init
loop-put-init g c = record {
  writes = writes_none g.D.Disk.tells g.D.Disk.clock g.D.Disk.past c.args.log.now;
  done = λ told file index. refl;
  marked = λ told. marks_none g.D.Disk.clock g.D.Disk.past c.args.written.now c.args.log.now;
  counted = refl;
}

pub returns-in_err-write_put-clause-writes : goal.returns-in_err-write_put-clause-writes
returns-in_err-write_put-clause-writes g c =
    all_writes g.D.Disk.tells g.D.Disk.clock g.D.Disk.past c.args.puts.now _ c.args.log.now c.write_put.new.log
    (next_writes g.D.Disk.tells g.D.Disk.clock g.D.Disk.past c.args.puts.now c.loop-put.put-index c.put-item.result c.args.log.now c.loop-put.log c.write_put.new.log c.loop-put-test.true c.put-item.is
    c.loop-put.invariant.writes c.write_put.ensures.writes)

pub loop-put-preserved : goal.loop-put-preserved
loop-put-preserved g c = record {
  writes = next_writes g.D.Disk.tells g.D.Disk.clock g.D.Disk.past c.args.puts.now c.loop-put.put-index c.put-item.result c.args.log.now c.loop-put.log c.write_put.new.log c.loop-put-test.true c.put-item.is
      c.loop-put.invariant.writes c.write_put.ensures.writes;
  done = λ told. next_done g.D.Disk.tells g.D.Disk.clock g.D.Disk.past c.args.puts.now c.loop-put.put-index c.put-item.result c.args.log.now c.loop-put.log c.write_put.new.log c.loop-put-test.true c.put-item.is
      (c.loop-put.invariant.done told) (c.in_ok-write_put.ensures.done (c.loop-put.invariant.writes.told told));
  marked = λ told. marks_next g.D.Disk.clock g.D.Disk.past c.args.written.now c.loop-put.written c.write_put.new.written c.put-item.result c.args.log.now c.loop-put.log c.write_put.new.log
      c.in_ok-write_put.ensures.marked (c.in_ok-write_put.ensures.done (c.loop-put.invariant.writes.told told)) (c.loop-put.invariant.marked told);
  counted = c.in_ok-write_put.ensures.counted ∙ c.loop-put.invariant.counted;
}

pub returns-clause-writes : goal.returns-clause-writes
returns-clause-writes g c = all_writes g.D.Disk.tells g.D.Disk.clock g.D.Disk.past c.args.puts.now c.loop-put.put-index c.args.log.now c.loop-put.log c.loop-put.invariant.writes

pub returns-clause-done : goal.returns-clause-done
returns-clause-done g c told =
    all_done g.D.Disk.tells g.D.Disk.clock g.D.Disk.past c.args.puts.now c.loop-put.put-index c.args.log.now c.loop-put.log c.loop-put-test.false (c.loop-put.invariant.done told)

pub returns-clause-marked : goal.returns-clause-marked
returns-clause-marked g c = c.loop-put.invariant.marked
