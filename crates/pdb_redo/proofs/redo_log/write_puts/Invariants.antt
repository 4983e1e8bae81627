use Rattle.std.proofs.Common.{◌≡◌, take}
use Rattle.std.specs.Prelude.{IsTrue}
use Rattle.pdb_redo.specs.inner.Writing.{AreDone, MarksOthers, WritesAll}
use Rattle.pdb_redo.proofs.redo_log.write_puts.Given as goal

abbrev pub invariant-loop-put : goal.invariant-loop-put
invariant-loop-put g l = record {
  writes : WritesAll g.D.Disk.tells g.D.Disk.clock g.D.Disk.past (take l.put-index l.puts) l.fn.log l.log;
  done : IsTrue (g.D.Disk.tells l.fn.log.disk) → AreDone g.D.Disk.clock g.D.Disk.past (take l.put-index l.puts) l.fn.log l.log;
  marked : IsTrue (g.D.Disk.tells l.fn.log.disk) → MarksOthers g.D.Disk.clock g.D.Disk.past l.fn.written l.written l.fn.log l.log;
  counted : g.D.Disk.fault_count l.log.disk ≡ g.D.Disk.fault_count l.fn.log.disk;
}
