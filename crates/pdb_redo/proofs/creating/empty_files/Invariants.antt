use Rattle.std.proofs.Common.{◌≡◌, ◌≤◌}
use Rattle.std.specs.Prelude.{IsTrue}
use Rattle.pdb_redo.proofs.CreatFiles.{StaysUngated}
use Rattle.pdb_redo.specs.inner.Creation.{AreEmpty, NeverHasGate}
use Rattle.pdb_redo.proofs.creating.empty_files.Given as goal

abbrev pub invariant-loop-file : goal.invariant-loop-file
invariant-loop-file g l = record {
  later : g.D.Disk.clock l.initial.disk ≤ g.D.Disk.clock l.disk;
  told : IsTrue (g.D.Disk.tells l.initial.disk) → IsTrue (g.D.Disk.tells l.disk);
  counted : g.D.Disk.fault_count l.disk ≡ g.D.Disk.fault_count l.initial.disk;
  ungated : IsTrue (g.D.Disk.tells l.initial.disk) → NeverHasGate (g.D.Disk.past l.initial.disk (g.D.Disk.clock l.initial.disk)) → StaysUngated g.D.Disk.clock g.D.Disk.past l.initial.disk l.disk;
  empty : IsTrue (g.D.Disk.tells l.initial.disk) → AreEmpty l.file (g.D.Disk.past l.disk (g.D.Disk.clock l.disk));
}
