use Rattle.std.proofs.Common.{◌≡◌, List, take}
use Rattle.std.specs.Prelude.{IsTrue}
use Rattle.pdb_disk.specs.Moments.{Moments}
use Rattle.pdb_model.specs.Records.{Record}
use Rattle.pdb_model.specs.Recovery.{Row}
use Rattle.pdb_model.specs.declared.gate_slot.GateSlot.{GateSlot}
use Rattle.pdb_recover.specs.Recovering.{AreCellsWritten, LaysSame, IsLaying}
use Rattle.pdb_recover.proofs.lay.write_cells.Given as goal

abbrev pub invariant-loop-put : goal.invariant-loop-put
invariant-loop-put g l = record {
  moments : (row : Row) (gate : GateSlot) (taken : List Record) → IsTrue (g.D.Disk.tells l.fn.disk) → LaysSame l.puts taken
      → IsLaying (g.D.Disk.past l.fn.disk (g.D.Disk.clock l.fn.disk)) row gate taken
      → Moments (g.D.Disk.clock l.fn.disk) (g.D.Disk.clock l.disk) (g.D.Disk.past l.fn.disk) (g.D.Disk.past l.disk) (λ fs. IsLaying fs row gate taken);
  written : IsTrue (g.D.Disk.tells l.fn.disk)
      → AreCellsWritten (take l.put-index l.puts) (g.D.Disk.past l.fn.disk (g.D.Disk.clock l.fn.disk)) (g.D.Disk.past l.disk (g.D.Disk.clock l.disk));
  told : IsTrue (g.D.Disk.tells l.fn.disk) → IsTrue (g.D.Disk.tells l.disk);
  counted : g.D.Disk.fault_count l.disk ≡ g.D.Disk.fault_count l.fn.disk;
}
