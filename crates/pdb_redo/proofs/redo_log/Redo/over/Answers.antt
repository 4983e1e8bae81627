use Rattle.std.proofs.Common.{refl, sym, subst, arith}
use Rattle.pdb_disk.specs.Files.{IsImage, reads_of}
use Rattle.pdb_log.specs.Ledger.{fresh_ledger}
use Rattle.pdb_log.specs.Recovered.{IsRecovered}
use Rattle.pdb_redo.specs.Backlogs.{records_in}
use Rattle.pdb_redo.proofs.Opened.{begun_redo, gate_reads, one_row}
use Rattle.pdb_redo.proofs.Reached.{reach_begun}
use Rattle.pdb_redo.proofs.redo_log.Redo.over.Goals as goal

pub returns-clause-stands : goal.returns-clause-stands
returns-clause-stands g c row told is one two = (
  fresh_ledger c.args.gate,
  begun_redo g.D.Disk.tells g.D.Disk.clock g.D.Disk.past _ c.args.gate row
      (subst (λ d. IsImage (g.D.Disk.past d (g.D.Disk.clock d)) (reads_of (g.D.Disk.past d (g.D.Disk.clock d)))) (sym c.begin.ensures.disk)
      (g.met.D.Disk.read_is_image c.args.disk (g.D.Disk.clock c.args.disk) told (omega arith)))
      (subst (λ d. IsRecovered (g.D.Disk.past d (g.D.Disk.clock d)) c.args.gate row) (sym c.begin.ensures.disk) is)
      (c.begin.ensures.begun row told is.gate (gate_reads _ _ row is) is.empty (one_row _ _ row is))
      c.new.ensures one two refl refl refl refl,
)

pub returns-clause-reach : goal.returns-clause-reach
returns-clause-reach g c = reach_begun (record { number = c.args.gate.number; commits = c.args.gate.commits }) (records_in c.new.result) c.new.ensures
