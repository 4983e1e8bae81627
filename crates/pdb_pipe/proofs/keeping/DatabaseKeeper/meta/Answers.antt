use Rattle.pdb_pipe.proofs.LookKept.{kept_after, kept_later, kept_outside, kept_pipeline, kept_stands}
use Rattle.pdb_pipe.proofs.DueSince.{damaged_since, fault_since}
use Rattle.pdb_pipe.specs.Faults.{IsDamaged}
use Rattle.pdb_pipe.proofs.keeping.DatabaseKeeper.meta.Goals as goal

pub returns-clause-stands : goal.returns-clause-stands
returns-clause-stands g c = kept_stands g.D.Disk.tells g.D.Disk.clock g.D.Disk.past g.D.Disk.fault_count c.args.self.now c.find_meta.new.self c.find_meta.ensures.keeps

pub returns-clause-later : goal.returns-clause-later
returns-clause-later g c commits s = kept_later g.D.Disk.tells g.D.Disk.clock g.D.Disk.past g.D.Disk.fault_count c.args.self.now c.find_meta.new.self c.find_meta.ensures.keeps commits

pub returns-clause-after : goal.returns-clause-after
returns-clause-after g c = kept_after g.D.Disk.tells g.D.Disk.clock g.D.Disk.past g.D.Disk.fault_count c.args.self.now c.find_meta.new.self c.find_meta.ensures.keeps

pub returns-clause-pipeline : goal.returns-clause-pipeline
returns-clause-pipeline g c = kept_pipeline g.D.Disk.tells g.D.Disk.clock g.D.Disk.past g.D.Disk.fault_count c.args.self.now c.find_meta.new.self c.find_meta.ensures.keeps

pub returns-clause-outside : goal.returns-clause-outside
returns-clause-outside g c =
    kept_outside g.D.Disk.tells g.D.Disk.clock g.D.Disk.past g.D.Disk.fault_count
    c.args.self.now c.find_meta.new.self c.find_meta.ensures.keeps

pub returns-clause-cause : goal.returns-clause-cause
returns-clause-cause g c =
    fault_since c.find_meta.result (IsDamaged g.D.Disk.tells g.D.Disk.clock g.D.Disk.past c.args.self.now 1)
    (IsDamaged g.D.Disk.tells g.D.Disk.clock g.D.Disk.past c.find_meta.new.self 1)
    (damaged_since g.D.Disk.tells g.D.Disk.clock g.D.Disk.past g.D.Disk.fault_count
    c.args.self.now c.find_meta.new.self c.find_meta.ensures.keeps 1)
    c.find_meta.ensures.damage
