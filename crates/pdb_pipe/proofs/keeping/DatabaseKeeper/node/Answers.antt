use Rattle.pdb_pipe.proofs.LookKept.{kept_after, kept_later, kept_outside, kept_pipeline, kept_stands}
use Rattle.pdb_pipe.proofs.DueSince.{damaged_since, fault_since}
use Rattle.pdb_pipe.specs.Faults.{IsDamaged}
use Rattle.pdb_pipe.proofs.keeping.DatabaseKeeper.node.Goals as goal

pub returns-clause-stands : goal.returns-clause-stands
returns-clause-stands g c = kept_stands g.D.Disk.tells g.D.Disk.clock g.D.Disk.past g.D.Disk.fault_count c.args.self.now c.find_node.new.self c.find_node.ensures.keeps

pub returns-clause-later : goal.returns-clause-later
returns-clause-later g c commits s = kept_later g.D.Disk.tells g.D.Disk.clock g.D.Disk.past g.D.Disk.fault_count c.args.self.now c.find_node.new.self c.find_node.ensures.keeps commits

pub returns-clause-after : goal.returns-clause-after
returns-clause-after g c = kept_after g.D.Disk.tells g.D.Disk.clock g.D.Disk.past g.D.Disk.fault_count c.args.self.now c.find_node.new.self c.find_node.ensures.keeps

pub returns-clause-pipeline : goal.returns-clause-pipeline
returns-clause-pipeline g c = kept_pipeline g.D.Disk.tells g.D.Disk.clock g.D.Disk.past g.D.Disk.fault_count c.args.self.now c.find_node.new.self c.find_node.ensures.keeps

pub returns-clause-outside : goal.returns-clause-outside
returns-clause-outside g c =
    kept_outside g.D.Disk.tells g.D.Disk.clock g.D.Disk.past g.D.Disk.fault_count
    c.args.self.now c.find_node.new.self c.find_node.ensures.keeps

pub returns-clause-cause : goal.returns-clause-cause
returns-clause-cause g c =
    fault_since c.find_node.result (IsDamaged g.D.Disk.tells g.D.Disk.clock g.D.Disk.past c.args.self.now 0)
    (IsDamaged g.D.Disk.tells g.D.Disk.clock g.D.Disk.past c.find_node.new.self 0)
    (damaged_since g.D.Disk.tells g.D.Disk.clock g.D.Disk.past g.D.Disk.fault_count
    c.args.self.now c.find_node.new.self c.find_node.ensures.keeps 0)
    c.find_node.ensures.damage
