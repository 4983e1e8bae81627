use Rattle.std.proofs.Common.{None, Ok, refl, arith}
use Rattle.pdb_pipe.proofs.LookStands.{are_seen, damage_of, node_of}
use Rattle.pdb_pipe.proofs.database.Database.find_node.Goals as goal

pub returns-in-Bytes-clause-answer : goal.returns-in-Bytes-clause-answer
returns-in-Bytes-clause-answer g c commits s alike =
    node_of g.D.Disk.tells g.D.Disk.clock g.D.Disk.past c.args.self.now c.copied.result c.args.key.now.0 _ c.in-Bytes.ensures commits s c.copied.ensures.ok alike

pub returns-in-Erased-clause-answer : goal.returns-in-Erased-clause-answer
returns-in-Erased-clause-answer g c commits s alike =
    node_of g.D.Disk.tells g.D.Disk.clock g.D.Disk.past c.args.self.now (Ok None) c.args.key.now.0 _ c.in-Erased.ensures commits s refl alike

pub returns-in-Silent-clause-answer : goal.returns-in-Silent-clause-answer
returns-in-Silent-clause-answer g c commits s alike =
    let seen = are_seen g.D.Disk.tells g.D.Disk.clock g.D.Disk.past c.args.self.now 0 (omega arith) commits s in
    node_of g.D.Disk.tells g.D.Disk.clock g.D.Disk.past c.args.self.now c.value_under.result c.args.key.now.0 _ c.in-Silent.ensures commits s
    (c.value_under.ensures.found seen.cells seen.base _ seen.seen_as seen.holds) alike

pub returns-in-Silent-clause-damage : goal.returns-in-Silent-clause-damage
returns-in-Silent-clause-damage g c =
    damage_of g.D.Disk.tells g.D.Disk.clock g.D.Disk.past c.args.self.now c.value_under.result 0 (omega arith) c.value_under.ensures.cause
    (λ content seen. c.value_under.ensures.sound seen.cells seen.base content seen.seen_as seen.holds)
