use Rattle.std.proofs.Common.{◌≤◌, ℕ, Option, refl, ap, arith}
use Rattle.pdb_redo.specs.Answers.{is_redo_disk}
use Rattle.pdb_redo.specs.Reaches.{Reach, reach_of}
use Rattle.pdb_pipe.proofs.StageAfter.{comes_by, comes_with, logged_stays, refuses}
use Rattle.pdb_pipe.proofs.StageCauses.{not_running}
use Rattle.pdb_pipe.proofs.StageStands.{rows_alike, stands_on}
use Rattle.pdb_pipe.proofs.staging.DatabaseStages.enact.Goals as goal

pub returns-in-Ok-clause-stands : goal.returns-in-Ok-clause-stands
returns-in-Ok-clause-stands g c commits s =
    stands_on g.D.Disk.tells g.D.Disk.clock g.D.Disk.past c.args.self.now _ refl refl
    (logged_stays c.in-Ok.commits (reach_of c.args.self.now.redo) (reach_of c.enact.new.self) c.in-Ok.ensures.reach) c.enact.ensures.told commits s
    (λ rows f is. let now = c.in-Ok.ensures.enacted rows f is in
    (rows_alike g.D.Disk.tells g.D.Disk.clock g.D.Disk.past c.args.self.now.redo c.enact.new.self rows f f is now, λ none. (rows, f, now)))
    (λ call e. let p = (c.in-Ok.ensures.stopped call e).0 in absurd (cc))

pub returns-in-Err-clause-stands : goal.returns-in-Err-clause-stands
returns-in-Err-clause-stands g c commits s =
    stands_on g.D.Disk.tells g.D.Disk.clock g.D.Disk.past c.args.self.now _ refl refl (ap (λ (r : Reach). r.logged) c.in-Err.ensures.reach) c.enact.ensures.told commits s
    (λ rows f is. (
      c.in-Err.ensures.cells rows f is refl,
      λ none. absurd (not_running (Option ℕ) c.args.self.now.redo.stopped c.enact.new.self.stopped (g.D.Disk.clock c.enact.new.self.log.disk) c.in-Err.fault
          (refuses (Option ℕ) c.args.self.now.redo c.enact.new.self (g.D.Disk.clock c.enact.new.self.log.disk) c.in-Err.fault c.in-Err.ensures.stops c.in-Err.ensures.stopped) c.in-Err.ensures.causes none),
    ))
    (λ call e. (c.in-Err.ensures.stopped call e).1)

pub returns-in-Err-clause-after : goal.returns-in-Err-clause-after
returns-in-Err-clause-after g c =
    let flushed : (reach_of c.args.self.now.redo).flushed ≤ (reach_of c.enact.new.self).flushed = (let r = ap (λ (r : Reach). r.flushed) c.in-Err.ensures.reach in omega (arith, r)) in
    comes_by g.D.Disk.clock g.D.Disk.past g.D.Disk.fault_count c.args.self.now _ (is_redo_disk c.in-Err.fault) (omega (arith, c.faults-faults.ensures)) c.in-Err.ensures.counted c.enact.ensures.goes_on flushed

pub returns-in-Err-clause-later : goal.returns-in-Err-clause-later
returns-in-Err-clause-later g c commits s = comes_with g.D.Disk.clock g.D.Disk.past g.D.Disk.fault_count c.args.self.now _ commits (returns-in-Err-clause-after g c)
