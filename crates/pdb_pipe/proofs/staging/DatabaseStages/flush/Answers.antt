use Rattle.std.proofs.Common.{◌≤◌, ℕ, ◌-◌, false, length, refl, ap, arith}
use Rattle.pdb_redo.specs.Reaches.{Reach, reach_of}
use Rattle.pdb_redo.proofs.Kept.{standing_tells}
use Rattle.pdb_redo.specs.Answers.{is_redo_disk}
use Rattle.pdb_pipe.proofs.StageAfter.{comes_by, comes_with, refuses}
use Rattle.pdb_pipe.proofs.StageCauses.{not_running}
use Rattle.pdb_pipe.proofs.StageOrder.{rise_in_order}
use Rattle.pdb_pipe.proofs.StageStands.{rows_alike, stands_on}
use Rattle.pdb_pipe.proofs.staging.DatabaseStages.flush.Goals as goal

pub returns-in-Ok-clause-stands : goal.returns-in-Ok-clause-stands
returns-in-Ok-clause-stands g c commits s =
    stands_on g.D.Disk.tells g.D.Disk.clock g.D.Disk.past c.args.self.now _ refl refl (ap (λ (r : Reach). r.logged) c.in-Ok.ensures.reach.1) c.flush.ensures.told commits s
    (λ rows f is. let now = c.in-Ok.ensures.flushed rows f is in
    (rows_alike g.D.Disk.tells g.D.Disk.clock g.D.Disk.past c.args.self.now.redo c.flush.new.self rows f (length rows - 1) is now, λ none. (rows, length rows - 1, now)))
    (λ call e. let p = (c.in-Ok.ensures.stopped call e).0 in absurd (cc))

pub returns-in-Ok-clause-after : goal.returns-in-Ok-clause-after
returns-in-Ok-clause-after g c =
    let flushed : (reach_of c.args.self.now.redo).flushed ≤ (reach_of c.flush.new.self).flushed =
    (let r = ap (λ (r : Reach). r.flushed) c.in-Ok.ensures.reach.1 in let o = (rise_in_order (reach_of c.args.self.now.redo) c.args.self.now.cleaned c.args.self.now.in_order).logged in omega (arith, r, o)) in
    comes_by g.D.Disk.clock g.D.Disk.past g.D.Disk.fault_count c.args.self.now _ false (omega (arith, c.faults-faults.ensures)) c.in-Ok.ensures.counted c.flush.ensures.goes_on flushed

pub returns-in-Ok-clause-later : goal.returns-in-Ok-clause-later
returns-in-Ok-clause-later g c commits s = comes_with g.D.Disk.clock g.D.Disk.past g.D.Disk.fault_count c.args.self.now _ commits (returns-in-Ok-clause-after g c)

pub returns-in-Err-clause-stands : goal.returns-in-Err-clause-stands
returns-in-Err-clause-stands g c commits s =
    stands_on g.D.Disk.tells g.D.Disk.clock g.D.Disk.past c.args.self.now _ refl refl (ap (λ (r : Reach). r.logged) c.in-Err.ensures.reach) c.flush.ensures.told commits s
    (λ rows f is. (
      c.in-Err.ensures.cells (standing_tells g.D.Disk.tells g.D.Disk.clock g.D.Disk.past c.args.self.now.redo rows f is) refl,
      λ none. absurd (not_running ℕ c.args.self.now.redo.stopped c.flush.new.self.stopped (g.D.Disk.clock c.flush.new.self.log.disk) c.in-Err.fault
          (refuses ℕ c.args.self.now.redo c.flush.new.self (g.D.Disk.clock c.flush.new.self.log.disk) c.in-Err.fault c.in-Err.ensures.stops c.in-Err.ensures.stopped) c.in-Err.ensures.causes none),
    ))
    (λ call e. (c.in-Err.ensures.stopped call e).1)

pub returns-in-Err-clause-after : goal.returns-in-Err-clause-after
returns-in-Err-clause-after g c =
    let flushed : (reach_of c.args.self.now.redo).flushed ≤ (reach_of c.flush.new.self).flushed = (let r = ap (λ (r : Reach). r.flushed) c.in-Err.ensures.reach in omega (arith, r)) in
    comes_by g.D.Disk.clock g.D.Disk.past g.D.Disk.fault_count c.args.self.now _ (is_redo_disk c.in-Err.fault) (omega (arith, c.faults-faults.ensures)) c.in-Err.ensures.counted c.flush.ensures.goes_on flushed

pub returns-in-Err-clause-later : goal.returns-in-Err-clause-later
returns-in-Err-clause-later g c commits s = comes_with g.D.Disk.clock g.D.Disk.past g.D.Disk.fault_count c.args.self.now _ commits (returns-in-Err-clause-after g c)
