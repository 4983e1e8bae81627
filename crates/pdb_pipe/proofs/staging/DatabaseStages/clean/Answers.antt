use Rattle.std.proofs.Common.{◌≡◌, ◌≤◌, ℕ, List, length, refl, sym, ap, subst, arith}
use Rattle.std.proofs.lemmas.List.{length-map}
use Rattle.pdb_model.specs.Records.{Record}
use Rattle.pdb_redo.specs.Answers.{is_redo_disk}
use Rattle.pdb_redo.specs.Backlogs.{records_in}
use Rattle.pdb_redo.specs.Reaches.{Reach, reach_of}
use Rattle.pdb_redo.specs.Standing.{IsStanding}
use Rattle.pdb_redo.specs.declared.redo_log.Redo.{Redo}
use Rattle.pdb_redo.proofs.Kept.{standing_runs, standing_tells}
use Rattle.pdb_pipe.proofs.StageAfter.{clean_rests, comes_by, comes_with}
use Rattle.pdb_pipe.proofs.StageStands.{by_stop, rows_alike, stands_on}
use Rattle.pdb_pipe.proofs.staging.DatabaseStages.clean.Goals as goal

pub returns-in-Ok-clause-stands : goal.returns-in-Ok-clause-stands
returns-in-Ok-clause-stands g c commits s =
    stands_on g.D.Disk.tells g.D.Disk.clock g.D.Disk.past c.args.self.now _ refl refl (ap (λ (r : Reach). r.logged) c.clean.ensures.reach) c.clean.ensures.told commits s
    (λ rows f is. let now = c.in-Ok.ensures.cleaned rows f is in
    (rows_alike g.D.Disk.tells g.D.Disk.clock g.D.Disk.past c.args.self.now.redo c.clean.new.self rows f f is now, λ none. (rows, f, now)))
    (λ call e. let p = (c.in-Ok.ensures.stopped call e).0 in absurd (cc))

pub returns-in-Ok-clause-empty : goal.returns-in-Ok-clause-empty
returns-in-Ok-clause-empty g c commits s none =
    by_stop c.args.self.now.redo.stopped
    (λ runs. let at = s.rows runs in c.in-Ok.ensures.empty at.0 at.1 at.2 all_enacted)
    (λ call e. let p = (c.in-Ok.ensures.stopped call e).0 in absurd (cc))
  where
    all_enacted : c.args.self.now.redo.enacted.number ≡ c.args.self.now.redo.appended.number
    all_enacted =
        let many = length-map (records_in c.args.self.now.redo.backlog) (λ (r : Record). r.commits) in
        let zero = ap (λ (ns : List ℕ). length ns) none in
        let count = c.args.self.now.redo.marked.1 in
        omega (arith, many, zero, count)

pub returns-in-Err-clause-stands : goal.returns-in-Err-clause-stands
returns-in-Err-clause-stands g c commits s =
    stands_on g.D.Disk.tells g.D.Disk.clock g.D.Disk.past c.args.self.now _ refl refl (ap (λ (r : Reach). r.logged) c.clean.ensures.reach) c.clean.ensures.told commits s
    (λ rows f is. (
      c.in-Err.ensures.cells (standing_tells g.D.Disk.tells g.D.Disk.clock g.D.Disk.past c.args.self.now.redo rows f is) refl,
      λ none. (
        rows,
        f,
        subst (λ (r : Redo g.row.D.Denot). IsStanding g.D.Disk.tells g.D.Disk.clock g.D.Disk.past r rows f)
            (sym (clean_rests ℕ c.args.self.now.redo c.clean.new.self (g.D.Disk.clock c.clean.new.self.log.disk) c.in-Err.fault c.in-Err.ensures.causes
            (c.in-Err.ensures.stops (standing_runs g.D.Disk.tells g.D.Disk.clock g.D.Disk.past c.args.self.now.redo rows f is)) c.in-Err.ensures.refused none)) is,
      ),
    ))
    (λ call e. (c.in-Err.ensures.stopped call e).1)

pub returns-in-Err-clause-after : goal.returns-in-Err-clause-after
returns-in-Err-clause-after g c =
    let flushed : (reach_of c.args.self.now.redo).flushed ≤ (reach_of c.clean.new.self).flushed = (let r = ap (λ (r : Reach). r.flushed) c.clean.ensures.reach in omega (arith, r)) in
    comes_by g.D.Disk.clock g.D.Disk.past g.D.Disk.fault_count c.args.self.now _ (is_redo_disk c.in-Err.fault) (omega (arith, c.faults-faults.ensures)) c.in-Err.ensures.counted c.clean.ensures.goes_on flushed

pub returns-in-Err-clause-later : goal.returns-in-Err-clause-later
returns-in-Err-clause-later g c commits s = comes_with g.D.Disk.clock g.D.Disk.past g.D.Disk.fault_count c.args.self.now _ commits (returns-in-Err-clause-after g c)
