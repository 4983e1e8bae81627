use Rattle.std.proofs.Common.{refl, subst, arith}
use Rattle.pdb_log.specs.Ledger.{files_synced, records_flushed}
use Rattle.pdb_redo.specs.Standing.{IsStanding}
use Rattle.pdb_redo.proofs.Redos.{at_last, flushed_redo, last_commits, same_cells}
use Rattle.pdb_redo.proofs.Reached.{goes_by, reach_flushed}
use Rattle.pdb_redo.proofs.Tallies.{redo_tally}
use Rattle.pdb_redo.proofs.redo_log.Redo.flush.Goals as goal

pub returns-in-Ok-clause-flushed : goal.returns-in-Ok-clause-flushed
returns-in-Ok-clause-flushed g c rows f is =
    subst (IsStanding g.D.Disk.tells g.D.Disk.clock g.D.Disk.past _ rows) (at_last g.D.Disk.tells g.D.Disk.clock g.D.Disk.past c.args.self.now is.0 rows f is.1) (
      records_flushed (files_synced is.0),
      flushed_redo g.D.Disk.tells g.D.Disk.clock g.D.Disk.past c.args.self.now _ is.0 rows f is.1 (c.flush.ensures.aside.cells is.1.log.told) refl refl refl refl refl
          (c.in-Ok.ensures.flushed is.0 rows f is.1.log) refl refl,
    )

pub returns-in-Ok-clause-any_moment : goal.returns-in-Ok-clause-any_moment
returns-in-Ok-clause-any_moment g c rows f is = c.flush.ensures.any_moment is.0 rows f is.1.log

pub returns-in-Ok-clause-answer : goal.returns-in-Ok-clause-answer
returns-in-Ok-clause-answer g c rows f row is there =
    last_commits g.D.Disk.tells g.D.Disk.clock g.D.Disk.past c.args.self.now rows f row is there

pub returns-in-Err-clause-any_moment : goal.returns-in-Err-clause-any_moment
returns-in-Err-clause-any_moment g c rows f is =
    rw c.stop.ensures.noted (c.flush.ensures.any_moment is.0 rows f is.1.log)

pub returns-in-Err-clause-cells : goal.returns-in-Err-clause-cells
returns-in-Err-clause-cells g c told failed =
    same_cells g.D.Disk.tells g.D.Disk.clock g.D.Disk.past c.args.self.now c.stop.new.self (rw c.stop.ensures.noted refl) (rw c.stop.ensures.noted refl)
    (λ j high. rw c.stop.ensures.noted (c.flush.ensures.aside.cells told j high))

pub returns-in-Ok-clause-reach : goal.returns-in-Ok-clause-reach
returns-in-Ok-clause-reach g c = (refl, reach_flushed c.args.self.now)

pub returns-in-Ok-clause-goes_on : goal.returns-in-Ok-clause-goes_on
returns-in-Ok-clause-goes_on g c = record { later = c.flush.ensures.goes_on.later; earlier = c.flush.ensures.goes_on.earlier; reads = omega arith }

pub returns-in-Err-clause-reach : goal.returns-in-Err-clause-reach
returns-in-Err-clause-reach g c = rw c.stop.ensures.noted refl

pub returns-in-Err-clause-goes_on : goal.returns-in-Err-clause-goes_on
returns-in-Err-clause-goes_on g c =
    goes_by g.D.Disk.clock g.D.Disk.past c.args.self.now c.stop.new.self (rw c.stop.ensures.noted c.flush.ensures.goes_on) (rw c.stop.ensures.noted refl)

pub returns-in-Err-clause-tally : goal.returns-in-Err-clause-tally
returns-in-Err-clause-tally g c t is =
    redo_tally c.args.self.now t is c.stop.new.self t refl (rw c.stop.ensures.noted (c.flush.ensures.tally t is.log)) (rw c.stop.ensures.noted refl)

pub returns-in-Ok-clause-tally : goal.returns-in-Ok-clause-tally
returns-in-Ok-clause-tally g c t is = redo_tally c.args.self.now t is _ t refl (c.flush.ensures.tally t is.log) refl
