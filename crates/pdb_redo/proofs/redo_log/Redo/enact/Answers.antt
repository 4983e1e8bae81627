use Rattle.std.proofs.Common.{List, All, refl, arith, sym, subst}
use Rattle.pdb_disk.proofs.Calls.{no_call}
use Rattle.pdb_model.specs.Records.{Record}
use Rattle.pdb_model.specs.Recovery.{Safe}
use Rattle.pdb_cells.specs.Puts.{IsWholeCell}
use Rattle.pdb_cells.specs.declared.Put.{Put}
use Rattle.pdb_redo.specs.Backlogs.{records_in}
use Rattle.pdb_redo.specs.inner.Carrying.{AreMarked, EndAt, HaveWholeCells}
use Rattle.pdb_redo.specs.inner.Writing.{AreDone, WritesAll}
use Rattle.pdb_redo.specs.Places.{record_of}
use Rattle.pdb_redo.proofs.Appended.{safe_now_of}
use Rattle.pdb_redo.proofs.Carried.{carries_rest, first_is, first_whole, rest_ends}
use Rattle.pdb_redo.proofs.Enacted.{enacted_redo, is_flushed, same_while_written, waits_somewhere}
use Rattle.pdb_redo.proofs.Marked.{marked_rest}
use Rattle.pdb_redo.proofs.Reached.{goes_by, reach_done, reach_enacted, reach_idle}
use Rattle.pdb_log.proofs.Tallies.{tally_beside}
use Rattle.pdb_redo.proofs.Tallies.{redo_tally}
use Rattle.pdb_redo.proofs.redo_log.Redo.enact.Goals as goal

pub returns-then-self-clause-any_moment : goal.returns-then-self-clause-any_moment
returns-then-self-clause-any_moment g c rows f is = no_call _ _ (Safe rows f) (safe_now_of g.D.Disk.tells g.D.Disk.clock g.D.Disk.past c.args.self.now rows f is)

pub returns-in_default-first-clause-any_moment : goal.returns-in_default-first-clause-any_moment
returns-in_default-first-clause-any_moment g c rows f is = no_call _ _ (Safe rows f) (safe_now_of g.D.Disk.tells g.D.Disk.clock g.D.Disk.past c.args.self.now rows f is)

pub returns-in_default-first-clause-answer : goal.returns-in_default-first-clause-answer
returns-in_default-first-clause-answer g c rows f is = absurd (waits_somewhere g.D.Disk.tells g.D.Disk.clock g.D.Disk.past c.args.self.now is.0 rows f is.1 c.if-self.false (sym c.in_default-first.ensures))

pub write_puts-requires : goal.write_puts-requires
write_puts-requires g c =
    subst (λ (ps : List Put). All IsWholeCell ps) (sym c.as_slice.ensures) (first_whole (records_in c.args.self.now.backlog) (record_of c.in-Some-first.record.now) c.args.self.now.whole (sym c.in-Some-first.ensures))

pub invariant_of-self-in-Ok : goal.invariant_of-self-in-Ok
invariant_of-self-in-Ok g c =
    let r : Record = record_of c.in-Some-first.record.now in
    let qs = first_is (records_in c.args.self.now.backlog) r (sym c.in-Some-first.ensures) in
    let left = c.pop.ensures r qs.0 qs.1 in
    record {
      whole = subst (λ (rs : List Record). HaveWholeCells rs) (sym left) (carries_rest r qs.0 (subst (λ (rs : List Record). HaveWholeCells rs) qs.1 c.args.self.now.whole));
      last = subst (λ (rs : List Record). EndAt rs c.args.self.now.appended.number) (sym left) (rest_ends r qs.0 c.args.self.now.appended.number (subst (λ (rs : List Record). EndAt rs c.args.self.now.appended.number) qs.1 c.args.self.now.last));
      marked = subst (λ (rs : List Record). AreMarked r.number c.args.self.now.flushed.number c.args.self.now.appended.number rs) (sym left)
          (marked_rest c.args.self.now.enacted.number c.args.self.now.flushed.number c.args.self.now.appended.number r qs.0
          (subst (λ (rs : List Record). AreMarked c.args.self.now.enacted.number c.args.self.now.flushed.number c.args.self.now.appended.number rs) qs.1 c.args.self.now.marked) c.if-self.false);
    }

pub returns-in-Ok-clause-enacted : goal.returns-in-Ok-clause-enacted
returns-in-Ok-clause-enacted g c rows f is =
    let r : Record = record_of c.in-Some-first.record.now in
    let qs = first_is (records_in c.args.self.now.backlog) r (sym c.in-Some-first.ensures) in
    let writes = subst (λ (ps : List Put). WritesAll g.D.Disk.tells g.D.Disk.clock g.D.Disk.past ps c.args.self.now.log c.write_puts.new.log) c.as_slice.ensures c.write_puts.ensures.writes in
    let flushed = is_flushed g.D.Disk.tells g.D.Disk.clock g.D.Disk.past c.args.self.now is.0 rows f is.1 c.if-self.false r qs.0 qs.1 in
    let told = is.1.log.told in (
      is.0,
      enacted_redo g.D.Disk.tells g.D.Disk.clock g.D.Disk.past c.args.self.now is.0 rows f is.1 c.if-self.false r qs.0 qs.1 _
          (subst (λ (ps : List Put). AreDone g.D.Disk.clock g.D.Disk.past ps c.args.self.now.log c.write_puts.new.log) c.as_slice.ensures (c.in-Ok.ensures.done told))
          (c.pop.ensures r qs.0 qs.1) refl (writes.stands is.0 rows f r is.1.log flushed (λ p h. h)) (c.in-Ok.ensures.marked told) refl refl refl refl,
    )

pub returns-in-Ok-clause-any_moment : goal.returns-in-Ok-clause-any_moment
returns-in-Ok-clause-any_moment g c rows f is =
    let r : Record = record_of c.in-Some-first.record.now in
    let qs = first_is (records_in c.args.self.now.backlog) r (sym c.in-Some-first.ensures) in
    let writes = subst (λ (ps : List Put). WritesAll g.D.Disk.tells g.D.Disk.clock g.D.Disk.past ps c.args.self.now.log c.write_puts.new.log) c.as_slice.ensures c.write_puts.ensures.writes in
    let flushed = is_flushed g.D.Disk.tells g.D.Disk.clock g.D.Disk.past c.args.self.now is.0 rows f is.1 c.if-self.false r qs.0 qs.1 in
    writes.moments is.0 rows f r is.1.log flushed (λ p h. h)

pub returns-in-Err-clause-any_moment : goal.returns-in-Err-clause-any_moment
returns-in-Err-clause-any_moment g c rows f is =
    let r : Record = record_of c.in-Some-first.record.now in
    let qs = first_is (records_in c.args.self.now.backlog) r (sym c.in-Some-first.ensures) in
    let writes = subst (λ (ps : List Put). WritesAll g.D.Disk.tells g.D.Disk.clock g.D.Disk.past ps c.args.self.now.log c.write_puts.new.log) c.as_slice.ensures c.write_puts.ensures.writes in
    let flushed = is_flushed g.D.Disk.tells g.D.Disk.clock g.D.Disk.past c.args.self.now is.0 rows f is.1 c.if-self.false r qs.0 qs.1 in
    rw c.stop.ensures.noted (writes.moments is.0 rows f r is.1.log flushed (λ p h. h))

pub returns-in-Err-clause-cells : goal.returns-in-Err-clause-cells
returns-in-Err-clause-cells g c rows f is failed =
    let r : Record = record_of c.in-Some-first.record.now in
    let qs = first_is (records_in c.args.self.now.backlog) r (sym c.in-Some-first.ensures) in
    let writes = subst (λ (ps : List Put). WritesAll g.D.Disk.tells g.D.Disk.clock g.D.Disk.past ps c.args.self.now.log c.write_puts.new.log) c.as_slice.ensures c.write_puts.ensures.writes in
    same_while_written g.D.Disk.tells g.D.Disk.clock g.D.Disk.past c.args.self.now is.0 rows f is.1 c.if-self.false r qs.0 qs.1 c.stop.new.self
    (rw c.stop.ensures.noted refl) (rw c.stop.ensures.noted refl)
    (λ name none. rw c.stop.ensures.noted (writes.beside is.1.log.told name none))

pub returns-then-self-clause-reach : goal.returns-then-self-clause-reach
returns-then-self-clause-reach g c = reach_idle c.args.self.now c.if-self.true

pub returns-in_default-first-clause-reach : goal.returns-in_default-first-clause-reach
returns-in_default-first-clause-reach g c = absurd (c.if-self.false (reach_done c.args.self.now (sym c.in_default-first.ensures)))

pub returns-in-Ok-clause-reach : goal.returns-in-Ok-clause-reach
returns-in-Ok-clause-reach g c =
    let r : Record = record_of c.in-Some-first.record.now in
    let qs = first_is (records_in c.args.self.now.backlog) r (sym c.in-Some-first.ensures) in
    reach_enacted c.args.self.now (record { number = r.number; commits = r.commits }) r qs.0 (records_in c.pop.new.self) c.if-self.false qs.1 (c.pop.ensures r qs.0 qs.1) refl

pub returns-in-Ok-clause-goes_on : goal.returns-in-Ok-clause-goes_on
returns-in-Ok-clause-goes_on g c = record { later = c.write_puts.ensures.writes.goes_on.later; earlier = c.write_puts.ensures.writes.goes_on.earlier; reads = omega arith }

pub returns-in-Err-clause-reach : goal.returns-in-Err-clause-reach
returns-in-Err-clause-reach g c = rw c.stop.ensures.noted refl

pub returns-in-Err-clause-goes_on : goal.returns-in-Err-clause-goes_on
returns-in-Err-clause-goes_on g c =
    goes_by g.D.Disk.clock g.D.Disk.past c.args.self.now c.stop.new.self (rw c.stop.ensures.noted c.write_puts.ensures.writes.goes_on) (rw c.stop.ensures.noted refl)

pub returns-in-Ok-clause-tally : goal.returns-in-Ok-clause-tally
returns-in-Ok-clause-tally g c t is =
    redo_tally c.args.self.now t is _ t refl (tally_beside c.args.self.now.log t is.log c.write_puts.new.log c.write_puts.ensures.writes.rest) refl

pub returns-in-Err-clause-tally : goal.returns-in-Err-clause-tally
returns-in-Err-clause-tally g c t is =
    redo_tally c.args.self.now t is c.stop.new.self t refl
    (rw c.stop.ensures.noted (tally_beside c.args.self.now.log t is.log c.write_puts.new.log c.write_puts.ensures.writes.rest)) (rw c.stop.ensures.noted refl)
