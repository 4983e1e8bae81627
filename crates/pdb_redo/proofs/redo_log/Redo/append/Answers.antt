use Rattle.std.proofs.Common.{◌≡◌, ◌+◌, ◌++◌, ◌∷◌, [], length, refl, ap, subst, arith, ◌∙◌}
use Rattle.std.specs.Prelude.{List, Result, Err, ℕ}
use Rattle.std.proofs.Common.{⊎_elim}
use Rattle.std.proofs.lemmas.Bool.{cases_lt}
use Rattle.pdb_cells.specs.declared.Put.{Put}
use Rattle.pdb_disk.proofs.Calls.{no_call}
use Rattle.pdb_log.specs.declared.fault.LogFault.TheVariants as log
use Rattle.pdb_model.specs.Logs.{most_in_log}
use Rattle.pdb_log.specs.Ledger.{Ledger, appended, row_after}
use Rattle.pdb_log.specs.Standing.{IsLog, end_of_log, next_in_ring, next_record, turned, turns}
use Rattle.pdb_model.specs.Records.{Record, body_bytes, record_bytes}
use Rattle.pdb_model.specs.Recovery.{Safe}
use Rattle.pdb_record.proofs.Lengths.{record_len}
use Rattle.sdb_base.specs.declared.Counter.{Counter}
use Rattle.sdb_base.specs.declared.Counter.TheVariants.{LogBytes}
use Rattle.pdb_redo.specs.declared.fault.RedoFault.{RedoFault}
use Rattle.pdb_redo.specs.declared.fault.RedoFault.TheVariants as redo
use Rattle.pdb_redo.specs.Standing.{IsStanding, next_redo_record}
use Rattle.pdb_redo.proofs.Appended.{appended_redo, at_end_of, moments_as, next_same, safe_more, turned_as}
use Rattle.pdb_redo.proofs.Redos.{same_cells}
use Rattle.pdb_redo.proofs.Reached.{goes_by, reach_logged, reach_same}
use Rattle.pdb_redo.proofs.Tallies.{redo_appends}
use Rattle.pdb_redo.proofs.redo_log.Redo.append.Goals as goal

same_end : (which : Counter) → ◌≡◌ {A = Result ℕ RedoFault} (Err (redo.NumbersEnd which)) (Err (redo.NumbersEnd LogBytes)) → which ≡ LogBytes
same_end which e = cc

pub returns-then-self-clause-any_moment : goal.returns-then-self-clause-any_moment
returns-then-self-clause-any_moment g c rows f row is there = no_call _ _ (Safe _ f) (safe_more g.D.Disk.tells g.D.Disk.clock g.D.Disk.past c.args.self.now rows f is _)

pub returns-then-not-is_short-clause-any_moment : goal.returns-then-not-is_short-clause-any_moment
returns-then-not-is_short-clause-any_moment g c rows f row is there = no_call _ _ (Safe _ f) (safe_more g.D.Disk.tells g.D.Disk.clock g.D.Disk.past c.args.self.now rows f is _)

pub returns-then-not-is_short-clause-bytes_end : goal.returns-then-not-is_short-clause-bytes_end
returns-then-not-is_short-clause-bytes_end g c e =
    let r : Record = next_redo_record c.args.self.now c.args.commits c.args.puts in
    let short : length (record_bytes r) ≡ 56 + length (body_bytes c.args.puts) = record_len r in
    let same = ap (λ (ps : List Put). length (body_bytes ps)) c.as_slice.ensures in
    ⊎_elim
    (λ long. omega (arith, short, long, same))
    (λ le. let t = c.if-not-is_short.ensures.1 le in cc)
    (cases_lt 4611686018427387904 (length (body_bytes c.as_slice.result.now)))

pub invariant_of-self : goal.invariant_of-self
invariant_of-self g c = record {
  whole = rw c.make_room.ensures.same c.args.self.now.whole;
  last = rw c.make_room.ensures.same c.args.self.now.last;
  marked = rw c.make_room.ensures.same c.args.self.now.marked;
}

pub returns-in_err-make_room-clause-any_moment : goal.returns-in_err-make_room-clause-any_moment
returns-in_err-make_room-clause-any_moment g c rows f row is there = no_call _ _ (Safe _ f) (safe_more g.D.Disk.tells g.D.Disk.clock g.D.Disk.past c.args.self.now rows f is _)

pub invariant_of-self-in-Ok : goal.invariant_of-self-in-Ok
invariant_of-self-in-Ok g c = record {
  whole = rw c.make_room.ensures.same c.args.self.now.whole;
  last = rw c.make_room.ensures.same c.args.self.now.last;
  marked = rw c.make_room.ensures.same c.args.self.now.marked;
}

pub returns-in-Ok-clause-appended : goal.returns-in-Ok-clause-appended
returns-in-Ok-clause-appended g c rows f row is there =
    let r : Record = next_record c.args.self.now.log c.args.commits c.args.puts in
    let l : Ledger = appended is.0 c.args.self.now.log.file.number r in
    let at = at_end_of g.D.Disk.tells g.D.Disk.clock g.D.Disk.past c.args.self.now rows f is row there in
    let e = next_same g.D.Disk.tells g.D.Disk.clock g.D.Disk.past c.args.self.now rows f is c.args.commits c.args.puts in
    let told = is.1.log.told in
    subst (λ (q : Record). IsStanding g.D.Disk.tells g.D.Disk.clock g.D.Disk.past c.add_waiting.new.self (rows ++ row_after row q ∷ []) f) e (
      _,
      appended_redo g.D.Disk.tells g.D.Disk.clock g.D.Disk.past c.args.self.now c.add_waiting.new.self is.0 (turned c.append.new.self l).segments rows f row r is.1 at
          (λ j high. rw (c.add_waiting.ensures.log, c.rotate.ensures.disk) (c.append.ensures.aside.cells told j high))
          (c.add_waiting.ensures.waiting ∙ rw (c.make_room.ensures.same, e) refl)
          c.add_waiting.ensures.heads
          (rw c.add_waiting.ensures.log (subst (λ (m : Ledger). IsLog g.D.Disk.tells g.D.Disk.clock g.D.Disk.past c.rotate.new.self m (rows ++ row_after row r ∷ []) f)
          (turned_as (turns c.append.new.self) l (next_in_ring c.append.new.self.file.number) (c.append.new.self.number + 1))
          (c.rotate.ensures.turned l _ f (c.in-Ok.ensures.appended is.0 rows f row is.1.log at))))
          c.add_waiting.ensures.appended c.add_waiting.ensures.marks.0 c.add_waiting.ensures.marks.1 c.add_waiting.ensures.files c.add_waiting.ensures.stopped,
    )

pub returns-in-Ok-clause-any_moment : goal.returns-in-Ok-clause-any_moment
returns-in-Ok-clause-any_moment g c rows f row is there = moments_as g.D.Disk.tells g.D.Disk.clock g.D.Disk.past c.args.self.now rows f is c.add_waiting.new.self.log.disk row c.args.commits c.args.puts
    (rw (c.add_waiting.ensures.log, c.rotate.ensures.disk) (c.append.ensures.any_moment is.0 rows f row is.1.log (at_end_of g.D.Disk.tells g.D.Disk.clock g.D.Disk.past c.args.self.now rows f is row there)))

pub returns-in-Ok-clause-fits : goal.returns-in-Ok-clause-fits
returns-in-Ok-clause-fits g c =
    let r : Record = next_redo_record c.args.self.now c.args.commits c.args.puts in
    let s : Record = next_record c.args.self.now.log c.args.commits c.args.puts in
    let one : length (record_bytes r) ≡ 56 + length (body_bytes c.args.puts) = record_len r in
    let two : length (record_bytes s) ≡ 56 + length (body_bytes c.args.puts) = record_len s in
    ⊎_elim
    (λ less. let t = c.in-Ok.ensures.bytes_end.1 ((λ m. let u = c.in-Ok.ensures.records_end.1 m in cc), less) in cc)
    (λ le. omega (arith, one, two, le))
    (cases_lt most_in_log (end_of_log c.args.self.now.log + length (record_bytes s)))

pub invariant_of-self-in-Err-1 : goal.invariant_of-self-in-Err-1
invariant_of-self-in-Err-1 g c = record {
  whole = rw c.make_room.ensures.same c.args.self.now.whole;
  last = rw c.make_room.ensures.same c.args.self.now.last;
  marked = rw c.make_room.ensures.same c.args.self.now.marked;
}

pub returns-in-Err-OutOfMemory-clause-any_moment : goal.returns-in-Err-OutOfMemory-clause-any_moment
returns-in-Err-OutOfMemory-clause-any_moment g c rows f row is there = moments_as g.D.Disk.tells g.D.Disk.clock g.D.Disk.past c.args.self.now rows f is c.append.new.self.disk row c.args.commits c.args.puts
    (c.append.ensures.any_moment is.0 rows f row is.1.log (at_end_of g.D.Disk.tells g.D.Disk.clock g.D.Disk.past c.args.self.now rows f is row there))

pub returns-in-Err-NumbersEnd-clause-any_moment : goal.returns-in-Err-NumbersEnd-clause-any_moment
returns-in-Err-NumbersEnd-clause-any_moment g c rows f row is there = moments_as g.D.Disk.tells g.D.Disk.clock g.D.Disk.past c.args.self.now rows f is c.append.new.self.disk row c.args.commits c.args.puts
    (c.append.ensures.any_moment is.0 rows f row is.1.log (at_end_of g.D.Disk.tells g.D.Disk.clock g.D.Disk.past c.args.self.now rows f is row there))

pub returns-in-Err-NumbersEnd-clause-bytes_end : goal.returns-in-Err-NumbersEnd-clause-bytes_end
returns-in-Err-NumbersEnd-clause-bytes_end g c e =
    let r : Record = next_redo_record c.args.self.now c.args.commits c.args.puts in
    let s : Record = next_record c.args.self.now.log c.args.commits c.args.puts in
    let one : length (record_bytes r) ≡ 56 + length (body_bytes c.args.puts) = record_len r in
    let two : length (record_bytes s) ≡ 56 + length (body_bytes c.args.puts) = record_len s in
    let w : c.in-Err-NumbersEnd.which ≡ LogBytes = same_end c.in-Err-NumbersEnd.which (rw c.in-Err-NumbersEnd.field-0-is at e) in
    let high = (c.in-Err-NumbersEnd.ensures.bytes_end.0 (ap Err (c.in-Err-NumbersEnd.field-0-is ∙ ap log.NumbersEnd w))).1 in
    omega (arith, one, two, high)

pub returns-in-Err-NumbersEnd-clause-causes : goal.returns-in-Err-NumbersEnd-clause-causes
returns-in-Err-NumbersEnd-clause-causes g c = rw c.in-Err-NumbersEnd.field-0-is (c.in-Err-NumbersEnd.ensures.ends c.in-Err-NumbersEnd.which (ap Err c.in-Err-NumbersEnd.field-0-is))

pub returns-clause-any_moment : goal.returns-clause-any_moment
returns-clause-any_moment g c rows f row is there = rw c.stop.ensures.noted (moments_as g.D.Disk.tells g.D.Disk.clock g.D.Disk.past c.args.self.now rows f is c.append.new.self.disk row c.args.commits c.args.puts
    (c.append.ensures.any_moment is.0 rows f row is.1.log (at_end_of g.D.Disk.tells g.D.Disk.clock g.D.Disk.past c.args.self.now rows f is row there)))

pub returns-clause-cells : goal.returns-clause-cells
returns-clause-cells g c told failed =
    same_cells g.D.Disk.tells g.D.Disk.clock g.D.Disk.past c.args.self.now c.stop.new.self (rw c.stop.ensures.noted refl) (rw c.stop.ensures.noted c.make_room.ensures.same)
    (λ j high. rw c.stop.ensures.noted (c.append.ensures.aside.cells told j high))

pub returns-in-Ok-clause-reach : goal.returns-in-Ok-clause-reach
returns-in-Ok-clause-reach g c =
    reach_logged c.args.self.now c.add_waiting.new.self (record { number = c.args.self.now.appended.number + 1; commits = c.args.commits }) (next_redo_record c.args.self.now c.args.commits c.args.puts)
    c.add_waiting.ensures.appended c.add_waiting.ensures.marks.0 c.add_waiting.ensures.marks.1 (c.add_waiting.ensures.waiting ∙ rw c.make_room.ensures.same refl) refl

pub returns-in-Ok-clause-goes_on : goal.returns-in-Ok-clause-goes_on
returns-in-Ok-clause-goes_on g c =
    goes_by g.D.Disk.clock g.D.Disk.past c.args.self.now c.add_waiting.new.self (rw (c.add_waiting.ensures.log, c.rotate.ensures.disk) c.append.ensures.goes_on) c.add_waiting.ensures.reads

pub returns-in-Err-OutOfMemory-clause-reach : goal.returns-in-Err-OutOfMemory-clause-reach
returns-in-Err-OutOfMemory-clause-reach g c = rw c.make_room.ensures.same refl

pub returns-in-Err-NumbersEnd-clause-reach : goal.returns-in-Err-NumbersEnd-clause-reach
returns-in-Err-NumbersEnd-clause-reach g c = rw c.make_room.ensures.same refl

pub returns-clause-reach : goal.returns-clause-reach
returns-clause-reach g c =
    reach_same c.args.self.now c.stop.new.self (rw c.stop.ensures.noted refl) (rw c.stop.ensures.noted refl) (rw c.stop.ensures.noted refl) (rw c.stop.ensures.noted c.make_room.ensures.same)

pub returns-clause-goes_on : goal.returns-clause-goes_on
returns-clause-goes_on g c =
    goes_by g.D.Disk.clock g.D.Disk.past c.args.self.now c.stop.new.self (rw c.stop.ensures.noted c.append.ensures.goes_on) (rw c.stop.ensures.noted refl)

pub returns-in-Ok-clause-tally : goal.returns-in-Ok-clause-tally
returns-in-Ok-clause-tally g c t is =
    redo_appends c.args.self.now t is c.rotate.new.self c.add_waiting.new.self c.args.commits c.args.puts
    (c.rotate.ensures.tally _ (c.in-Ok.ensures.tally t is.log)) c.add_waiting.ensures.log c.add_waiting.ensures.appended
