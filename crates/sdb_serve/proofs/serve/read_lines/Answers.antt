use Rattle.std.proofs.Common.{◌≡◌, ◌∙◌, ℕ, take, drop, length, sym, ap, arith, [], Err, Some, inl, inr, refl}
use Rattle.std.proofs.lemmas.List.{length-drop}
use Rattle.sdb_serve.specs.declared.cause.Cause.{Cause}
use Rattle.sdb_serve.specs.Runs.{HasNoLineFeed}
use Rattle.sdb_serve.proofs.Answering.{nothing_in}
use Rattle.sdb_serve.proofs.DiskCounts.{counts_of, goes_further, none_counted}
use Rattle.sdb_serve.proofs.Halting.{ends, no_memory, not_ended, reading_fails, too_long}
use Rattle.sdb_serve.proofs.Chunks.{begins, chunk_halts, chunk_then}
use Rattle.sdb_serve.proofs.Lines.{clear_nothing}
use Rattle.sdb_serve.proofs.Running.{some_is}
use Rattle.sdb_serve.proofs.serve.read_lines.Goals as goal

pub chunks-preserved : goal.chunks-preserved
chunks-preserved g c =
    let more = c.in-Ok-read_more.ensures in
    let done = c.in-Ok-answer_lines.ensures in
    let front : HasNoLineFeed (take c.len-from.result c.deref.result.now) =
    rw (c.deref.ensures.value, c.len-from.ensures, more.kept) c.chunks.invariant.clear in
    record {
      room = omega (arith, more.room);
      short = omega (arith, c.len-in-chunks.ensures);
      clear = rw (c.drop_front.ensures, ← c.deref.ensures.value) (done.none_left front);
      told = λ input told.
          let was = c.chunks.invariant.told input told in (drop c.in-Ok-read_more.field-0 was.0, (more.taken was.0 was.1).0);
      answered = λ given input rest r told is at.
          let was = c.chunks.invariant.told input told in
          let n = c.in-Ok-read_more.field-0 in
          let taken = more.taken was.0 was.1 in
          let first = c.chunks.invariant.answered given input was.0 r told was.1 at in
          let rest_is : rest ≡ drop n was.0 = some_is rest (drop n was.0) (sym is ∙ taken.0) in
          rw rest_is (chunk_then g.D.Disk.tells g.D.Disk.clock g.D.Disk.past given n c.in-Ok-answer_lines.used c.chunks.pending.items
          c.read_more.new.pending.items c.deref.result.now c.drop_front.new.bytes.items was.0 r input c.chunks.session
          c.answer_lines.new.session _ _ _ first taken.1 c.deref.ensures.value
          (done.answered given input (drop n was.0) first.at front) c.drop_front.ensures);
      goes_on = λ given.
          goes_further g.D.Disk.tells g.D.Disk.clock g.D.Disk.past given g.D.Disk.fault_count _ c.chunks.session _
          (c.chunks.invariant.goes_on given) (done.goes_on given);
      source = more.counted.1 (λ e. cc) ∙ c.chunks.invariant.source;
      sink = done.counted.1 (λ e. cc) ∙ c.chunks.invariant.sink;
    }

pub returns-in-Err-clause-stopped : goal.returns-in-Err-clause-stopped
returns-in-Err-clause-stopped g c = λ given input r told at.
    let was = c.chunks.invariant.told input told in
    reading_fails g.D.Disk.tells g.D.Disk.clock g.D.Disk.past given c.in-Err.cause _ 65536 c.chunks.pending.items was.0 r input
    c.chunks.session _ _ c.in-Err.ensures.cause (c.chunks.invariant.answered given input was.0 r told was.1 at) c.chunks.invariant.clear
    (omega (arith, c.chunks.invariant.short)) (omega arith) (λ e. c.in-Err.ensures.unread was.0 was.1 (ap (λ (s : Cause). Err s) e))
    (λ e.
    let l = c.in-Err.ensures.lost was.0 was.1 (ap (λ (s : Cause). Err s) e) in (l.0, omega (arith, l.1, c.chunks.invariant.room), l.2))

pub returns-in-Err-answer_lines-clause-stopped : goal.returns-in-Err-answer_lines-clause-stopped
returns-in-Err-answer_lines-clause-stopped g c = λ given input r told at.
    let more = c.in-Ok-read_more.ensures in
    let front : HasNoLineFeed (take c.len-from.result c.deref.result.now) =
    rw (c.deref.ensures.value, c.len-from.ensures, more.kept) c.chunks.invariant.clear in
    let was = c.chunks.invariant.told input told in
    let taken = more.taken was.0 was.1 in
    let n = c.in-Ok-read_more.field-0 in
    let first = c.chunks.invariant.answered given input was.0 r told was.1 at in
    chunk_halts g.D.Disk.tells g.D.Disk.clock g.D.Disk.past given c.in-Err-answer_lines.stop _ n c.chunks.pending.items
    c.read_more.new.pending.items c.deref.result.now was.0 r input c.chunks.session c.answer_lines.new.session _ _ _ first taken.1
    c.deref.ensures.value taken.0 (c.in-Err-answer_lines.ensures.stopped given input (drop n was.0) first.at front)

pub returns-then-len-gt-MOST_IN_LINE-clause-stopped : goal.returns-then-len-gt-MOST_IN_LINE-clause-stopped
returns-then-len-gt-MOST_IN_LINE-clause-stopped g c = λ given input r told at.
    let more = c.in-Ok-read_more.ensures in
    let done = c.in-Ok-answer_lines.ensures in
    let front : HasNoLineFeed (take c.len-from.result c.deref.result.now) =
    rw (c.deref.ensures.value, c.len-from.ensures, more.kept) c.chunks.invariant.clear in
    let was = c.chunks.invariant.told input told in
    let taken = more.taken was.0 was.1 in
    let n = c.in-Ok-read_more.field-0 in
    let used = c.in-Ok-answer_lines.used in
    let first = c.chunks.invariant.answered given input was.0 r told was.1 at in
    let third = chunk_then g.D.Disk.tells g.D.Disk.clock g.D.Disk.past given n used c.chunks.pending.items c.read_more.new.pending.items
    c.deref.result.now c.drop_front.new.bytes.items was.0 r input c.chunks.session c.answer_lines.new.session _ _ _ first taken.1
    c.deref.ensures.value (done.answered given input (drop n was.0) first.at front) c.drop_front.ensures in
    let cut = length-drop used c.read_more.new.pending.items in
    too_long g.D.Disk.tells g.D.Disk.clock g.D.Disk.past given _ c.drop_front.new.bytes.items _ r input c.answer_lines.new.session _ _
    third taken.0 (rw (c.drop_front.ensures, ← c.deref.ensures.value) (done.none_left front))
    (omega (arith, ap length c.drop_front.ensures, cut, more.len, c.chunks.invariant.short, c.chunks.invariant.room))
    (omega (arith, c.len-in-chunks.ensures))

pub returns-then-len-eq0-clause-stopped : goal.returns-then-len-eq0-clause-stopped
returns-then-len-eq0-clause-stopped g c = λ given input r told at.
    let was = c.chunks.invariant.told input told in
    let end = c.in-Ok-eq0.ensures.end was.0 was.1 c.in-Ok-eq0.field-0-test in
    let none = nothing_in c.chunks.pending.items (omega (arith, c.len.ensures, c.if-len-eq0.true, c.in-Ok-eq0.ensures.len)) in
    ends g.D.Disk.tells g.D.Disk.clock g.D.Disk.past given _ c.chunks.pending.items was.0 r input c.chunks.session _ _
    (c.chunks.invariant.answered given input was.0 r told was.1 at)
    ((c.in-Ok-eq0.ensures.taken was.0 was.1).0 ∙ ap (λ (n : ℕ). Some (drop n was.0)) c.in-Ok-eq0.field-0-test)
    c.chunks.invariant.clear (omega (arith, c.chunks.invariant.short)) end none

pub returns-in-Ok-eq0-clause-stopped : goal.returns-in-Ok-eq0-clause-stopped
returns-in-Ok-eq0-clause-stopped g c = λ given input r told at.
    let was = c.chunks.invariant.told input told in
    let end = c.in-Ok-eq0.ensures.end was.0 was.1 c.in-Ok-eq0.field-0-test in
    not_ended g.D.Disk.tells g.D.Disk.clock g.D.Disk.past given _ c.chunks.pending.items was.0 r input c.chunks.session _ _
    (c.chunks.invariant.answered given input was.0 r told was.1 at)
    ((c.in-Ok-eq0.ensures.taken was.0 was.1).0 ∙ ap (λ (n : ℕ). Some (drop n was.0)) c.in-Ok-eq0.field-0-test)
    c.chunks.invariant.clear (omega (arith, c.chunks.invariant.short)) end
    (λ e. absurd (c.if-len-eq0.false (omega (arith, ap length e, c.len.ensures, c.in-Ok-eq0.field-0-test, c.in-Ok-eq0.ensures.len))))

pub returns-in_default-clause-stopped : goal.returns-in_default-clause-stopped
returns-in_default-clause-stopped g c = λ given input r told at.
    let first = begins g.D.Disk.tells g.D.Disk.clock g.D.Disk.past given [] input r input c.args.session.now _ at in
    no_memory g.D.Disk.tells g.D.Disk.clock g.D.Disk.past given _ 0 [] input r input c.args.session.now _ _ first clear_nothing
    (omega arith) (omega arith) told

-- ---- the count of the disk's faults

pub returns-then-len-eq0-clause-disk : goal.returns-then-len-eq0-clause-disk
returns-then-len-eq0-clause-disk g c = λ given a h. none_counted _ _ _ (λ e. cc) (c.chunks.invariant.goes_on given a h).2

pub returns-in-Ok-eq0-clause-disk : goal.returns-in-Ok-eq0-clause-disk
returns-in-Ok-eq0-clause-disk g c = λ given a h. none_counted _ _ _ (λ e. cc) (c.chunks.invariant.goes_on given a h).2

pub returns-in-Err-clause-disk : goal.returns-in-Err-clause-disk
returns-in-Err-clause-disk g c = λ given a h.
    none_counted _ _ _ (λ e. elim c.in-Err.ensures.cause [
      | inl s ↦ cc
      | inr m ↦ cc
    ]) (c.chunks.invariant.goes_on given a h).2

pub returns-in-Err-answer_lines-clause-disk : goal.returns-in-Err-answer_lines-clause-disk
returns-in-Err-answer_lines-clause-disk g c = λ given a h.
    let was = c.chunks.invariant.goes_on given a h in
    rw (sym was.2) (counts_of _ _ _ _ (c.in-Err-answer_lines.ensures.disk given was.0 was.1))

pub returns-then-len-gt-MOST_IN_LINE-clause-disk : goal.returns-then-len-gt-MOST_IN_LINE-clause-disk
returns-then-len-gt-MOST_IN_LINE-clause-disk g c = λ given a h.
    let was = c.chunks.invariant.goes_on given a h in
    none_counted _ _ _ (λ e. cc) ((c.in-Ok-answer_lines.ensures.goes_on given was.0 was.1).2 ∙ was.2)

pub returns-in_default-clause-disk : goal.returns-in_default-clause-disk
returns-in_default-clause-disk g c = λ given a h. none_counted _ _ _ (λ e. cc) refl
