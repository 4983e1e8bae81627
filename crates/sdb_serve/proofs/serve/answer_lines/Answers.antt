use Rattle.std.proofs.Common.{◌≤◌, length, ◌∙◌, sym, arith, refl}
use Rattle.std.proofs.lemmas.List.Edits.{length-between}
use Rattle.std.proofs.lemmas.Result.{err_from_is_err_and}
use Rattle.sdb_serve.proofs.Lines.{clear_front, line_clear, rest_clear}
use Rattle.sdb_serve.proofs.Chunks.{begins}
use Rattle.sdb_serve.proofs.DiskCounts.{counts_err, goes_nowhere, none_counted}
use Rattle.sdb_serve.proofs.Running.{piece_goes_on, piece_stops}
use Rattle.sdb_serve.proofs.serve.answer_lines.Goals as goal

pub lines-init : goal.lines-init
lines-init g c = record {
  order = omega arith;
  past_from = omega arith;
  within = c.requires.within;
  clear = λ clear. clear_front c.args.piece.now c.args.from c.requires.within clear;
  answered = λ given input rest r clear at.
      begins g.D.Disk.tells g.D.Disk.clock g.D.Disk.past given c.args.piece.now rest r input c.args.session.now _ at;
  goes_on = λ given. goes_nowhere g.D.Disk.tells g.D.Disk.clock g.D.Disk.past given g.D.Disk.fault_count c.args.session.now;
  read = omega arith;
  counted = refl;
}

pub lines-preserved : goal.lines-preserved
lines-preserved g c =
    let found = c.in-Some.ensures in
    let done = c.in_ok-answer_line.ensures in
    let piece = c.args.piece.now in record {
      order = omega arith;
      past_from = omega (arith, found.0, c.lines.invariant.past_from);
      within = omega (arith, found.1);
      clear = λ clear k low lt. absurd (omega arith);
      answered = λ given input rest r clear at.
          let start = c.lines.start in
          let end = c.in-Some.end in
          let within : end ≤ length piece = omega (arith, found.1) in
          let line = line_clear piece start c.lines.seek end found.0 within (c.lines.invariant.clear clear) found.3 in
          piece_goes_on g.D.Disk.tells g.D.Disk.clock g.D.Disk.past given start end piece rest r input c.lines.session
          c.answer_line.new.session _ _ _ (omega (arith, found.0)) found.1 found.2 line
          (c.lines.invariant.answered given input rest r clear at) (done.answered given) done.lines;
      goes_on = λ given a h.
          let was = c.lines.invariant.goes_on given a h in
          let line = done.answered given was.0 was.1 in
          (line.1, line.3, (done.disk given was.0 was.1).1 (λ e. cc) ∙ was.2);
      read = omega (arith, done.read, length-between piece c.lines.start c.in-Some.end (omega (arith, found.1)), found.0, found.1);
      counted = done.counted.1 (λ e. cc) ∙ c.lines.invariant.counted;
    }

pub returns-in_err-answer_line-clause-stopped : goal.returns-in_err-answer_line-clause-stopped
returns-in_err-answer_line-clause-stopped g c =
    let p = err_from_is_err_and c.from_residual.result c.from_residual.ensures.1 in
    let found = c.in-Some.ensures in
    let piece = c.args.piece.now in
    rw (p.1, p.2) (λ given input rest r clear at.
    let start = c.lines.start in
    let end = c.in-Some.end in
    let within : end ≤ length piece = omega (arith, found.1) in
    let line = line_clear piece start c.lines.seek end found.0 within (c.lines.invariant.clear clear) found.3 in
    piece_stops g.D.Disk.tells g.D.Disk.clock g.D.Disk.past given _ c.args.from start end piece rest r input c.lines.session
    c.answer_line.new.session _ _ _ (omega (arith, found.0)) (omega (arith, found.0, c.lines.invariant.past_from)) found.1
    c.requires.near.0 c.requires.near.1 found.2 line (c.lines.invariant.answered given input rest r clear at)
    (c.in_err-answer_line.ensures.stopped given) c.in_err-answer_line.ensures.same_lines)

pub returns-in_err-answer_line-clause-disk : goal.returns-in_err-answer_line-clause-disk
returns-in_err-answer_line-clause-disk g c =
    let p = err_from_is_err_and c.from_residual.result c.from_residual.ensures.1 in
    rw (p.1, p.2) (λ given a h.
    let was = c.lines.invariant.goes_on given a h in
    rw (sym was.2) (counts_err _ _ _ _ (c.in_err-answer_line.ensures.disk given was.0 was.1)))

pub returns-clause-disk : goal.returns-clause-disk
returns-clause-disk g c = λ given a h. none_counted _ _ _ (λ e. cc) (c.lines.invariant.goes_on given a h).2

pub returns-clause-none_left : goal.returns-clause-none_left
returns-clause-none_left g c = λ clear.
    rest_clear c.args.piece.now c.lines.start c.lines.seek (omega arith) (omega arith) (c.lines.invariant.clear clear) c.in_default.ensures
