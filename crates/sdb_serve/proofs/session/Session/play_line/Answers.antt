use Rattle.std.proofs.Common.{Err, arith, inl, inr, refl, sym, ap}
use Rattle.std.proofs.lemmas.Result.{err_from_is_err_and}
use Rattle.sdb_serve.specs.Session.{reply_lines}
use Rattle.sdb_serve.proofs.Answering.{too_far}
use Rattle.sdb_serve.proofs.HeldStores.{store_read}
use Rattle.sdb_serve.proofs.LineSteps.{line_stops, parse_stops, plays, reached_after}
use Rattle.sdb_serve.proofs.session.Session.play_line.Goals as goal

pub returns-then-self-taken-gt-MOST_BYTES-clause-stops : goal.returns-then-self-taken-gt-MOST_BYTES-clause-stops
returns-then-self-taken-gt-MOST_BYTES-clause-stops g c = λ given r rest h begins. (
  λ left. (inl (c.args.line.now, rest, begins, too_far r.at.session _ (omega (arith, h.read))), inl (h.time, h.marks)),
  λ e. absurd cc,
)

pub returns-in_err-parsed-clause-stops : goal.returns-in_err-parsed-clause-stops
returns-in_err-parsed-clause-stops g c =
    let p = err_from_is_err_and c.from_residual.result c.from_residual.ensures.1 in
    rw (p.1, p.2) (λ given r rest h begins.
    parse_stops g.D.Disk.tells g.D.Disk.clock g.D.Disk.past given c.args.line.now _ c.in_err-parsed.ensures.cause
    (λ e. c.in_err-parsed.ensures.refused (ap Err e)) r rest c.args.self.now h begins)

pub returns-in_err-reply-clause-stops : goal.returns-in_err-reply-clause-stops
returns-in_err-reply-clause-stops g c =
    let p = err_from_is_err_and c.from_residual-in_err-reply.result c.from_residual-in_err-reply.ensures.1 in
    rw (p.1, p.2) (λ given r rest h begins.
    line_stops g.D.Disk.tells g.D.Disk.clock g.D.Disk.past given r c.args.line.now rest c.in_ok-parsed.parsed begins
    c.in_ok-parsed.ensures.line (omega (arith, h.read)) _ c.answer.new.self (c.in_err-reply.ensures.fails given r.at h))

pub returns-in_err-write_reply-clause-stops : goal.returns-in_err-write_reply-clause-stops
returns-in_err-write_reply-clause-stops g c =
    let p = err_from_is_err_and c.from_residual-in_err-write_reply.result c.from_residual-in_err-write_reply.ensures.1 in
    rw (p.1, p.2) (λ given r rest h begins.
    let b = c.in_ok-reply.ensures.answer given r.at h in (
      λ left. (
        tt,
        inr (
          refl,
          reply_lines c.in_ok-reply.reply,
          (
            c.args.line.now,
            rest,
            reached_after g.D.Disk.tells g.D.Disk.clock g.D.Disk.past given c.args.line.now b,
            begins,
            plays g.D.Disk.tells g.D.Disk.clock g.D.Disk.past given r.at c.args.line.now c.in_ok-parsed.parsed c.in_ok-reply.reply
                c.answer.new.self b c.in_ok-parsed.ensures.line (omega (arith, h.read)) _ refl,
            b.represents.time,
            b.represents.marks,
          ),
        ),
      ),
      λ e. absurd cc,
    ))

pub returns-clause-answer : goal.returns-clause-answer
returns-clause-answer g c = λ given a h.
    let b = c.in_ok-reply.ensures.answer given a h in (
      reached_after g.D.Disk.tells g.D.Disk.clock g.D.Disk.past given c.args.line.now b,
      plays g.D.Disk.tells g.D.Disk.clock g.D.Disk.past given a c.args.line.now c.in_ok-parsed.parsed c.in_ok-reply.reply c.answer.new.self
          b c.in_ok-parsed.ensures.line (omega (arith, h.read)) _ (sym c.in_ok-write_reply.ensures),
      record {
        window = b.represents.window;
        read = omega (arith, h.read, c.in_ok-reply.ensures.lines.1);
        lines = omega (arith, h.lines, c.in_ok-reply.ensures.lines.0);
        time = b.represents.time;
        marks = b.represents.marks;
        tally = b.represents.tally;
        store = store_read g.D.Disk.tells g.D.Disk.clock g.D.Disk.past given _ _ b.next _ b.represents.store;
      },
    )
