use Rattle.std.proofs.Common.{List, Some, sym, subst, ◌∙◌}
use Rattle.sdb_script.specs.declared.Line.TheVariants as lines
use Rattle.sdb_script.specs.declared.LineReply.TheVariants as replies
use Rattle.sdb_serve.specs.inner.Steps.{HasAnswered}
use Rattle.sdb_serve.specs.declared.outcome.Mark.{Mark}
use Rattle.sdb_serve.specs.declared.session.Session.{Session}
use Rattle.sdb_serve.proofs.StepMarks.{a_flush, no_flush}
use Rattle.sdb_serve.proofs.session.Session.step.Goals as goal
use Rattle.sdb_serve.proofs.session.Session.step.Goals.{in-Flushed, in_default}

pub returns-clause-answer : goal.returns-clause-answer
returns-clause-answer g c given a h =
    let tells = g.D.Disk.tells in let clock = g.D.Disk.clock in let past = g.D.Disk.past in
    let p = c.take_step.new.self in
    let said = c.match-answer.answer in
    let t = c.in_ok-answer.ensures.answer given a
    (record { window = h.window; read = h.read; lines = h.lines; time = h.time; marks = ◌∙◌ {A = List Mark} c.in_ok-reserve.ensures.items h.marks; store = h.store; tally = h.tally }) in
    elim c.match-answer.branch [
      | in-Flushed w ↦
          subst (λ (q : Session g.row.D.Denot). HasAnswered tells clock past given a (lines.Stage c.args.stage) (Some (replies.Stage said)) q) (sym w.self-is)
          (a_flush tells clock past given a c.args.stage c.in_ok-answer.answer p t w.mark.new.self said w.in-Flushed.flushed w.answer-is w.in-Flushed.is
          w.mark.ensures.rest w.mark.ensures.marked)
      | in_default w ↦
          subst (λ (q : Session g.row.D.Denot). HasAnswered tells clock past given a (lines.Stage c.args.stage) (Some (replies.Stage said)) q) (sym w.self-is)
          (no_flush tells clock past given a c.args.stage c.in_ok-answer.answer p t said w.answer-is w.in_default.not-Flushed)
    ]
