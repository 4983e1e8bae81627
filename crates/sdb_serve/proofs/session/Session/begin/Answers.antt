use Rattle.std.proofs.Common.{Some, refl, sym, subst}
use Rattle.sdb_script.specs.declared.Line.TheVariants as lines
use Rattle.sdb_serve.specs.declared.cause.Cause.{Cause}
use Rattle.sdb_serve.proofs.Keeping.{no_value}
use Rattle.sdb_serve.proofs.NewStores.{answered_new, ends_again, ends_creating, held_after}
use Rattle.sdb_serve.proofs.StepStores.{EndsLine}
use Rattle.sdb_serve.proofs.session.Session.begin.Goals as goal

pub returns-then-is_some-clause-fails : goal.returns-then-is_some-clause-fails
returns-then-is_some-clause-fails g c given a h =
    ends_again g.D.Disk.tells g.D.Disk.clock g.D.Disk.past given a c.args.base c.args.self.now h (sym c.if-is_some.ensures)

pub returns-in-Ok-clause-answer : goal.returns-in-Ok-clause-answer
returns-in-Ok-clause-answer g c given a h =
    let tells = g.D.Disk.tells in let clock = g.D.Disk.clock in let past = g.D.Disk.past in
    let p = c.args.self.now in
    let there = sym c.in-Some.ensures.value in
    let none = no_value p.blocks (sym c.if-is_some.ensures) in
    answered_new tells clock past given a c.args.base p c.in-Some.disk h there none c.new.result c.in-Ok.db c.new.ensures.keeper _ c.take.ensures.after refl refl refl refl
    c.reserve.new.self.items c.calls.result c.in_ok-reserve.ensures.items c.calls.ensures c.push_reserved.ensures.items c.in-Ok.ensures.later c.in-Ok.ensures.free
    (held_after tells clock past given a c.args.base p c.in-Some.disk h there none c.new.result c.in-Ok.db c.new.ensures.keeper c.new.ensures.represents
    c.in-Ok.ensures.pipeline c.in-Ok.ensures.bases c.in-Ok.ensures.running (λ told. c.new.ensures.keeps (c.in-Ok.ensures.created told))) c.in-Ok.ensures.tally

pub returns-in-Err-clause-fails : goal.returns-in-Err-clause-fails
returns-in-Err-clause-fails g c given a h =
    let p = c.args.self.now in
    let e = c.in-Err.fault in
    subst (λ (cause : Cause). EndsLine g.D.Disk.tells g.D.Disk.clock g.D.Disk.past given a (lines.New c.args.base) cause (Some e.disk) p.blocks c.reserve.new.self.items)
    (sym c.of_creating.ensures)
    (ends_creating g.D.Disk.tells g.D.Disk.clock g.D.Disk.past given a c.args.base p c.in-Some.disk h (sym c.in-Some.ensures.value) (no_value p.blocks (sym c.if-is_some.ensures))
    e.fault e.disk c.reserve.new.self.items c.in_ok-reserve.ensures.items c.in-Err.ensures.later c.in-Err.ensures.causes c.in-Err.ensures.untouched)
