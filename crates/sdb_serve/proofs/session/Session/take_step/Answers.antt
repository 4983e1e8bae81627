use Rattle.std.proofs.Common.{Some, Err, ap, refl, sym, subst}
use Rattle.sdb_script.specs.declared.Line.TheVariants as lines
use Rattle.sdb_serve.specs.declared.cause.Cause.{Cause}
use Rattle.sdb_serve.proofs.StepStores.{EndsLine, ends_early}
use Rattle.sdb_serve.proofs.StepTaken.{not_taken, taken}
use Rattle.sdb_serve.proofs.session.Session.take_step.Goals as goal

pub returns-in-None-clause-fails : goal.returns-in-None-clause-fails
returns-in-None-clause-fails g c given a h = ends_early g.D.Disk.tells g.D.Disk.clock g.D.Disk.past given a c.args.stage c.args.self.now h c.in-None.is

pub returns-in-Ok-clause-answer : goal.returns-in-Ok-clause-answer
returns-in-Ok-clause-answer g c given a h =
    let m = c.in-Some.blocks in
    taken g.D.Disk.tells g.D.Disk.clock g.D.Disk.past given a c.args.stage c.args.self.now _ m (record m { keeper = c.answer_stage.new.db }) h c.in-Some.is refl refl refl
    c.in-Ok.answer refl refl refl refl c.in-Ok.ensures.of_stage c.in-Ok.ensures.steps c.in-Ok.ensures.stands

pub returns-in-Err-clause-fails : goal.returns-in-Err-clause-fails
returns-in-Err-clause-fails g c given a h =
    let m = c.in-Some.blocks in
    let n = record m { keeper = c.answer_stage.new.db } in
    let after = c.in-Err.ensures.after in
    subst (λ (cause : Cause). EndsLine g.D.Disk.tells g.D.Disk.clock g.D.Disk.past given a (lines.Stage c.args.stage) cause c.args.self.now.disk (Some n) c.args.self.now.marks.items)
    (sym c.of_keeper.ensures)
    (not_taken g.D.Disk.tells g.D.Disk.clock g.D.Disk.past given a c.args.stage c.args.self.now m n h c.in-Some.is c.in-Err.fault c.in-Err.ensures.unchanged
    after.goes_on.later c.in-Err.ensures.stands (λ log none. c.in-Err.ensures.waits log none refl) (λ call none is. c.in-Err.ensures.unstopped call none (ap Err is)) c.in-Err.ensures.cause
    c.in-Err.ensures.log_before c.in-Err.ensures.clean_before)
