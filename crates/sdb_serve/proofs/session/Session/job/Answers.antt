use Rattle.std.proofs.Common.{ap, sym, ◌∙◌, refl, Some, None}
use Rattle.sdb_model.specs.declared.Refusal.TheVariants.{NoGenesis}
use Rattle.sdb_model.specs.declared.Reply.TheVariants.{Refused}
use Rattle.sdb_script.specs.declared.LineReply.TheVariants as replies
use Rattle.sdb_serve.specs.Session.{answer_job}
use Rattle.sdb_serve.specs.StageLines.{pipeline_after}
use Rattle.sdb_serve.specs.inner.Steps.{cause_of_job}
use Rattle.sdb_serve.proofs.Answering.{job_early, job_is, job_without_genesis, no_test}
use Rattle.sdb_serve.proofs.HeldStores.{as_it_was, counts_in, has_begun, not_begun, time_in, with_blocks}
use Rattle.sdb_serve.proofs.JobCauses.{ends_unmoved, not_occupied}
use Rattle.sdb_serve.proofs.JobFaults.{counts_job, job_fails}
use Rattle.sdb_serve.proofs.session.Session.job.Goals as goal

pub returns-in-None-clause-fails : goal.returns-in-None-clause-fails
returns-in-None-clause-fails g c = λ given a h. (
  job_early a.session _ (not_begun g.D.Disk.tells g.D.Disk.clock g.D.Disk.past given c.args.self.now a h c.in-None.is),
  (h.time, h.marks),
  λ e. absurd cc,
)

pub returns-then-is_empty-clause-answer : goal.returns-then-is_empty-clause-answer
returns-then-is_empty-clause-answer g c = λ given a h.
    let b = has_begun g.D.Disk.tells g.D.Disk.clock g.D.Disk.past given c.args.self.now c.in-Some.blocks a h c.in-Some.is in
    record {
      model = Some (replies.Job (Refused NoGenesis));
      next = a.session;
      answered = job_without_genesis a.session _ b.begun ((c.if-is_empty.ensures a.session.blocks b.holds.blocks).0 refl);
      may = (Refused NoGenesis, refl, refl, λ told clear. refl);
      now = a.clock;
      time = refl;
      counted = a.tally;
      tally = refl;
      represents =
          as_it_was g.D.Disk.tells g.D.Disk.clock g.D.Disk.past given c.args.self.now _ a h refl refl refl refl (sym c.in-Some.is) refl;
    }

pub returns-in-Ok-clause-answer : goal.returns-in-Ok-clause-answer
returns-in-Ok-clause-answer g c = λ given a h.
    let b = has_begun g.D.Disk.tells g.D.Disk.clock g.D.Disk.past given c.args.self.now c.in-Some.blocks a h c.in-Some.is in
    let job = answer_job a.session.blocks c.args.task in
    record {
      model = Some (replies.Job job.0);
      next = record a.session { blocks = job.1; pipeline = pipeline_after job.0 a.session.pipeline };
      answered = job_is a.session c.args.task _ b.begun (λ e. no_test ((c.if-is_empty.ensures a.session.blocks b.holds.blocks).1 e)) refl;
      may = (
        c.in-Ok.reply,
        refl,
        c.in-Ok.ensures.kind a.session.blocks b.holds.blocks,
        λ told. let k = b.holds.kept told in (c.in-Ok.ensures.may a.session.blocks k.0 k.1 (λ commits key alike. alike)).clear,
      );
      now = a.clock;
      time = refl;
      counted = a.tally;
      tally = refl;
      represents =
          with_blocks g.D.Disk.tells g.D.Disk.clock g.D.Disk.past given c.args.self.now _ c.in-Some.blocks c.answer_job.new.blocks a _ h
          c.in-Some.is refl refl refl refl refl c.answer_job.ensures.outside.time h.window refl b.begun c.answer_job.ensures.outside.tally (record {
            blocks = c.in-Ok.ensures.represents a.session.blocks b.holds.blocks;
            pipeline = c.in-Ok.ensures.pipeline a.session.blocks b.holds.blocks ∙ ap (pipeline_after job.0) b.holds.pipeline;
            running = c.answer_job.ensures.outside.stopped ∙ b.holds.running;
            kept = λ told. let k = b.holds.kept told in c.in-Ok.ensures.keeps a.session.blocks k.0 k.1 (λ commits key alike. alike);
          });
    }

pub returns-in-Err-clause-fails : goal.returns-in-Err-clause-fails
returns-in-Err-clause-fails g c = λ given a h.
    let b = has_begun g.D.Disk.tells g.D.Disk.clock g.D.Disk.past given c.args.self.now c.in-Some.blocks a h c.in-Some.is in
    rw c.of_job.ensures (
      job_fails g.D.Disk.tells g.D.Disk.clock g.D.Disk.past c.answer_job.new.blocks.keeper given a _ _ _
          (job_is a.session c.args.task _ b.begun (λ e. no_test ((c.if-is_empty.ensures a.session.blocks b.holds.blocks).1 e)) refl)
          (c.in-Err.ensures.unchanged ∙ b.holds.pipeline)
          (λ told. let k = b.holds.kept told in (k.0, (c.in-Err.ensures.refused_keeps a.session.blocks k.0 k.1).keeper))
          c.in-Err.fault c.in-Err.ensures.cause
          (λ told clear. let k = b.holds.kept told in c.in-Err.ensures.sound a.session.blocks k.0 k.1 (λ commits key alike. alike) clear),
      ends_unmoved (cause_of_job c.in-Err.fault) None (g.D.Disk.clock c.answer_job.new.blocks.keeper.redo.log.disk)
          c.args.self.now.marks.items a
          (time_in g.D.Disk.tells g.D.Disk.clock g.D.Disk.past given c.args.self.now c.in-Some.blocks c.answer_job.new.blocks a h
          c.in-Some.is c.answer_job.ensures.outside.time) h.marks,
      λ e. absurd (not_occupied c.in-Err.fault e),
    )

pub returns-in-Err-clause-counted : goal.returns-in-Err-clause-counted
returns-in-Err-clause-counted g c = λ given a h.
    let b = has_begun g.D.Disk.tells g.D.Disk.clock g.D.Disk.past given c.args.self.now c.in-Some.blocks a h c.in-Some.is in
    counts_in g.D.Disk.fault_count c.args.self.now c.in-Some.blocks _ c.in-Some.is (
    counts_job g.D.Disk.tells g.D.Disk.clock g.D.Disk.past c.answer_job.new.blocks.keeper _ _ _
    (c.answer_job.ensures.outside.stopped ∙ b.holds.running) c.in-Err.fault _ c.of_job.ensures c.in-Err.ensures.cause
    c.in-Err.ensures.counted
    )
