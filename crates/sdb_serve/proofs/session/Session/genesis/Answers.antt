use Rattle.std.proofs.Common.{◌≡◌, ap, sym, ◌∙◌, refl, [], ◌∷◌, Some, None}
use Rattle.sdb_base.specs.Pipeline.{with_commit}
use Rattle.sdb_model.specs.declared.Refusal.TheVariants.{HasGenesis}
use Rattle.sdb_script.specs.declared.LineReply.TheVariants as replies
use Rattle.sdb_serve.specs.inner.Steps.{cause_of_job}
use Rattle.sdb_serve.proofs.Answering.{genesis_again, genesis_early, genesis_first, no_test}
use Rattle.sdb_serve.proofs.HeldStores.{as_it_was, has_begun, not_begun, counts_in, kept_for, time_in, with_blocks}
use Rattle.sdb_serve.proofs.JobCauses.{ends_unmoved, not_occupied}
use Rattle.sdb_serve.proofs.JobFaults.{counts_job, due_in_commit, job_fails}
use Rattle.sdb_serve.proofs.session.Session.genesis.Goals as goal

pub returns-in-None-clause-fails : goal.returns-in-None-clause-fails
returns-in-None-clause-fails g c = λ given a h. (
  genesis_early a.session _ _ (not_begun g.D.Disk.tells g.D.Disk.clock g.D.Disk.past given c.args.self.now a h c.in-None.is),
  (h.time, h.marks),
  λ e. absurd cc,
)

pub returns-then-not-is_empty-clause-answer : goal.returns-then-not-is_empty-clause-answer
returns-then-not-is_empty-clause-answer g c = λ given a h.
    let b = has_begun g.D.Disk.tells g.D.Disk.clock g.D.Disk.past given c.args.self.now c.in-Some.blocks a h c.in-Some.is in
    record {
      model = Some (replies.Refused HasGenesis);
      next = a.session;
      answered = genesis_again a.session _ _ b.begun (λ e. no_test ((c.if-not-is_empty.ensures a.session.blocks b.holds.blocks).1 e));
      may = refl;
      now = a.clock;
      time = refl;
      counted = a.tally;
      tally = refl;
      represents =
          as_it_was g.D.Disk.tells g.D.Disk.clock g.D.Disk.past given c.args.self.now _ a h refl refl refl refl (sym c.in-Some.is) refl;
    }

pub returns-in-Ok-clause-answer : goal.returns-in-Ok-clause-answer
returns-in-Ok-clause-answer g c = λ given a h.
    let b = has_begun g.D.Disk.tells g.D.Disk.clock g.D.Disk.past given c.args.self.now c.in-Some.blocks a h c.in-Some.is in
    let none : a.session.blocks ≡ [] = (c.if-not-is_empty.ensures a.session.blocks b.holds.blocks).0 refl in
    record {
      model = Some replies.Genesis;
      next = record a.session { window = c.args.window; blocks = c.args.block ∷ []; pipeline = with_commit a.session.pipeline };
      answered = genesis_first a.session c.args.window c.args.block b.begun none;
      may = refl;
      now = a.clock;
      time = refl;
      counted = a.tally;
      tally = refl;
      represents =
          with_blocks g.D.Disk.tells g.D.Disk.clock g.D.Disk.past given c.args.self.now _ c.in-Some.blocks c.genesis.new.self a _ h
          c.in-Some.is refl refl refl refl refl c.genesis.ensures.outside.time refl refl b.begun c.genesis.ensures.outside.tally (record {
            blocks = c.in-Ok.ensures.represents (rw none at b.holds.blocks);
            pipeline = c.in-Ok.ensures.pipeline ∙ ap with_commit b.holds.pipeline;
            running = c.genesis.ensures.outside.stopped ∙ b.holds.running;
            kept = λ told.
                let k = kept_for g.D.Disk.tells g.D.Disk.clock g.D.Disk.past given c.in-Some.blocks a.session [] b.holds none told in
                let n = c.in-Ok.ensures.keeps k.0 k.1 in (n.0, n.3);
          });
    }

pub returns-in-Err-clause-fails : goal.returns-in-Err-clause-fails
returns-in-Err-clause-fails g c = λ given a h.
    let b = has_begun g.D.Disk.tells g.D.Disk.clock g.D.Disk.past given c.args.self.now c.in-Some.blocks a h c.in-Some.is in
    let none : a.session.blocks ≡ [] = (c.if-not-is_empty.ensures a.session.blocks b.holds.blocks).0 refl in
    rw c.of_job.ensures (
      job_fails g.D.Disk.tells g.D.Disk.clock g.D.Disk.past c.genesis.new.self.keeper given a _ _ _
          (genesis_first a.session c.args.window c.args.block b.begun none)
          (c.in-Err.ensures.unchanged ∙ b.holds.pipeline)
          (λ told.
          let k = kept_for g.D.Disk.tells g.D.Disk.clock g.D.Disk.past given c.in-Some.blocks a.session [] b.holds none told in
          (k.0, (c.in-Err.ensures.refused_keeps k.0 k.1).keeper))
          c.in-Err.fault
          (due_in_commit g.D.Disk.tells g.D.Disk.clock g.D.Disk.past c.genesis.new.self.keeper c.in-Err.fault c.in-Err.ensures.cause)
          (λ told clear. c.in-Err.ensures.sound),
      ends_unmoved (cause_of_job c.in-Err.fault) None (g.D.Disk.clock c.genesis.new.self.keeper.redo.log.disk) c.args.self.now.marks.items a
          (time_in g.D.Disk.tells g.D.Disk.clock g.D.Disk.past given c.args.self.now c.in-Some.blocks c.genesis.new.self a h c.in-Some.is
          c.genesis.ensures.outside.time) h.marks,
      λ e. absurd (not_occupied c.in-Err.fault e),
    )

pub returns-in-Err-clause-counted : goal.returns-in-Err-clause-counted
returns-in-Err-clause-counted g c = λ given a h.
    let b = has_begun g.D.Disk.tells g.D.Disk.clock g.D.Disk.past given c.args.self.now c.in-Some.blocks a h c.in-Some.is in
    counts_in g.D.Disk.fault_count c.args.self.now c.in-Some.blocks _ c.in-Some.is (
    counts_job g.D.Disk.tells g.D.Disk.clock g.D.Disk.past c.genesis.new.self.keeper _ _ _
    (c.genesis.ensures.outside.stopped ∙ b.holds.running) c.in-Err.fault _ c.of_job.ensures
    (due_in_commit g.D.Disk.tells g.D.Disk.clock g.D.Disk.past c.genesis.new.self.keeper c.in-Err.fault c.in-Err.ensures.cause)
    c.in-Err.ensures.counted
    )
