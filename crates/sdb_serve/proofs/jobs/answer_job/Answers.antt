use Rattle.std.proofs.Common.{◌≡◌, sym, ◌∙◌}
use Rattle.sdb_base.specs.Keeping.{Commits}
use Rattle.sdb_model.specs.declared.Task.TheVariants.{Import}
use Rattle.sdb_model.specs.Blocks.{state_of}
use Rattle.sdb_serve.specs.Jobs.{after_import, import_reply}
use Rattle.sdb_serve.specs.StageLines.{pipeline_after}
use Rattle.sdb_serve.specs.inner.Blocks.{IsNextHistory, KeepsBlocks}
use Rattle.sdb_serve.proofs.ClearLines.{before_job}
use Rattle.sdb_serve.proofs.JobReplies.{as_model, import_kind, list_stays, may_ok, next_stays, on_ok, read_stays, root_stays}
use Rattle.sdb_serve.proofs.jobs.answer_job.Goals as goal

pub returns-in-Read-clause-may : goal.returns-in-Read-clause-may
returns-in-Read-clause-may g c =
    rw c.in-Read.is (λ all commits h clears. may_ok c.read.result all _ (c.read.ensures.kind all h.represents) (λ clear. c.read.ensures.answer all commits h clears clear))

pub returns-in-Read-clause-keeps : goal.returns-in-Read-clause-keeps
returns-in-Read-clause-keeps g c = rw c.in-Read.is (λ all commits h clears. on_ok c.read.result (commits, c.read.ensures.keeps all commits h))

pub returns-in-Read-clause-sound : goal.returns-in-Read-clause-sound
returns-in-Read-clause-sound g c = rw c.in-Read.is (λ all commits h clears clear. c.read.ensures.sound all commits h clears clear)

pub returns-in-Next-clause-may : goal.returns-in-Next-clause-may
returns-in-Next-clause-may g c =
    rw c.in-Next.is (λ all commits h clears. may_ok c.next.result all _ (c.next.ensures.kind all h.represents) (λ clear. c.next.ensures.answer all commits h clears clear))

pub returns-in-Next-clause-keeps : goal.returns-in-Next-clause-keeps
returns-in-Next-clause-keeps g c = rw c.in-Next.is (λ all commits h clears. on_ok c.next.result (commits, c.next.ensures.keeps all commits h))

pub returns-in-Next-clause-sound : goal.returns-in-Next-clause-sound
returns-in-Next-clause-sound g c = rw c.in-Next.is (λ all commits h clears clear. c.next.ensures.sound all commits h clears clear)

pub returns-in-List-clause-may : goal.returns-in-List-clause-may
returns-in-List-clause-may g c =
    rw c.in-List.is (λ all commits h clears. may_ok c.list.result all _ (c.list.ensures.kind all h.represents) (λ clear. c.list.ensures.answer all commits h clears clear))

pub returns-in-List-clause-keeps : goal.returns-in-List-clause-keeps
returns-in-List-clause-keeps g c = rw c.in-List.is (λ all commits h clears. on_ok c.list.result (commits, c.list.ensures.keeps all commits h))

pub returns-in-List-clause-sound : goal.returns-in-List-clause-sound
returns-in-List-clause-sound g c = rw c.in-List.is (λ all commits h clears clear. c.list.ensures.sound all commits h clears clear)

pub returns-in-Root-clause-may : goal.returns-in-Root-clause-may
returns-in-Root-clause-may g c =
    rw c.in-Root.is (λ all commits h clears. record { kind = c.root.ensures.kind all h.represents; clear = λ clear. c.root.ensures.answer all commits h clear })

pub returns-in-Import-clause-kind : goal.returns-in-Import-clause-kind
returns-in-Import-clause-kind g c = rw c.in-Import.is (λ all h. import_kind c.import.result all c.in-Import.block (c.import.ensures.answer all h))

pub returns-in-Import-clause-may : goal.returns-in-Import-clause-may
returns-in-Import-clause-may g c =
    rw c.in-Import.is (λ all commits h clears. may_ok c.import.result all _ (import_kind c.import.result all c.in-Import.block (c.import.ensures.answer all h.represents)) (λ clear. c.import.ensures.answer all h.represents))

pub returns-in-Import-clause-keeps : goal.returns-in-Import-clause-keeps
returns-in-Import-clause-keeps g c =
    rw c.in-Import.is (λ all commits h clears.
    as_model c.import.result (import_reply all c.in-Import.block)
    (λ reply. (next : Commits) × IsNextHistory reply commits next × g.K.Keeper.later c.args.blocks.now.keeper commits c.import.new.self.keeper next
    × KeepsBlocks g.K.Keeper.stands c.import.new.self (after_import all c.in-Import.block reply) next)
    (λ reply. (next : Commits) × KeepsBlocks g.K.Keeper.stands c.import.new.self (after_import all c.in-Import.block reply) next)
    (c.import.ensures.answer all h.represents) (c.import.ensures.keeps all commits h clears) (λ reply q. (q.0, q.3)))

pub returns-in-Import-clause-sound : goal.returns-in-Import-clause-sound
returns-in-Import-clause-sound g c = rw c.in-Import.is (λ all commits h clears clear. c.import.ensures.sound all commits h clears (before_job all (Import _) clear))

pub returns-in-Read-clause-pipeline : goal.returns-in-Read-clause-pipeline
returns-in-Read-clause-pipeline g c =
    rw c.in-Read.is (λ all h. on_ok c.read.result (c.read.ensures.pipeline ∙ sym (read_stays (state_of all c.in-Read.id) c.in-Read.key (g.K.Keeper.pipeline c.args.blocks.now.keeper))))

pub returns-in-Next-clause-pipeline : goal.returns-in-Next-clause-pipeline
returns-in-Next-clause-pipeline g c =
    rw c.in-Next.is (λ all h. on_ok c.next.result (c.next.ensures.pipeline ∙ sym (next_stays (state_of all c.in-Next.id) c.in-Next.key (g.K.Keeper.pipeline c.args.blocks.now.keeper))))

pub returns-in-List-clause-pipeline : goal.returns-in-List-clause-pipeline
returns-in-List-clause-pipeline g c =
    rw c.in-List.is (λ all h. on_ok c.list.result (c.list.ensures.pipeline ∙ sym (list_stays (state_of all c.in-List.id) c.in-List.prefix (g.K.Keeper.pipeline c.args.blocks.now.keeper))))

pub returns-in-Root-clause-pipeline : goal.returns-in-Root-clause-pipeline
returns-in-Root-clause-pipeline g c = rw c.in-Root.is (λ all h. sym (root_stays (state_of all c.in-Root.id) (g.K.Keeper.pipeline c.args.blocks.now.keeper)))

pub returns-in-Import-clause-pipeline : goal.returns-in-Import-clause-pipeline
returns-in-Import-clause-pipeline g c =
    rw c.in-Import.is (λ all h.
    as_model c.import.result (import_reply all c.in-Import.block)
    (λ reply. g.K.Keeper.pipeline c.import.new.self.keeper ≡ pipeline_after reply (g.K.Keeper.pipeline c.args.blocks.now.keeper))
    (λ reply. g.K.Keeper.pipeline c.import.new.self.keeper ≡ pipeline_after reply (g.K.Keeper.pipeline c.args.blocks.now.keeper))
    (c.import.ensures.answer all h) c.import.ensures.pipeline (λ reply q. q))
