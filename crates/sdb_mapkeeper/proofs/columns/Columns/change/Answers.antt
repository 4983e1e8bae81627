use Rattle.std.proofs.Common.{◌≡◌, subst, ◌∙◌}
use Rattle.std.proofs.lemmas.Result.{on_err_weaker, on_ok_weaker}
use Rattle.sdb_mapkeeper.specs.inner.Applying.{AreApplied}
use Rattle.sdb_mapkeeper.proofs.Applying.{applied_between, same_itself, same_on}
use Rattle.sdb_mapkeeper.proofs.columns.Columns.change.Goals as goal

pub returns-clause-ok : goal.returns-clause-ok
returns-clause-ok c =
    let a = c.args.self.now in
    let b = c.try_all-outcome.new.self in
    let given : c.as_mut_slice.result.now ≡ c.args.ops = c.as_mut_slice.ensures.value ∙ c.into_vec-ops.ensures in
    on_ok_weaker c.try_all-outcome.result
    (λ h. applied_between a a b c.tidy.new.self c.args.ops (same_itself a) (subst (λ ops. AreApplied a ops b) given h) c.tidy.ensures)
    c.try_all-outcome.ensures.ok

pub returns-clause-err : goal.returns-clause-err
returns-clause-err c =
    on_err_weaker c.try_all-outcome.result (λ h. same_on c.args.self.now c.try_all-outcome.new.self c.tidy.new.self h c.tidy.ensures)
    c.try_all-outcome.ensures.err
