use Rattle.std.proofs.Common.{◌≡◌, None, refl, sym, subst}
use Rattle.std.proofs.lemmas.Result.{err_from_is_err_and, on_ok_weaker}
use Rattle.pdb_column.specs.Holding.{HoldsColumn}
use Rattle.pdb_column.proofs.Located.{changed_as, if_some_at, none_at, some_at, unchanged}
use Rattle.pdb_column.proofs.steps.drop_key.Goals as goal

pub returns-in_err-found-clause-sound : goal.returns-in_err-found-clause-sound
returns-in_err-found-clause-sound g c cells base content drafts holds =
    let p = err_from_is_err_and c.from_residual.result c.from_residual.ensures.1 in
    rw (p.1, p.2) (c.in_err-found.ensures.sound cells base content drafts holds)

pub returns-in-Some-clause-changed : goal.returns-in-Some-clause-changed
returns-in-Some-clause-changed g c cells base content drafts holds =
    let same = c.in_ok-found.ensures.same_base cells base content drafts holds in
    let its : HoldsColumn cells c.args.column c.in_ok-found.found.chunk.base content = subst (λ n. HoldsColumn cells c.args.column n content) (sym same) holds in
    let hit = if_some_at c.in_ok-found.found.hit c.in-Some.hit _ c.in-Some.is c.in_ok-found.ensures.hit in
    let at = some_at c.in_ok-found.found.hit c.in-Some.hit _ _ c.in-Some.is (c.in_ok-found.ensures.found cells content drafts its) in
    on_ok_weaker c.remove.result
    (λ w. (w.0, w.1, changed_as cells w.0 c.args.column c.in_ok-found.found.chunk.base base content c.args.key.now _ _ same refl (record { only = w.2.only; holds = w.2.holds })))
    (c.remove.ensures.dropped cells content c.args.key.now (c.locate.ensures.stays cells drafts) its (c.in_ok-found.ensures.spelled cells drafts) c.in_ok-found.ensures.number.0 hit at)

pub returns-in-Some-clause-sound : goal.returns-in-Some-clause-sound
returns-in-Some-clause-sound g c cells base content drafts holds =
    let same = c.in_ok-found.ensures.same_base cells base content drafts holds in
    let its : HoldsColumn cells c.args.column c.in_ok-found.found.chunk.base content = subst (λ n. HoldsColumn cells c.args.column n content) (sym same) holds in
    let at = some_at c.in_ok-found.found.hit c.in-Some.hit _ _ c.in-Some.is (c.in_ok-found.ensures.found cells content drafts its) in
    c.remove.ensures.sound cells c.in_ok-found.found.chunk.base content c.args.key.now (c.locate.ensures.stays cells drafts) its at

pub returns-in-Some-clause-faults : goal.returns-in-Some-clause-faults
returns-in-Some-clause-faults g c cells drafts =
    let hit = if_some_at c.in_ok-found.found.hit c.in-Some.hit _ c.in-Some.is c.in_ok-found.ensures.hit in
    c.remove.ensures.faults cells (c.locate.ensures.stays cells drafts) (c.in_ok-found.ensures.entries cells drafts) hit

pub returns-in-None-clause-changed : goal.returns-in-None-clause-changed
returns-in-None-clause-changed g c cells base content drafts holds =
    let same = c.in_ok-found.ensures.same_base cells base content drafts holds in
    let its : HoldsColumn cells c.args.column c.in_ok-found.found.chunk.base content = subst (λ n. HoldsColumn cells c.args.column n content) (sym same) holds in
    let none : content c.args.key.now ≡ None = none_at c.in_ok-found.found.hit _ _ c.in-None.is (c.in_ok-found.ensures.found cells content drafts its) in
    (cells, c.locate.ensures.stays cells drafts, unchanged cells c.args.column base content c.args.key.now holds none)
