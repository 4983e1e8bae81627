use Rattle.pdb_disk.proofs.Calls.{joined, one_call, unsynced}
use Rattle.pdb_recover.specs.Recovering.{Recovers}
use Rattle.pdb_recover.proofs.Clearing.{begun_recovers, cleared_ready, may_recovers, ready_recovers}
use Rattle.pdb_recover.proofs.clear.clear_file.Goals as goal

pub returns-in-Ok-sync-clause-any_moment : goal.returns-in-Ok-sync-clause-any_moment
returns-in-Ok-sync-clause-any_moment g c row gate told is =
    let begun = c.in-Ok.ensures.begun told in
    let mid = begun_recovers _ _ c.args.file gate row c.requires is begun in
    let after = cleared_ready _ _ _ c.args.file gate row c.requires is begun (c.in-Ok.ensures.written told) (c.in-Ok-sync.ensures.synced (c.cut.ensures.told told)) in
    joined _ _ _ _ _ _ (λ fs. Recovers fs row)
    (one_call _ _ _ _ (λ fs. Recovers fs row) c.cut.ensures.time (ready_recovers _ gate row is) mid)
    (one_call _ _ _ _ (λ fs. Recovers fs row) c.sync.ensures.time mid (ready_recovers _ gate row after))

pub returns-in-Ok-sync-clause-ready : goal.returns-in-Ok-sync-clause-ready
returns-in-Ok-sync-clause-ready g c row gate told is =
    cleared_ready _ _ _ c.args.file gate row c.requires is (c.in-Ok.ensures.begun told) (c.in-Ok.ensures.written told) (c.in-Ok-sync.ensures.synced (c.cut.ensures.told told))

pub returns-in-Err-sync-clause-any_moment : goal.returns-in-Err-sync-clause-any_moment
returns-in-Err-sync-clause-any_moment g c row gate told is =
    let mid = begun_recovers _ _ c.args.file gate row c.requires is (c.in-Ok.ensures.begun told) in
    joined _ _ _ _ _ _ (λ fs. Recovers fs row)
    (one_call _ _ _ _ (λ fs. Recovers fs row) c.cut.ensures.time (ready_recovers _ gate row is) mid)
    (unsynced _ _ _ _ (λ fs. Recovers fs row) c.sync.ensures.time (c.in-Err-sync.ensures.failed (c.cut.ensures.told told)) mid)

pub returns-in-Err-clause-any_moment : goal.returns-in-Err-clause-any_moment
returns-in-Err-clause-any_moment g c row gate told is =
    one_call _ _ _ _ (λ fs. Recovers fs row) c.cut.ensures.time (ready_recovers _ gate row is)
    (may_recovers _ _ c.args.file gate row c.requires is (c.in-Err.ensures.failed told))
