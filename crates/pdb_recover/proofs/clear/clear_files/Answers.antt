use Rattle.pdb_disk.proofs.Calls.{joined}
use Rattle.pdb_recover.specs.Recovering.{Recovers}
use Rattle.pdb_recover.proofs.Cleared.{all_cleared}
use Rattle.pdb_recover.proofs.clear.clear_files.Goals as goal

pub returns-in_err-clear_file-2-clause-any_moment : goal.returns-in_err-clear_file-2-clause-any_moment
returns-in_err-clear_file-2-clause-any_moment g c row gate told is =
    let ready1 = c.in_ok-clear_file.ensures.ready row gate told is in
    let told1 = c.clear_file.ensures.told told in
    joined _ _ _ _ _ _ (λ fs. Recovers fs row) (c.clear_file.ensures.any_moment row gate told is) (c.clear_file-2.ensures.any_moment row gate told1 ready1)

pub returns-in_err-clear_file-3-clause-any_moment : goal.returns-in_err-clear_file-3-clause-any_moment
returns-in_err-clear_file-3-clause-any_moment g c row gate told is =
    let ready1 = c.in_ok-clear_file.ensures.ready row gate told is in
    let told1 = c.clear_file.ensures.told told in
    let ready2 = c.in_ok-clear_file-2.ensures.ready row gate told1 ready1 in
    let told2 = c.clear_file-2.ensures.told told1 in
    joined _ _ _ _ _ _ (λ fs. Recovers fs row)
    (joined _ _ _ _ _ _ (λ fs. Recovers fs row) (c.clear_file.ensures.any_moment row gate told is) (c.clear_file-2.ensures.any_moment row gate told1 ready1))
    (c.clear_file-3.ensures.any_moment row gate told2 ready2)

pub returns-in_err-clear_file-4-clause-any_moment : goal.returns-in_err-clear_file-4-clause-any_moment
returns-in_err-clear_file-4-clause-any_moment g c row gate told is =
    let ready1 = c.in_ok-clear_file.ensures.ready row gate told is in
    let told1 = c.clear_file.ensures.told told in
    let ready2 = c.in_ok-clear_file-2.ensures.ready row gate told1 ready1 in
    let told2 = c.clear_file-2.ensures.told told1 in
    let ready3 = c.in_ok-clear_file-3.ensures.ready row gate told2 ready2 in
    let told3 = c.clear_file-3.ensures.told told2 in
    joined _ _ _ _ _ _ (λ fs. Recovers fs row)
    (joined _ _ _ _ _ _ (λ fs. Recovers fs row)
    (joined _ _ _ _ _ _ (λ fs. Recovers fs row) (c.clear_file.ensures.any_moment row gate told is) (c.clear_file-2.ensures.any_moment row gate told1 ready1))
    (c.clear_file-3.ensures.any_moment row gate told2 ready2))
    (c.clear_file-4.ensures.any_moment row gate told3 ready3)

pub returns-clause-any_moment : goal.returns-clause-any_moment
returns-clause-any_moment g c row gate told is =
    let ready1 = c.in_ok-clear_file.ensures.ready row gate told is in
    let told1 = c.clear_file.ensures.told told in
    let ready2 = c.in_ok-clear_file-2.ensures.ready row gate told1 ready1 in
    let told2 = c.clear_file-2.ensures.told told1 in
    let ready3 = c.in_ok-clear_file-3.ensures.ready row gate told2 ready2 in
    let told3 = c.clear_file-3.ensures.told told2 in
    joined _ _ _ _ _ _ (λ fs. Recovers fs row)
    (joined _ _ _ _ _ _ (λ fs. Recovers fs row)
    (joined _ _ _ _ _ _ (λ fs. Recovers fs row) (c.clear_file.ensures.any_moment row gate told is) (c.clear_file-2.ensures.any_moment row gate told1 ready1))
    (c.clear_file-3.ensures.any_moment row gate told2 ready2))
    (c.clear_file-4.ensures.any_moment row gate told3 ready3)

pub returns-clause-recovered : goal.returns-clause-recovered
returns-clause-recovered g c row gate told is =
    let ready1 = c.in_ok-clear_file.ensures.ready row gate told is in
    let told1 = c.clear_file.ensures.told told in
    let ready2 = c.in_ok-clear_file-2.ensures.ready row gate told1 ready1 in
    let told2 = c.clear_file-2.ensures.told told1 in
    let ready3 = c.in_ok-clear_file-3.ensures.ready row gate told2 ready2 in
    let told3 = c.clear_file-3.ensures.told told2 in
    let ready4 = c.in_ok-clear_file-4.ensures.ready row gate told3 ready3 in
    all_cleared _ _ _ _ _ gate row
    (c.in_ok-clear_file.ensures.empty told) (c.clear_file.ensures.others told)
    (c.in_ok-clear_file-2.ensures.empty told1) (c.clear_file-2.ensures.others told1)
    (c.in_ok-clear_file-3.ensures.empty told2) (c.clear_file-3.ensures.others told2)
    (c.in_ok-clear_file-4.ensures.empty told3) (c.clear_file-4.ensures.others told3) ready4
