use Rattle.std.proofs.Common.{rules, ◌≡◌, ◌<◌, length, inl, refl, sym, subst, arith}
use Rattle.pdb_disk.proofs.Calls.{joined, one_call}
use Rattle.pdb_model.specs.Recovery.{Safe}
use Rattle.pdb_log.proofs.Clears.{cut_log, cut_mid, cut_moments}
use Rattle.pdb_log.proofs.Logs.{safe_now, set_to}
use Rattle.pdb_log.proofs.Times.{time_of_call, time_then}
use Rattle.pdb_log.proofs.log.Log.clear_file.Goals as goal

pub returns-in-Ok-sync-clause-file_emptied : goal.returns-in-Ok-sync-clause-file_emptied
returns-in-Ok-sync-clause-file_emptied g c l rows f is pass =
    let e = c.cut.ensures in
    let five : length c.args.self.now.ends ≡ 5 = search rules in
    let five_too : length c.args.self.now.synced ≡ 5 = search rules in
    let five_more : length c.args.self.now.last ≡ 5 = search rules in
    let low : c.args.file < 5 = let p = c.requires.1 in omega (arith, p) in
    cut_log g.D.Disk.tells g.D.Disk.clock g.D.Disk.past c.args.self.now c.args.file l rows f c.requires is pass c.cut.new.self _ refl refl refl
    (set_to c.args.self.now.ends c.args.file 0 (omega (arith, low, five)))
    (set_to c.args.self.now.synced c.args.file 0 (omega (arith, low, five_too)))
    (set_to c.args.self.now.last c.args.file c.args.self.now.number (omega (arith, low, five_more)))
    (c.sync.ensures.told (e.told is.told)) (c.in-Ok.ensures.begun is.told) (c.in-Ok.ensures.written is.told) (c.in-Ok-sync.ensures.synced (e.told is.told))

pub returns-in-Ok-sync-clause-any_moment : goal.returns-in-Ok-sync-clause-any_moment
returns-in-Ok-sync-clause-any_moment g c l rows f is pass =
    let e = c.cut.ensures in
    let first = cut_moments g.D.Disk.tells g.D.Disk.clock g.D.Disk.past c.args.self.now c.args.file l rows f c.requires is pass c.cut.new.self e.time (λ told. inl (c.in-Ok.ensures.begun told)) in
    let mid = cut_mid g.D.Disk.tells g.D.Disk.clock g.D.Disk.past c.args.self.now c.args.file l rows f c.requires is pass c.cut.new.self (c.in-Ok.ensures.begun is.told) in
    let after = safe_now g.D.Disk.tells g.D.Disk.clock g.D.Disk.past _ _ rows f (returns-in-Ok-sync-clause-file_emptied g c l rows f is pass) in
    joined _ _ _ _ _ _ _ first (one_call _ _ _ _ (Safe rows f) c.sync.ensures.time mid after)

pub returns-in-Err-sync-clause-any_moment : goal.returns-in-Err-sync-clause-any_moment
returns-in-Err-sync-clause-any_moment g c l rows f is pass =
    let e = c.cut.ensures in
    let first = cut_moments g.D.Disk.tells g.D.Disk.clock g.D.Disk.past c.args.self.now c.args.file l rows f c.requires is pass c.cut.new.self e.time (λ told. inl (c.in-Ok.ensures.begun told)) in
    let mid = cut_mid g.D.Disk.tells g.D.Disk.clock g.D.Disk.past c.args.self.now c.args.file l rows f c.requires is pass c.cut.new.self (c.in-Ok.ensures.begun is.told) in
    let after = subst (Safe rows f) (sym (c.in-Err-sync.ensures.failed (e.told is.told))) mid in
    joined _ _ _ _ _ _ _ first (one_call _ _ _ _ (Safe rows f) c.sync.ensures.time mid after)

pub returns-in-Err-clause-any_moment : goal.returns-in-Err-clause-any_moment
returns-in-Err-clause-any_moment g c l rows f is pass =
    cut_moments g.D.Disk.tells g.D.Disk.clock g.D.Disk.past c.args.self.now c.args.file l rows f c.requires is pass c.cut.new.self c.cut.ensures.time c.in-Err.ensures.failed

pub returns-in-Ok-sync-clause-goes_on : goal.returns-in-Ok-sync-clause-goes_on
returns-in-Ok-sync-clause-goes_on g c =
    let first = time_of_call g.D.Disk.clock g.D.Disk.past c.args.self.now.disk c.cut.new.self c.cut.ensures.time in
    time_then g.D.Disk.clock g.D.Disk.past c.args.self.now.disk c.cut.new.self c.sync.new.self first (time_of_call g.D.Disk.clock g.D.Disk.past c.cut.new.self c.sync.new.self c.sync.ensures.time)

pub returns-in-Err-sync-clause-goes_on : goal.returns-in-Err-sync-clause-goes_on
returns-in-Err-sync-clause-goes_on g c =
    let first = time_of_call g.D.Disk.clock g.D.Disk.past c.args.self.now.disk c.cut.new.self c.cut.ensures.time in
    time_then g.D.Disk.clock g.D.Disk.past c.args.self.now.disk c.cut.new.self c.sync.new.self first (time_of_call g.D.Disk.clock g.D.Disk.past c.cut.new.self c.sync.new.self c.sync.ensures.time)
