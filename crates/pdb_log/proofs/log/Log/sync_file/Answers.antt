use Rattle.std.proofs.Common.{rules, ◌≡◌, length, refl, sym, subst, arith}
use Rattle.std.specs.Prelude.{slice_index}
use Rattle.pdb_model.specs.Recovery.{Safe}
use Rattle.pdb_log.specs.Ledger.{file_synced}
use Rattle.pdb_log.proofs.Logs.{safe_now, set_to}
use Rattle.pdb_log.proofs.Syncs.{sync_log, sync_moments}
use Rattle.pdb_log.proofs.log.Log.sync_file.Goals as goal

pub returns-in-Ok-clause-synced : goal.returns-in-Ok-clause-synced
returns-in-Ok-clause-synced g c l rows f is =
    let five : length c.args.self.now.synced ≡ 5 = search rules in
    sync_log g.D.Disk.tells g.D.Disk.clock g.D.Disk.past c.args.self.now _ c.args.file l rows f c.requires is refl refl refl refl refl
    (set_to c.args.self.now.synced c.args.file (slice_index c.args.self.now.ends c.args.file) (let p = c.requires.1 in omega (arith, five, p)))
    (c.sync.ensures.told is.told) (c.in-Ok.ensures.synced is.told)

pub returns-in-Ok-clause-any_moment : goal.returns-in-Ok-clause-any_moment
returns-in-Ok-clause-any_moment g c l rows f is =
    sync_moments g.D.Disk.tells g.D.Disk.clock g.D.Disk.past c.args.self.now c.sync.new.self l rows f is c.sync.ensures.time
    (safe_now g.D.Disk.tells g.D.Disk.clock g.D.Disk.past _ (file_synced l c.args.file) rows f (returns-in-Ok-clause-synced g c l rows f is))

pub returns-in-Err-clause-any_moment : goal.returns-in-Err-clause-any_moment
returns-in-Err-clause-any_moment g c l rows f is =
    sync_moments g.D.Disk.tells g.D.Disk.clock g.D.Disk.past c.args.self.now c.sync.new.self l rows f is c.sync.ensures.time
    (subst (Safe rows f) (sym (c.in-Err.ensures.failed is.told)) (safe_now g.D.Disk.tells g.D.Disk.clock g.D.Disk.past c.args.self.now l rows f is))
