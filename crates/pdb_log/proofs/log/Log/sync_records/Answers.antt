use Rattle.std.proofs.Common.{rules, ◌≤◌, subst}
use Rattle.std.specs.Prelude.{slice_index}
use Rattle.pdb_model.specs.Recovery.{Safe}
use Rattle.pdb_disk.proofs.Calls.{no_call}
use Rattle.pdb_log.specs.Ledger.{Ledger}
use Rattle.pdb_log.specs.Standing.{IsLog}
use Rattle.pdb_log.proofs.Logs.{safe_now}
use Rattle.pdb_log.proofs.Syncs.{due_none, same_ledger}
use Rattle.pdb_log.proofs.log.Log.sync_records.Goals as goal

pub returns-clause-synced : goal.returns-clause-synced
returns-clause-synced g c l rows f is =
    let le : slice_index c.args.self.now.ends c.args.file ≤ slice_index c.args.self.now.synced c.args.file = search rules in
    subst (λ (k : Ledger). IsLog g.D.Disk.tells g.D.Disk.clock g.D.Disk.past c.args.self.now k rows f)
    (same_ledger l c.args.file (due_none g.D.Disk.tells g.D.Disk.clock g.D.Disk.past c.args.self.now l rows f c.args.file c.requires is le)) is

pub returns-clause-any_moment : goal.returns-clause-any_moment
returns-clause-any_moment g c l rows f is =
    no_call (g.D.Disk.clock c.args.self.now.disk) (g.D.Disk.past c.args.self.now.disk) (Safe rows f) (safe_now g.D.Disk.tells g.D.Disk.clock g.D.Disk.past c.args.self.now l rows f is)
