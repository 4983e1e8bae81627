use Rattle.pdb_disk.proofs.Calls.{joined}
use Rattle.pdb_log.specs.Ledger.{file_synced, files_synced}
use Rattle.pdb_log.proofs.Syncs.{all_synced, flush_log}
use Rattle.pdb_log.proofs.Times.{time_then}
use Rattle.pdb_log.proofs.log.Log.flush.Goals as goal

pub returns-in_err-sync_records-2-clause-any_moment : goal.returns-in_err-sync_records-2-clause-any_moment
returns-in_err-sync_records-2-clause-any_moment g c l rows f is =
    let is1 = c.in_ok-sync_records.ensures.synced l rows f is in
    joined _ _ _ _ _ _ _ (c.sync_records.ensures.any_moment l rows f is) (c.sync_records-2.ensures.any_moment (file_synced l 1) rows f is1)

pub returns-in_err-sync_records-3-clause-any_moment : goal.returns-in_err-sync_records-3-clause-any_moment
returns-in_err-sync_records-3-clause-any_moment g c l rows f is =
    let is1 = c.in_ok-sync_records.ensures.synced l rows f is in
    let is2 = c.in_ok-sync_records-2.ensures.synced (file_synced l 1) rows f is1 in
    let first = joined _ _ _ _ _ _ _ (c.sync_records.ensures.any_moment l rows f is) (c.sync_records-2.ensures.any_moment (file_synced l 1) rows f is1) in
    joined _ _ _ _ _ _ _ first (c.sync_records-3.ensures.any_moment (file_synced (file_synced l 1) 2) rows f is2)

pub returns-in_err-sync_records-4-clause-any_moment : goal.returns-in_err-sync_records-4-clause-any_moment
returns-in_err-sync_records-4-clause-any_moment g c l rows f is =
    let is1 = c.in_ok-sync_records.ensures.synced l rows f is in
    let is2 = c.in_ok-sync_records-2.ensures.synced (file_synced l 1) rows f is1 in
    let is3 = c.in_ok-sync_records-3.ensures.synced (file_synced (file_synced l 1) 2) rows f is2 in
    let first = joined _ _ _ _ _ _ _ (c.sync_records.ensures.any_moment l rows f is) (c.sync_records-2.ensures.any_moment (file_synced l 1) rows f is1) in
    let second = joined _ _ _ _ _ _ _ first (c.sync_records-3.ensures.any_moment (file_synced (file_synced l 1) 2) rows f is2) in
    joined _ _ _ _ _ _ _ second (c.sync_records-4.ensures.any_moment (file_synced (file_synced (file_synced l 1) 2) 3) rows f is3)

pub returns-clause-any_moment : goal.returns-clause-any_moment
returns-clause-any_moment g c l rows f is =
    let is1 = c.in_ok-sync_records.ensures.synced l rows f is in
    let is2 = c.in_ok-sync_records-2.ensures.synced (file_synced l 1) rows f is1 in
    let is3 = c.in_ok-sync_records-3.ensures.synced (file_synced (file_synced l 1) 2) rows f is2 in
    let first = joined _ _ _ _ _ _ _ (c.sync_records.ensures.any_moment l rows f is) (c.sync_records-2.ensures.any_moment (file_synced l 1) rows f is1) in
    let second = joined _ _ _ _ _ _ _ first (c.sync_records-3.ensures.any_moment (file_synced (file_synced l 1) 2) rows f is2) in
    joined _ _ _ _ _ _ _ second (c.sync_records-4.ensures.any_moment (file_synced (file_synced (file_synced l 1) 2) 3) rows f is3)

pub returns-clause-flushed : goal.returns-clause-flushed
returns-clause-flushed g c l rows f is =
    let is1 = c.in_ok-sync_records.ensures.synced l rows f is in
    let is2 = c.in_ok-sync_records-2.ensures.synced (file_synced l 1) rows f is1 in
    let is3 = c.in_ok-sync_records-3.ensures.synced (file_synced (file_synced l 1) 2) rows f is2 in
    let is4 = c.in_ok-sync_records-4.ensures.synced (file_synced (file_synced (file_synced l 1) 2) 3) rows f is3 in
    flush_log g.D.Disk.tells g.D.Disk.clock g.D.Disk.past c.sync_records-4.new.self (files_synced l) rows f (all_synced l) is4

pub returns-in_err-sync_records-2-clause-goes_on : goal.returns-in_err-sync_records-2-clause-goes_on
returns-in_err-sync_records-2-clause-goes_on g c =
    time_then g.D.Disk.clock g.D.Disk.past c.args.self.now.disk c.sync_records.new.self.disk c.sync_records-2.new.self.disk c.sync_records.ensures.goes_on c.sync_records-2.ensures.goes_on

pub returns-in_err-sync_records-3-clause-goes_on : goal.returns-in_err-sync_records-3-clause-goes_on
returns-in_err-sync_records-3-clause-goes_on g c =
    let t1 = time_then g.D.Disk.clock g.D.Disk.past c.args.self.now.disk c.sync_records.new.self.disk c.sync_records-2.new.self.disk c.sync_records.ensures.goes_on c.sync_records-2.ensures.goes_on in
    time_then g.D.Disk.clock g.D.Disk.past c.args.self.now.disk c.sync_records-2.new.self.disk c.sync_records-3.new.self.disk t1 c.sync_records-3.ensures.goes_on

pub returns-in_err-sync_records-4-clause-goes_on : goal.returns-in_err-sync_records-4-clause-goes_on
returns-in_err-sync_records-4-clause-goes_on g c =
    let t1 = time_then g.D.Disk.clock g.D.Disk.past c.args.self.now.disk c.sync_records.new.self.disk c.sync_records-2.new.self.disk c.sync_records.ensures.goes_on c.sync_records-2.ensures.goes_on in
    let t2 = time_then g.D.Disk.clock g.D.Disk.past c.args.self.now.disk c.sync_records-2.new.self.disk c.sync_records-3.new.self.disk t1 c.sync_records-3.ensures.goes_on in
    time_then g.D.Disk.clock g.D.Disk.past c.args.self.now.disk c.sync_records-3.new.self.disk c.sync_records-4.new.self.disk t2 c.sync_records-4.ensures.goes_on

pub returns-clause-goes_on : goal.returns-clause-goes_on
returns-clause-goes_on g c =
    let t1 = time_then g.D.Disk.clock g.D.Disk.past c.args.self.now.disk c.sync_records.new.self.disk c.sync_records-2.new.self.disk c.sync_records.ensures.goes_on c.sync_records-2.ensures.goes_on in
    let t2 = time_then g.D.Disk.clock g.D.Disk.past c.args.self.now.disk c.sync_records-2.new.self.disk c.sync_records-3.new.self.disk t1 c.sync_records-3.ensures.goes_on in
    time_then g.D.Disk.clock g.D.Disk.past c.args.self.now.disk c.sync_records-3.new.self.disk c.sync_records-4.new.self.disk t2 c.sync_records-4.ensures.goes_on

pub returns-in_err-sync_records-2-clause-tally : goal.returns-in_err-sync_records-2-clause-tally
returns-in_err-sync_records-2-clause-tally g c t is = c.sync_records-2.ensures.tally t (c.sync_records.ensures.tally t is)

pub returns-in_err-sync_records-3-clause-tally : goal.returns-in_err-sync_records-3-clause-tally
returns-in_err-sync_records-3-clause-tally g c t is =
    c.sync_records-3.ensures.tally t (c.sync_records-2.ensures.tally t (c.sync_records.ensures.tally t is))

pub returns-in_err-sync_records-4-clause-tally : goal.returns-in_err-sync_records-4-clause-tally
returns-in_err-sync_records-4-clause-tally g c t is =
    let t3 = c.sync_records-3.ensures.tally t (c.sync_records-2.ensures.tally t (c.sync_records.ensures.tally t is)) in
    c.sync_records-4.ensures.tally t t3

pub returns-clause-tally : goal.returns-clause-tally
returns-clause-tally g c t is =
    let t3 = c.sync_records-3.ensures.tally t (c.sync_records-2.ensures.tally t (c.sync_records.ensures.tally t is)) in
    c.sync_records-4.ensures.tally t t3
