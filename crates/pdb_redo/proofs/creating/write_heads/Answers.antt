use Rattle.std.proofs.Common.{inl}
use Rattle.pdb_redo.proofs.CreatGates.{either_way}
use Rattle.pdb_redo.proofs.CreatMoments.{joined_yet, sync_moments, write_moments}
use Rattle.pdb_redo.proofs.creating.write_heads.Goals as goal

pub returns-in_err-write_at-clause-any_moment : goal.returns-in_err-write_at-clause-any_moment
returns-in_err-write_at-clause-any_moment g c told yet =
    (write_moments g.D.Disk.clock g.D.Disk.past c.args.disk.now c.write_at.new.self 0 c.args.head.now c.write_at.ensures.time (c.in_err-write_at.ensures.failed told) yet).0

pub returns-in_err-write_at-2-clause-any_moment : goal.returns-in_err-write_at-2-clause-any_moment
returns-in_err-write_at-2-clause-any_moment g c told yet =
    let first = write_moments g.D.Disk.clock g.D.Disk.past c.args.disk.now c.write_at.new.self 0 c.args.head.now c.write_at.ensures.time (inl (c.in_ok-write_at.ensures.begun told)) yet in
    let second = write_moments g.D.Disk.clock g.D.Disk.past c.write_at.new.self c.write_at-2.new.self 256 c.args.head.now c.write_at-2.ensures.time
    (c.in_err-write_at-2.ensures.failed (c.write_at.ensures.told told)) first.1 in
    joined_yet g.D.Disk.clock g.D.Disk.past c.args.disk.now c.write_at.new.self c.write_at-2.new.self first.0 second.0

pub returns-clause-any_moment : goal.returns-clause-any_moment
returns-clause-any_moment g c told yet =
    let first = write_moments g.D.Disk.clock g.D.Disk.past c.args.disk.now c.write_at.new.self 0 c.args.head.now c.write_at.ensures.time (inl (c.in_ok-write_at.ensures.begun told)) yet in
    let told1 = c.write_at.ensures.told told in
    let second = write_moments g.D.Disk.clock g.D.Disk.past c.write_at.new.self c.write_at-2.new.self 256 c.args.head.now c.write_at-2.ensures.time
    (inl (c.in_ok-write_at-2.ensures.begun told1)) first.1 in
    let third = sync_moments g.D.Disk.clock g.D.Disk.past c.write_at-2.new.self c.sync.new.self c.sync.ensures.time
    (either_way c.sync.result _ _ _ (c.write_at-2.ensures.told told1) c.sync.ensures.synced c.sync.ensures.failed) second.1 in
    joined_yet g.D.Disk.clock g.D.Disk.past c.args.disk.now c.write_at-2.new.self c.sync.new.self
    (joined_yet g.D.Disk.clock g.D.Disk.past c.args.disk.now c.write_at.new.self c.write_at-2.new.self first.0 second.0) third
