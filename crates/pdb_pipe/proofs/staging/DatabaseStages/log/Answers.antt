use Rattle.std.proofs.Common.{List, refl, subst}
use Rattle.sdb_base.specs.declared.op.Op.{Op}
use Rattle.pdb_pipe.specs.Commits.{contents_of}
use Rattle.pdb_pipe.specs.Planning.{HasRoomFor}
use Rattle.pdb_pipe.specs.Stages.{NextHasRoom, logged_of}
use Rattle.pdb_pipe.specs.Standing.{bases_of}
use Rattle.pdb_redo.specs.Reaches.{reach_of}
use Rattle.pdb_redo.specs.Standing.{cells_under_records}
use Rattle.pdb_redo.proofs.Kept.{keeps_reach}
use Rattle.pdb_redo.proofs.Tallies.{keeps_tally}
use Rattle.pdb_pipe.specs.inner.After.{after_on}
use Rattle.pdb_pipe.proofs.StageAfter.{comes_read, comes_with}
use Rattle.pdb_pipe.proofs.StageDue.{append_due, plan_due}
use Rattle.pdb_pipe.proofs.DueSince.{unplanned_since}
use Rattle.pdb_pipe.proofs.StageLogged.{columns_before, next_alone, oldest_is, stands_read, stands_through}
use Rattle.pdb_pipe.proofs.StageRoom.{seen_told, steps_logged}
use Rattle.pdb_pipe.proofs.StageSteps.{pipeline_by, pipeline_same}
use Rattle.pdb_pipe.proofs.staging.DatabaseStages.log.Goals as goal

pub returns-in-Ok-clause-steps : goal.returns-in-Ok-clause-steps
returns-in-Ok-clause-steps g c =
    let rest = oldest_is c.args.self.now.queue c.in-Some-oldest.ops.now c.in-Some-oldest.ensures in
    let reach = keeps_reach g.D.Disk.tells g.D.Disk.clock g.D.Disk.past g.D.Disk.fault_count c.args.self.now.redo c.planned.new.cells c.planned.ensures.keeps in
    let room : NextHasRoom g.D.Disk.tells g.D.Disk.clock g.D.Disk.past c.args.self.now = λ commits ops s next.
    subst (λ (xs : List Op). HasRoomFor (bases_of c.args.self.now) (contents_of (logged_of c.args.self.now commits)) xs)
    (next_alone g.D.Disk.tells g.D.Disk.clock g.D.Disk.past c.args.self.now commits s c.in-Some-oldest.ops.now rest.0 rest.1 ops next)
    (c.in-Ok.ensures.room _ _ _ (seen_told (g.D.Disk.tells c.args.self.now.redo.log.disk) (cells_under_records g.D.Disk.clock g.D.Disk.past c.args.self.now.redo) s.told)
    (columns_before g.D.Disk.tells g.D.Disk.clock g.D.Disk.past c.args.self.now commits s)) in
    steps_logged g.D.Disk.tells g.D.Disk.clock g.D.Disk.past c.args.self.now c.append.new.self
    (pipeline_by c.args.self.now.accepted c.args.self.now.cleaned (reach_of c.planned.new.cells) c.args.self.now.bases)
    (g.D.Disk.clock c.planned.new.cells.log.disk)
    (pipeline_same c.args.self.now.accepted c.args.self.now.cleaned c.args.self.now.bases (reach_of c.args.self.now.redo) (reach_of c.planned.new.cells) reach)
    c.planned.ensures.keeps.time c.append.result room c.append.ensures.steps c.append.ensures.time
    (λ t is. c.append.ensures.tally t
    (keeps_tally g.D.Disk.tells g.D.Disk.clock g.D.Disk.past g.D.Disk.fault_count c.args.self.now.redo c.planned.new.cells c.planned.ensures.keeps t is))
    c.append.ensures.stops

pub returns-in-Ok-clause-stands : goal.returns-in-Ok-clause-stands
returns-in-Ok-clause-stands g c commits s =
    let rest = oldest_is c.args.self.now.queue c.in-Some-oldest.ops.now c.in-Some-oldest.ensures in
    let seen = seen_told (g.D.Disk.tells c.args.self.now.redo.log.disk) (cells_under_records g.D.Disk.clock g.D.Disk.past c.args.self.now.redo) s.told in
    stands_through g.D.Disk.tells g.D.Disk.clock g.D.Disk.past g.D.Disk.fault_count c.args.self.now _ c.planned.ensures.keeps refl refl commits s c.in-Some-oldest.ops.now rest.0 rest.1
    c.append.new.self c.in-Ok.puts
    (c.in-Ok.ensures.planned (cells_under_records g.D.Disk.clock g.D.Disk.past c.args.self.now.redo) (bases_of c.args.self.now) (contents_of (logged_of c.args.self.now commits)) seen
    (columns_before g.D.Disk.tells g.D.Disk.clock g.D.Disk.past c.args.self.now commits s))
    c.append.ensures.stands

pub returns-in-Err-clause-stands : goal.returns-in-Err-clause-stands
returns-in-Err-clause-stands g c commits s =
    stands_read g.D.Disk.tells g.D.Disk.clock g.D.Disk.past g.D.Disk.fault_count c.args.self.now _ c.planned.ensures.keeps refl refl commits s

pub returns-in-Ok-clause-cause_before : goal.returns-in-Ok-clause-cause_before
returns-in-Ok-clause-cause_before g c =
    append_due g.D.Disk.tells g.D.Disk.clock g.D.Disk.past g.D.Disk.fault_count c.args.self.now _ c.planned.ensures.keeps c.append.new.self c.append.result c.append.ensures.after c.append.ensures.ends

pub returns-in-Err-clause-cause_before : goal.returns-in-Err-clause-cause_before
returns-in-Err-clause-cause_before g c =
    let rest = oldest_is c.args.self.now.queue c.in-Some-oldest.ops.now c.in-Some-oldest.ensures in
    plan_due g.D.Disk.tells g.D.Disk.clock g.D.Disk.past c.args.self.now c.args.self.now
    c.in-Some-oldest.ops.now rest.0 rest.1 c.in-Err.fault
    (λ commits s. c.in-Err.ensures.ends (cells_under_records g.D.Disk.clock g.D.Disk.past c.args.self.now.redo) (bases_of c.args.self.now)
    (contents_of (logged_of c.args.self.now commits))
    (seen_told (g.D.Disk.tells c.args.self.now.redo.log.disk)
    (cells_under_records g.D.Disk.clock g.D.Disk.past c.args.self.now.redo) s.told)
    (columns_before g.D.Disk.tells g.D.Disk.clock g.D.Disk.past c.args.self.now commits s))
    (λ is. is)
    c.in-Err.ensures.cause

pub returns-in-Err-clause-cause : goal.returns-in-Err-clause-cause
returns-in-Err-clause-cause g c =
    let rest = oldest_is c.args.self.now.queue c.in-Some-oldest.ops.now c.in-Some-oldest.ensures in
    plan_due g.D.Disk.tells g.D.Disk.clock g.D.Disk.past c.args.self.now _ c.in-Some-oldest.ops.now rest.0 rest.1 c.in-Err.fault
    (λ commits s. c.in-Err.ensures.ends (cells_under_records g.D.Disk.clock g.D.Disk.past c.args.self.now.redo) (bases_of c.args.self.now)
    (contents_of (logged_of c.args.self.now commits))
    (seen_told (g.D.Disk.tells c.args.self.now.redo.log.disk)
    (cells_under_records g.D.Disk.clock g.D.Disk.past c.args.self.now.redo) s.told)
    (columns_before g.D.Disk.tells g.D.Disk.clock g.D.Disk.past c.args.self.now commits s))
    (unplanned_since g.D.Disk.tells g.D.Disk.clock g.D.Disk.past g.D.Disk.fault_count c.args.self.now _
    (record { redo = c.planned.ensures.keeps; queue = refl; accepted = refl; cleaned = refl; bases = refl }) c.in-Err.fault)
    c.in-Err.ensures.cause

pub returns-in-Ok-clause-after : goal.returns-in-Ok-clause-after
returns-in-Ok-clause-after g c =
    after_on g.D.Disk.clock g.D.Disk.past g.D.Disk.fault_count c.args.self.now _ c.append.new.self
    (comes_read g.D.Disk.clock g.D.Disk.past g.D.Disk.fault_count c.args.self.now _ g.D.Disk.tells c.planned.ensures.keeps) c.append.ensures.after

pub returns-in-Ok-clause-later : goal.returns-in-Ok-clause-later
returns-in-Ok-clause-later g c commits s = comes_with g.D.Disk.clock g.D.Disk.past g.D.Disk.fault_count c.args.self.now _ commits (returns-in-Ok-clause-after g c)
