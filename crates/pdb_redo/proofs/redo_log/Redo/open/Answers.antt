use Rattle.std.proofs.Common.{sym, ◌∙◌, subst, arith}
use Rattle.pdb_disk.specs.Moments.{Moments}
use Rattle.pdb_model.specs.Recovery.{Safe}
use Rattle.pdb_redo.proofs.OpenReads.{head_of_row, moments_read, still_recovered}
use Rattle.pdb_redo.proofs.redo_log.Redo.open.Goals as goal

pub returns-in-Ok-clause-any_moment : goal.returns-in-Ok-clause-any_moment
returns-in-Ok-clause-any_moment g c rows f told clear safe =
    let read = c.read_heads.ensures in
    subst (λ d. Moments (g.D.Disk.clock c.args.disk) (g.D.Disk.clock d) (g.D.Disk.past c.args.disk) (g.D.Disk.past d) (Safe rows f)) (sym c.over.ensures.disk)
    (moments_read g.D.Disk.clock g.D.Disk.past c.in_ok-recovered.recovered.disk c.read_heads.new.disk read.time read.unchanged _ (Safe rows f)
    (c.in_ok-recovered.ensures.any_moment rows f told clear safe))

pub returns-in-Ok-clause-opened : goal.returns-in-Ok-clause-opened
returns-in-Ok-clause-opened g c row told laid =
    let read = c.read_heads.ensures in
    let disk = c.in_ok-recovered.recovered.disk in
    let told1 = c.in_ok-recovered.ensures.told told in
    let is = (c.in_ok-recovered.ensures.recovered row told laid).0 in
    let image = g.met.D.Disk.read_is_image disk (g.D.Disk.clock disk) told1 (omega arith) in
    c.over.ensures.stands row (read.told told1)
    (still_recovered g.D.Disk.clock g.D.Disk.past disk c.read_heads.new.disk read.time read.unchanged _ row is)
    (c.in-Ok.ensures.first told1 ∙ head_of_row _ _ row 0 image is)
    (c.in-Ok.ensures.second told1 ∙ head_of_row _ _ row 1 image is)

pub returns-in-Err-clause-any_moment : goal.returns-in-Err-clause-any_moment
returns-in-Err-clause-any_moment g c rows f told clear safe =
    let read = c.read_heads.ensures in
    moments_read g.D.Disk.clock g.D.Disk.past c.in_ok-recovered.recovered.disk c.read_heads.new.disk read.time read.unchanged _ (Safe rows f)
    (c.in_ok-recovered.ensures.any_moment rows f told clear safe)
