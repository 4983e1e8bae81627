use Rattle.std.proofs.Common.{◌*◌, refl, sym, ap, subst}
use Rattle.pdb_disk.specs.Files.{reads_of}
use Rattle.pdb_recover.specs.Heads.{IsSteadyHead}
use Rattle.pdb_recover.proofs.ReadHeads.{head_cell_is}
use Rattle.pdb_recover.proofs.heads.check_head.Goals as goal

pub returns-in-Ok-clause-steady : goal.returns-in-Ok-clause-steady
returns-in-Ok-clause-steady g c told =
    let x = reads_of (g.D.Disk.past c.args.disk.now (g.D.Disk.clock c.args.disk.now)) in
    let same = head_cell_is x c.args.column (256 * c.from.result) c.read_at.new.into c.read_at.auto.into (ap (λ n. 256 * n) c.from.ensures) (c.in-Ok.ensures.bytes told) in
    subst IsSteadyHead same c.if-is_steady_head.ensures

pub returns-in-Ok-2-clause-causes : goal.returns-in-Ok-2-clause-causes
returns-in-Ok-2-clause-causes g c = (
  refl,
  (
    c.from-in-Ok-2.ensures,
    λ told steady.
        let x = reads_of (g.D.Disk.past c.args.disk.now (g.D.Disk.clock c.args.disk.now)) in
        let same = head_cell_is x c.args.column (256 * c.from.result) c.read_at.new.into c.read_at.auto.into (ap (λ n. 256 * n) c.from.ensures) (c.in-Ok.ensures.bytes told) in
        c.if-is_steady_head.ensures (subst IsSteadyHead (sym same) steady),
  ),
)
