use Rattle.std.proofs.Common.{subst, ap}
use Rattle.std.specs.Prelude.{IsTrue}
use Rattle.std.proofs.lemmas.Result.{err_from_is_err_and}
use Rattle.pdb_disk.specs.Files.{Files, reads_of}
use Rattle.pdb_model.specs.Files.{head_cell}
use Rattle.pdb_model.specs.Recovery.{cells_of_files}
use Rattle.pdb_recover.specs.Heads.{IsSteadyHead}
use Rattle.pdb_recover.proofs.ReadBytes.{same_files}
use Rattle.pdb_recover.proofs.ReadHeads.{both_steady, first_damaged, second_damaged}
use Rattle.pdb_recover.proofs.heads.check_heads.Goals as goal

pub returns-clause-steady : goal.returns-clause-steady
returns-clause-steady g c told =
    let o = c.in_ok-check_head.ensures.only_reads in
    let same = same_files g.D.Disk.clock g.D.Disk.past c.args.disk.now c.check_head.new.disk o.time o.unchanged in
    both_steady (cells_of_files (reads_of (g.D.Disk.past c.args.disk.now (g.D.Disk.clock c.args.disk.now)))) (c.in_ok-check_head.ensures.steady told)
    (subst (λ (fs : Files). IsSteadyHead (head_cell (cells_of_files (reads_of fs)) 1)) same (c.in_ok-check_head-2.ensures.steady (o.told told)))

pub returns-in_err-check_head-clause-causes : goal.returns-in_err-check_head-clause-causes
returns-in_err-check_head-clause-causes g c =
    let p = err_from_is_err_and c.from_residual.result c.from_residual.ensures.1 in
    let x = cells_of_files (reads_of (g.D.Disk.past c.args.disk.now (g.D.Disk.clock c.args.disk.now))) in
    rw (p.1, p.2) (first_damaged (IsTrue (g.D.Disk.tells c.args.disk.now)) x c.in_err-check_head.field-0.0 c.in_err-check_head.ensures.causes)

pub returns-in_err-check_head-2-clause-causes : goal.returns-in_err-check_head-2-clause-causes
returns-in_err-check_head-2-clause-causes g c =
    let p = err_from_is_err_and c.from_residual-in_err-check_head-2.result c.from_residual-in_err-check_head-2.ensures.1 in
    let o = c.in_ok-check_head.ensures.only_reads in
    let same = same_files g.D.Disk.clock g.D.Disk.past c.args.disk.now c.check_head.new.disk o.time o.unchanged in
    let x = cells_of_files (reads_of (g.D.Disk.past c.args.disk.now (g.D.Disk.clock c.args.disk.now))) in
    rw (p.1, p.2) (second_damaged (IsTrue (g.D.Disk.tells c.args.disk.now)) (IsTrue (g.D.Disk.tells c.check_head.new.disk)) x _ c.in_err-check_head-2.field-0.0
    o.told (ap (λ (fs : Files). cells_of_files (reads_of fs)) same) c.in_ok-check_head.ensures.steady c.in_err-check_head-2.ensures.causes)
