use Rattle.std.proofs.Common.{Bool, sym, subst}
use Rattle.std.proofs.lemmas.Result.{err_from_is_err_and}
use Rattle.sdb_io.specs.Faults.{CountsFault}
use Rattle.pdb_value.specs.Faults.{NoCell}
use Rattle.pdb_column.specs.Damages.{BreaksColumn}
use Rattle.pdb_column.proofs.Read.{as_said, same_fails}
use Rattle.pdb_column.proofs.look_up.get.Goals as goal

pub returns-in_err-found-clause-counted : goal.returns-in_err-found-clause-counted
returns-in_err-found-clause-counted g c =
    let p = err_from_is_err_and c.from_residual.result c.from_residual.ensures.1 in
    rw (p.1, p.2) (subst (λ b. CountsFault b (g.C.Cells.fault_count c.args.c.now) (g.C.Cells.fault_count c.look_up.new.c)) (sym (same_fails Bool Bool _)) c.in_err-found.ensures.counted)

pub returns-in_err-found-clause-sound : goal.returns-in_err-found-clause-sound
returns-in_err-found-clause-sound g c cells base content seen holds =
    let p = err_from_is_err_and c.from_residual.result c.from_residual.ensures.1 in
    rw (p.1, p.2) (as_said NoCell _ (c.in_err-found.ensures.sound cells base content seen holds))

pub returns-in_err-found-clause-faults : goal.returns-in_err-found-clause-faults
returns-in_err-found-clause-faults g c cells seen =
    let p = err_from_is_err_and c.from_residual.result c.from_residual.ensures.1 in
    rw (p.1, p.2) (as_said (BreaksColumn cells c.args.column) _ (c.in_err-found.ensures.faults cells seen))
