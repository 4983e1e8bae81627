use Rattle.std.proofs.Common.{sym, ap, subst, ◌∙◌}
use Rattle.std.proofs.lemmas.Result.{err_from_is_err_and}
use Rattle.pdb_model.specs.Tables.{held}
use Rattle.pdb_value.specs.Faults.{HasTable}
use Rattle.pdb_column.specs.inner.Changes.{IsOfKey}
use Rattle.pdb_column.proofs.Read.{counted_of_key}
use Rattle.pdb_column.proofs.find.is_of_key.Goals as goal

pub returns-clause-held : goal.returns-clause-held
returns-clause-held g c cells h seen some named =
    subst (IsOfKey c.args.base c.args.entry h c.args.key.now) (sym c.is_some.ensures)
    (counted_of_key c.args.base c.args.entry h c.args.key.now c.in_ok-counted.counted
    (c.in_ok-counted.ensures.held cells named.table h seen (subst (λ n. HasTable cells c.args.column n named.table) (sym c.address.ensures.tier) named.spelled) (ap (λ s. held (named.table.slot s)) c.address.ensures.slot ∙ named.holds)))

pub returns-in_err-counted-clause-sound : goal.returns-in_err-counted-clause-sound
returns-in_err-counted-clause-sound g c cells seen named =
    let at = named c.if-entry-eq0.false in
    let p = err_from_is_err_and c.from_residual.result c.from_residual.ensures.1 in
    rw (p.1, p.2) (c.in_err-counted.ensures.sound cells at.1.table at.0 seen at.1.keeps (subst (λ n. HasTable cells c.args.column n at.1.table) (sym c.address.ensures.tier) at.1.spelled) (ap (λ s. held (at.1.table.slot s)) c.address.ensures.slot ∙ at.1.holds))
