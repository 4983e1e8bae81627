use Rattle.std.proofs.Common.{sym, ap, subst, ◌∙◌}
use Rattle.std.proofs.lemmas.Result.{IfOk-weaker}
use Rattle.pdb_model.specs.Tables.{held}
use Rattle.pdb_value.specs.Faults.{HasTable}
use Rattle.pdb_value.specs.Values.{IsReadOf}
use Rattle.pdb_column.specs.inner.KeyChunks.{IsReadAt}
use Rattle.pdb_column.proofs.Read.{read_as}
use Rattle.pdb_column.proofs.look_up.read_at.Goals as goal

pub returns-clause-stays : goal.returns-clause-stays
returns-clause-stays g c cells seen = g.met.C.Cells.stays _ _ cells c.read_into.ensures.keeps seen

pub returns-clause-held : goal.returns-clause-held
returns-clause-held g c cells h seen some named =
    IfOk-weaker c.read_into.result (IsReadOf h c.args.key.now c.args.out.now.items c.read_into.new.out.items) (IsReadAt c.args.base c.args.entry h c.args.key.now c.read_into.new.out.items)
    (read_as c.args.base c.args.entry h c.args.key.now c.args.out.now.items c.read_into.new.out.items)
    (c.read_into.ensures.held cells named.table h seen (subst (λ n. HasTable cells c.args.column n named.table) (sym c.address.ensures.tier) named.spelled) (ap (λ s. held (named.table.slot s)) c.address.ensures.slot ∙ named.holds))

pub returns-clause-sound : goal.returns-clause-sound
returns-clause-sound g c cells seen named =
    let at = named c.if-entry-eq0.false in
    c.read_into.ensures.sound cells at.1.table at.0 seen at.1.keeps (subst (λ n. HasTable cells c.args.column n at.1.table) (sym c.address.ensures.tier) at.1.spelled) (ap (λ s. held (at.1.table.slot s)) c.address.ensures.slot ∙ at.1.holds)
