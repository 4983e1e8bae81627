use Rattle.std.proofs.Common.{Some, ap, sym, ◌∙◌}
use Rattle.sdb_base.specs.Content.{meta_after, node_after, with_reference, without_reference}
use Rattle.sdb_mapkeeper.specs.inner.Applying.{meta_in, node_in}
use Rattle.sdb_base.specs.declared.op.Op.TheVariants.{AddRef, Put}
use Rattle.sdb_mapkeeper.proofs.Applying.{meta_changed, node_changed, places_stay}
use Rattle.sdb_mapkeeper.proofs.columns.Columns.apply.Goals as goal

pub returns-in-AddRef-clause-nodes : goal.returns-in-AddRef-clause-nodes
returns-in-AddRef-clause-nodes c key =
    let a = c.args.self.now in
    node_changed a.nodes.places c.add.new.self.places c.in-AddRef.key (with_reference c.replace-bytes.result)
    c.add.ensures.holds key
    ∙ ap (λ bytes. node_after key (node_in a key) (AddRef c.in-AddRef.key bytes)) c.replace-bytes.ensures.value
    ∙ ap (node_after key (node_in a key)) (sym c.in-AddRef.is)

pub returns-in-AddRef-clause-stay : goal.returns-in-AddRef-clause-stay
returns-in-AddRef-clause-stay c =
    places_stay c.args.self.now (record c.args.self.now { nodes = c.add.new.self }) c.add.ensures.stay (λ q has. has)

pub returns-in-DropRef-clause-nodes : goal.returns-in-DropRef-clause-nodes
returns-in-DropRef-clause-nodes c key =
    let a = c.args.self.now in
    node_changed a.nodes.places c.release.new.self.places c.in-DropRef.key without_reference c.release.ensures.holds key
    ∙ ap (node_after key (node_in a key)) (sym c.in-DropRef.is)

pub returns-in-DropRef-clause-stay : goal.returns-in-DropRef-clause-stay
returns-in-DropRef-clause-stay c =
    places_stay c.args.self.now (record c.args.self.now { nodes = c.release.new.self }) c.release.ensures.stay (λ q has. has)

pub returns-in-Put-clause-metas : goal.returns-in-Put-clause-metas
returns-in-Put-clause-metas c key =
    let a = c.args.self.now in
    meta_changed a.metas.places c.set.new.self.places c.in-Put.key (Some (record { count = 1; bytes = c.replace-bytes-in-Put.result }))
    c.set.ensures.holds key
    ∙ ap (λ bytes. meta_after key (meta_in a key) (Put c.in-Put.key bytes)) c.replace-bytes-in-Put.ensures.value
    ∙ ap (meta_after key (meta_in a key)) (sym c.in-Put.is)

pub returns-in-Erase-clause-metas : goal.returns-in-Erase-clause-metas
returns-in-Erase-clause-metas c key =
    let a = c.args.self.now in
    meta_changed a.metas.places c.clear.new.self.places c.in-Erase.key _ c.clear.ensures.holds key
    ∙ ap (meta_after key (meta_in a key)) (sym c.in-Erase.is)
