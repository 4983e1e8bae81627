use Rattle.sdb_base.proofs.Orders.{meta_from-append, node_from-append}
use Rattle.sdb_base.proofs.laws.operations_apply_in_order.Goals as goal

pub returns-clause-nodes : goal.returns-clause-nodes
returns-clause-nodes c = node_from-append

pub returns-clause-metas : goal.returns-clause-metas
returns-clause-metas c = meta_from-append
