use Rattle.std.proofs.Common.{◌≡◌, ◌++◌, length}
use Rattle.std.specs.Vec.Iter.{into_iter_items, into_iter_len}
use Rattle.sdb_serve.specs.BlockCommits.{references_to}
use Rattle.sdb_serve.proofs.nodes.references.Given as goal

abbrev pub invariant-loop-node : goal.invariant-loop-node
invariant-loop-node l = record {
  added : l.ops ++ references_to (into_iter_items l.node-iterator) ≡ references_to l.fn.nodes;
  left : into_iter_len l.node-iterator ≡ length (into_iter_items l.node-iterator);
}
