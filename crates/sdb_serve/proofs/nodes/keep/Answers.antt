use Rattle.std.proofs.Common.{List, subst, sym}
use Rattle.sdb_base.specs.declared.numbers.KeeperCall.TheVariants as calls
use Rattle.std.specs.Prelude.{All}
use Rattle.std.proofs.lemmas.List.Elements.{All-from_recursion}
use Rattle.sdb_base.specs.Keeping.{HasShortKey}
use Rattle.sdb_base.specs.declared.op.Op.{Op}
use Rattle.sdb_serve.specs.declared.nodes.NodeFault.{NodeFault}
use Rattle.sdb_serve.specs.BlockCommits.{references_to}
use Rattle.sdb_serve.specs.inner.Kept.{IsKeeperCause}
use Rattle.sdb_serve.proofs.KeeperFaults.{commit_cause}
use Rattle.sdb_serve.proofs.KeptNodes.{short_keys}
use Rattle.sdb_serve.proofs.nodes.keep.Goals as goal

pub commit-requires : goal.commit-requires
commit-requires g c =
    subst (λ (ops : List Op). All HasShortKey ops) (sym c.in_ok-ops.ensures) (All-from_recursion HasShortKey (references_to c.args.puts) (short_keys c.args.puts))

pub returns-in-Err-clause-cause : goal.returns-in-Err-clause-cause
returns-in-Err-clause-cause g c =
    subst (λ (e : NodeFault). IsKeeperCause (g.K.Keeper.due c.commit.new.self calls.Commit) e) (sym c.from.ensures)
    (commit_cause (g.K.Keeper.due c.commit.new.self calls.Commit) c.in-Err.fault c.args.puts c.in_ok-ops.ops c.requires c.in_ok-ops.ensures c.in-Err.ensures.cause)
