use Rattle.std.proofs.Common.{◌≡◌}
use Rattle.sdb_base.specs.Keeping.{Commits}
use Rattle.sdb_serve.specs.inner.Kept.{ClearsAlike, IsKeptState}
use Rattle.trie_model.specs.State.{State}
use Rattle.trie_read.specs.Walks.{IsWalking}
use Rattle.sdb_serve.proofs.NodeFetches.{IsFetching}
use Rattle.sdb_serve.proofs.nodes.keys_under.Given as goal

abbrev pub invariant-loop : goal.invariant-loop
invariant-loop g l = record {
  stands : (commits : Commits) → g.K.Keeper.stands l.fn.keeper commits → g.K.Keeper.stands l.keeper commits;
  later : (commits : Commits) → g.K.Keeper.stands l.fn.keeper commits → g.K.Keeper.later l.fn.keeper commits l.keeper commits;
  outside : g.K.Keeper.only_reads l.fn.keeper l.keeper;
  pipeline : g.K.Keeper.pipeline l.keeper ≡ g.K.Keeper.pipeline l.fn.keeper;
  counted : g.K.Keeper.fault_count l.keeper ≡ g.K.Keeper.fault_count l.fn.keeper;
  at : (commits : Commits) (m : State) → g.K.Keeper.stands l.fn.keeper commits → ClearsAlike g.K.Keeper.clear → IsKeptState commits l.fn.root.0 m
      → IsFetching commits (IsWalking l.job m l.fn.prefix);
}
