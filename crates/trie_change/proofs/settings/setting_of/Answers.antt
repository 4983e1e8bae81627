use Rattle.std.proofs.Common.{subst, sym, Option, ℕ, List}
use Rattle.std.specs.Prelude.{◌≤◌, IfSome, length}
use Rattle.trie_model.specs.Limits.{most_in_value}
use Rattle.trie_model.specs.Node.{IsPartial}
use Rattle.trie_change.proofs.LastSets.{partial_of_key}
use Rattle.trie_change.proofs.settings.setting_of.Goals as goal

pub returns-in-None-clause-limits : goal.returns-in-None-clause-limits
returns-in-None-clause-limits c = record {
  path = subst IsPartial (sym c.in_ok-path.ensures) (partial_of_key c.args.key.now c.are_bytes.ensures c.requires.key);
  value = tt;
}

pub returns-in-Some-clause-limits : goal.returns-in-Some-clause-limits
returns-in-Some-clause-limits c = record {
  path = subst IsPartial (sym c.in_ok-path.ensures) (partial_of_key c.args.key.now c.are_bytes.ensures c.requires.key);
  value = subst (λ (o : Option (List ℕ)). IfSome o (λ v. length v ≤ most_in_value)) c.in-Some.is c.requires.value;
}
