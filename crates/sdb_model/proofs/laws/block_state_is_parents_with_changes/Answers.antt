use Rattle.std.proofs.Common.{Some, None, cond, ap, ◌∙◌}
use Rattle.sdb_model.specs.State.{apply, no_keys}
use Rattle.sdb_model.proofs.Chains.{same_id-refl, number-first, number-genesis, state-first, state-genesis}
use Rattle.sdb_model.proofs.laws.block_state_is_parents_with_changes.Goals as goal

pub returns-clause-genesis : goal.returns-clause-genesis
returns-clause-genesis c b = (
  (number-genesis b b.id ∙ ap (λ t. cond t (Some 0) None) (same_id-refl b.id)),
  (state-genesis b b.id ∙ ap (λ t. cond t (Some (apply no_keys b.changes)) None) (same_id-refl b.id)),
)

pub returns-clause-number : goal.returns-clause-number
returns-clause-number c b parent older n e = number-first b parent older n e b.id (same_id-refl b.id)

pub returns-clause-state : goal.returns-clause-state
returns-clause-state c b parent older m e = state-first b parent older m e b.id (same_id-refl b.id)
