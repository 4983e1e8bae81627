-- Commits that begin with others.
use Rattle.std.specs.Prelude.{◌≡◌, [], ◌++◌}
use Rattle.std.proofs.Common.{◌∙◌, ap, append_assoc, sym}
use Rattle.std.proofs.lemmas.List.{append-nil}
use Rattle.sdb_base.specs.Keeping.{Commits}

pub ends_here : (g : Commits) → g ≡ g ++ []
ends_here g = sym (append-nil g)

pub goes_on : (g h i : Commits) → ((more : Commits) × (h ≡ g ++ more)) → ((more : Commits) × (i ≡ h ++ more))
    → ((more : Commits) × (i ≡ g ++ more))
goes_on g h i p q = (p.0 ++ q.0, q.1 ∙ ap (λ (h : Commits). h ++ q.0) p.1 ∙ append_assoc g p.0 q.0)
