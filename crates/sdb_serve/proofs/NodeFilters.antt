-- What a job fetches is kept where the stored nodes of the state are.
use Rattle.std.proofs.Common.{ℕ, Bool, List, [], ◌∷◌, map, refl, inl, inr}
use Rattle.std.specs.Prelude.{filter}
use Rattle.std.specs.List.{AllByRecursion}
use Rattle.sdb_base.specs.declared.Change.{Change}
use Rattle.sdb_base.specs.Keeping.{Commits}
use Rattle.trie_model.specs.Fetches.{change_fetches, is_changed, is_unhung, next_fetches, read_fetches, walk_fetches}
use Rattle.trie_model.specs.Nodes.{PathNode, all_nodes, stored_nodes}
use Rattle.trie_model.specs.State.{State, apply}
use Rattle.trie_read.proofs.Among.{Among, among_either, among_kept, contains_from}
use Rattle.sdb_serve.specs.inner.Kept.{HasNodes, IsKept}

all_among : (P : PathNode → Type 0) (ns : List PathNode) → ((n : PathNode) → Among n ns → P n) → AllByRecursion P ns
all_among P [] each = tt
all_among P (n ∷ ns) each = (each n (inl refl), all_among P ns (λ o a. each o (inr a)))

module _ (commits : Commits) (m : State) (has : HasNodes commits m) where
  filtered : (test : PathNode → Bool) (n : PathNode) → Among n (filter test (stored_nodes m)) → IsKept commits n.bytes
  filtered test n a = has n (contains_from n (stored_nodes m) (among_kept n test (stored_nodes m) a).0)

  pub read_kept : (key : List ℕ) → AllByRecursion (λ (n : PathNode). IsKept commits n.bytes) (read_fetches m key)
  read_kept key = all_among (λ (n : PathNode). IsKept commits n.bytes) (read_fetches m key) (λ n a. filtered _ n a)

  pub next_kept : (key : List ℕ) → AllByRecursion (λ (n : PathNode). IsKept commits n.bytes) (next_fetches m key)
  next_kept key = all_among (λ (n : PathNode). IsKept commits n.bytes) (next_fetches m key) (λ n a. filtered _ n a)

  pub walk_kept : (prefix : List ℕ) → AllByRecursion (λ (n : PathNode). IsKept commits n.bytes) (walk_fetches m prefix)
  walk_kept prefix = all_among (λ (n : PathNode). IsKept commits n.bytes) (walk_fetches m prefix) (λ n a. filtered _ n a)

  pub change_kept : (changes : List Change) → AllByRecursion (λ (n : PathNode). IsKept commits n.bytes) (change_fetches m changes)
  change_kept changes =
      let keys : List (List ℕ) = map (λ (c : Change). c.key) changes in
      let after : List PathNode = all_nodes (apply m changes) in
      all_among (λ (n : PathNode). IsKept commits n.bytes) (change_fetches m changes) (λ n a.
      elim (among_either n (filter (is_changed keys) (stored_nodes m)) (filter (is_unhung after keys) (stored_nodes m)) a) [
        | inl l ↦ filtered (is_changed keys) n l
        | inr r ↦ filtered (is_unhung after keys) n r
      ])
