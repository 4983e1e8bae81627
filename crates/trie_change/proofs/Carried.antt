-- Which nodes a change carries over, and which it fetches.
use Rattle.std.proofs.Common.{◌≡◌, ℕ, Bool, true, false, List, refl, ap, ap₂, subst, sym, ◌∙◌}
use Rattle.std.specs.Prelude.{◌&&◌, Contains, filter, not}
use Rattle.sdb_base.specs.declared.Change.{Change}
use Rattle.trie_model.specs.Fetches.{change_fetches, is_changed, is_unhung}
use Rattle.trie_model.specs.Node.{spelling}
use Rattle.trie_model.specs.Nodes.{PathNode, all_nodes, all_over, dropped_nodes, has_node, has_path, is_stored, stored_nodes}
use Rattle.trie_model.specs.State.{State, apply}
use Rattle.trie_model.specs.Trie.{Suffix, below, node_of_all, suffixes_of}
use Rattle.trie_read.specs.Paths.{IsHung}
use Rattle.trie_read.proofs.Among.{Among, among_from, among_kept, among_left, among_right, contains_from, kept_among}
use Rattle.trie_read.proofs.Stored.{is_hung}
use Rattle.trie_change.specs.ChangedKeys.{keys_in_changes}
use Rattle.trie_change.proofs.Found.{has_it, path_found}
use Rattle.trie_change.proofs.Unchanged.{below_stays}

alike : (x y : PathNode) → x.path ≡ y.path → x.bytes ≡ y.bytes → x ≡ y
alike x y e k = λ i. record { path = e i; bytes = k i }

-- nodes that hang at one path over the same suffixes are one node
one_at : (ss ts : List Suffix) (n o : PathNode) → IsHung ss n → IsHung ts o → o.path ≡ n.path → below n.path ts ≡ below n.path ss → o ≡ n
one_at ss ts n o h k at same =
    alike o n at (k.bytes ∙ ap (λ (p : List ℕ). spelling (node_of_all (below p ts))) at
    ∙ ap (λ (us : List Suffix). spelling (node_of_all us)) same ∙ sym h.bytes)

-- where a path has a node in both tries, and they have the same suffixes below it, the one node is in both
pub carried : (ss ts : List Suffix) (n : PathNode) → Among n (all_over ss) → below n.path ts ≡ below n.path ss → has_path (all_over ts) n.path ≡ true
    → Among n (all_over ts)
carried ss ts n a same there =
    let at : (o : PathNode) × (o.path ≡ n.path) × Among o (all_over ts) = path_found (all_over ts) n.path there in
    subst (λ (x : PathNode). Among x (all_over ts)) (one_at ss ts n at.0 (is_hung ss n a) (is_hung ts at.0 at.2) at.1 same) at.2

pub carried_stored : (m n : State) (x : PathNode) → Among x (stored_nodes m) → below x.path (suffixes_of n) ≡ below x.path (suffixes_of m)
    → has_path (all_nodes n) x.path ≡ true → Among x (stored_nodes n)
carried_stored m n x a same there =
    let was : Among x (all_nodes m) × (is_stored x ≡ true) = among_kept x is_stored (all_nodes m) a in
    kept_among x is_stored (all_nodes n) (carried (suffixes_of m) (suffixes_of n) x was.0 same there) was.1

-- a stored node is fetched or carried over
pub data IsHandled (m : State) (cs : List Change) (n : PathNode) : Type 0 where
  fetched : Among n (change_fetches m cs) → IsHandled m cs n
  left : Among n (stored_nodes (apply m cs)) → IsHandled m cs n

handled : (m : State) (cs : List Change) (n : PathNode) → Among n (stored_nodes m) → IsHandled m cs n
handled m cs n a = by_tests (is_changed keys n) (has_path after n.path) refl refl
  where
    keys : List (List ℕ)
    keys = keys_in_changes cs

    after : List PathNode
    after = all_nodes (apply m cs)

    on_the_way : List PathNode
    on_the_way = filter (is_changed keys) (stored_nodes m)

    unhung : List PathNode
    unhung = filter (is_unhung after keys) (stored_nodes m)

    by_tests : (b c : Bool) → is_changed keys n ≡ b → has_path after n.path ≡ c → IsHandled m cs n
    by_tests true c h k = fetched (among_left n on_the_way unhung (kept_among n (is_changed keys) (stored_nodes m) a h))
    by_tests false false h k =
        fetched (among_right n on_the_way unhung
        (kept_among n (is_unhung after keys) (stored_nodes m) a (ap₂ (λ (x y : Bool). not x && not y) h k)))
    by_tests false true h k = left (carried_stored m (apply m cs) n a (below_stays m cs n h) k)

pub unfetched_stays : (m : State) (cs : List Change) (n : PathNode) → Contains (stored_nodes m) n → (Contains (change_fetches m cs) n → ⊥)
    → Contains (stored_nodes (apply m cs)) n
unfetched_stays m cs n c none = elim (handled m cs n (among_from n (stored_nodes m) c)) [
  | fetched a ↦ absurd (none (contains_from n (change_fetches m cs) a))
  | left a ↦ contains_from n (stored_nodes (apply m cs)) a
]

pub dropped_fetched : (m : State) (cs : List Change) (n : PathNode) → Contains (dropped_nodes m (apply m cs)) n → Contains (change_fetches m cs) n
dropped_fetched m cs n c =
    let others : List PathNode = stored_nodes (apply m cs) in
    let gone : Among n (stored_nodes m) × (not (has_node others n) ≡ true) =
    among_kept n (λ x. not (has_node others x)) (stored_nodes m) (among_from n (dropped_nodes m (apply m cs)) c) in
    elim (handled m cs n gone.0) [
      | fetched a ↦ contains_from n (change_fetches m cs) a
      | left a ↦ let no : false ≡ true = sym (ap not (has_it others n a)) ∙ gone.1 in absurd cc
    ]
