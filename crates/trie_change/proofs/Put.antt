-- A node that a change puts is on the way to a changed key, or at a path where none hung.
use Rattle.std.proofs.Common.{◌≡◌, ◌⊎◌, Bool, true, false, List, refl, ap, sym, ◌∙◌, inl, inr}
use Rattle.std.specs.Prelude.{Contains, not}
use Rattle.sdb_base.specs.declared.Change.{Change}
use Rattle.trie_model.specs.Fetches.{is_changed}
use Rattle.trie_model.specs.Nodes.{PathNode, all_nodes, has_node, has_path, put_nodes, stored_nodes}
use Rattle.trie_model.specs.State.{State, apply}
use Rattle.trie_read.proofs.Among.{Among, among_from, among_kept}
use Rattle.trie_change.specs.ChangedKeys.{keys_in_changes}
use Rattle.trie_change.proofs.Carried.{carried_stored}
use Rattle.trie_change.proofs.Found.{has_it}
use Rattle.trie_change.proofs.Unchanged.{below_stays}

pub put_is_new : (m : State) (cs : List Change) (n : PathNode) → Contains (put_nodes m (apply m cs)) n
    → (is_changed (keys_in_changes cs) n ≡ true) ⊎ (has_path (all_nodes m) n.path ≡ false)
put_is_new m cs n c = by_tests (is_changed (keys_in_changes cs) n) (has_path (all_nodes m) n.path) refl refl
  where
    new : Among n (stored_nodes (apply m cs)) × (not (has_node (stored_nodes m) n) ≡ true)
    new = among_kept n (λ x. not (has_node (stored_nodes m) x)) (stored_nodes (apply m cs)) (among_from n (put_nodes m (apply m cs)) c)

    by_tests : (b d : Bool) → is_changed (keys_in_changes cs) n ≡ b → has_path (all_nodes m) n.path ≡ d
        → (is_changed (keys_in_changes cs) n ≡ true) ⊎ (has_path (all_nodes m) n.path ≡ false)
    by_tests true d h k = inl h
    by_tests false false h k = inr k
    by_tests false true h k =
        let old : Among n (stored_nodes m) = carried_stored (apply m cs) m n new.0 (sym (below_stays m cs n h)) k in
        let no : false ≡ true = sym (ap not (has_it (stored_nodes m) n old)) ∙ new.1 in absurd cc
