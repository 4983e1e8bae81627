-- What a change puts, beside what is kept of the state before it, is all of the state after it.
use Rattle.std.proofs.Common.{◌≡◌, ◌⊎◌, ℕ, Bool, true, false, List, [], map, refl, ap, subst, inl, inr}
use Rattle.std.specs.Prelude.{◌&&◌, not}
use Rattle.std.specs.Str.{bytes_eq}
use Rattle.std.proofs.lemmas.Slice.Eq.{bytes_eq-Decides}
use Rattle.sdb_base.specs.Keeping.{Commits}
use Rattle.sdb_base.specs.declared.node.Node.{Node}
use Rattle.trie_change.specs.Deltas.{IsDelta, IsDeltaOf, hashed}
use Rattle.trie_change.specs.declared.delta.Delta.{Delta}
use Rattle.trie_change.proofs.SetBy.{any_found}
use Rattle.trie_model.specs.Nodes.{PathNode, has_node, put_nodes, stored_nodes}
use Rattle.trie_model.specs.State.{State}
use Rattle.trie_model.specs.Trie.{trie_root}
use Rattle.trie_read.proofs.Among.{Among, among_kept, contains_from, kept_among}
use Rattle.sdb_serve.specs.inner.Kept.{HasNodes, IsKept}

-- These nodes with their hashes are put for the state of this root: they are stored nodes of it, and each other one is kept.
pub record LeadsTo (old : Commits) (state : State) (root : List ℕ) (nodes : List Node) : Type 0 where
  pub root_is : root ≡ trie_root state
  pub puts : List PathNode
  pub puts_are : nodes ≡ map hashed puts
  pub stored : (n : PathNode) → Among n puts → Among n (stored_nodes state)
  pub covers : (n : PathNode) → Among n (stored_nodes state) → IsKept old n.bytes ⊎ Among n puts

second : (a b : Bool) → (a && b) ≡ true → b ≡ true
second true b e = e
second false b e = absurd cc

has_alike : (nodes : List PathNode) (n : PathNode) → has_node nodes n ≡ true → (o : PathNode) × Among o nodes × (o.bytes ≡ n.bytes)
has_alike nodes n e =
    let found = any_found (λ (o : PathNode). bytes_eq o.path n.path && bytes_eq o.bytes n.bytes) nodes e in
    (found.0, found.1, (bytes_eq-Decides found.0.bytes n.bytes).0 (second (bytes_eq found.0.path n.path) (bytes_eq found.0.bytes n.bytes) found.2))

pub delta_leads : (old : Commits) (d : Delta) (m after : State) → HasNodes old m → IsDelta d m after → LeadsTo old after d.root.0 d.puts
delta_leads old d m after has is = record {
  root_is = is.root_is;
  puts = put_nodes m after;
  puts_are = is.puts_are;
  stored = λ n a. (among_kept n (λ o. not (has_node (stored_nodes m) o)) (stored_nodes after) a).0;
  covers = λ n a. by_test n a (has_node (stored_nodes m) n) refl;
}
  where
    by_test : (n : PathNode) → Among n (stored_nodes after) → (t : Bool) → has_node (stored_nodes m) n ≡ t → IsKept old n.bytes ⊎ Among n (put_nodes m after)
    by_test n a true e =
        let alike = has_alike (stored_nodes m) n e in
        inl (subst (λ (bytes : List ℕ). IsKept old bytes) alike.2 (has alike.0 (contains_from alike.0 (stored_nodes m) alike.1)))
    by_test n a false e = inr (kept_among n (λ o. not (has_node (stored_nodes m) o)) (stored_nodes after) a (ap not e))

pub creation_leads : (old : Commits) (d : Delta) (after : State) → IsDeltaOf d (trie_root after) (stored_nodes after) [] → LeadsTo old after d.root.0 d.puts
creation_leads old d after is = record {
  root_is = is.root_is;
  puts = stored_nodes after;
  puts_are = is.puts_are;
  stored = λ n a. a;
  covers = λ n a. inr a;
}
