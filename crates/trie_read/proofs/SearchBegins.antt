-- A search begins at the root.
use Rattle.std.proofs.Common.{◌≡◌, ℕ, Bool, true, false, cond, List, [], ◌∷◌, Option, Some, None, refl, ap, ap₂, subst, sym, ◌∙◌, inl}
use Rattle.std.specs.Prelude.{All, filter}
use Rattle.std.specs.FinMap.{entries}
use Rattle.std.proofs.lemmas.List.{append-nil}
use Rattle.sdb_base.specs.Nibbles.{nibbles_of}
use Rattle.sdb_blake2.specs.Blake2b.{H}
use Rattle.trie_model.specs.Fetches.{next_fetches}
use Rattle.trie_model.specs.Node.{spelling}
use Rattle.trie_model.specs.Nodes.{PathNode, stored_nodes}
use Rattle.trie_model.specs.State.{State}
use Rattle.trie_model.specs.Trie.{Suffix, below, node_of_all, root_node, suffixes_of, trie_root}
use Rattle.trie_root.specs.Suffixes.{IsEntry}
use Rattle.trie_read.specs.Searches.{IsSeeking, is_for_next}
use Rattle.trie_read.specs.inner.Parts.{HasSettled, OfNode, in_front, is_above, keys_under, leads_above, nodes_under}
use Rattle.trie_read.specs.declared.next_job.NextJob.{NextJob}
use Rattle.trie_read.specs.declared.parts.Stored.{Stored}
use Rattle.trie_read.proofs.Hanging.{below-nil}
use Rattle.trie_read.proofs.KeysAbove.{keys_of_search}
use Rattle.trie_read.proofs.FarNodes.{far_fails}
use Rattle.trie_read.proofs.Seeking.{Seeks, seeks_as}
use Rattle.trie_read.proofs.SearchEnds.{search_stage}

-- a test that keeps none of what another drops keeps the same after it
filter_after : (test other : PathNode → Bool) → ((n : PathNode) → other n ≡ false → test n ≡ false) → (ns : List PathNode) → filter test (filter other ns) ≡ filter test ns
filter_after test other drops [] = refl
filter_after test other drops (n ∷ ns) = elim (other n) as (λ b. other n ≡ b → filter test (cond b (n ∷ filter other ns) (filter other ns)) ≡ filter test (n ∷ ns)) [
  | true ↦ λ yes. ap (λ (xs : List PathNode). cond (test n) (n ∷ xs) xs) (filter_after test other drops ns)
  | false ↦ λ no. filter_after test other drops ns ∙ sym (ap (λ b. cond b (n ∷ filter test ns) (filter test ns)) (drops n no))
] refl

pub root_seeks : (m : State) (key : List ℕ) → All IsEntry (entries m) → Seeks m key (OfNode (trie_root m) [] ∷ []) [] (nodes_under (leads_above (nibbles_of key)) [] (below [] (suffixes_of m))) (next_fetches m key)
unfolding trie_root root_node
root_seeks m key within =
    let ss : List Suffix = suffixes_of m in
    let q : List ℕ = nibbles_of key in
    let keys : List (List ℕ) = keys_under (is_above q) [] (below [] ss) in
    let nodes : List PathNode = nodes_under (leads_above q) [] (below [] ss) in
    let same : below [] ss ≡ ss = below-nil ss in
    record {
      stands = record {
        sound = (record { is_hash = ap (λ (us : List Suffix). H (spelling (node_of_all us))) (sym same); stored = refl; near = refl; some = inl refl }, tt);
        keys = append-nil keys ∙ ap (keys_under (is_above q) []) same ∙ keys_of_search m key within;
        nodes = append-nil nodes;
      };
      led = tt;
      enough = λ e. refl;
      wants = ap (λ (us : List Suffix). filter (is_for_next m key) (nodes_under (leads_above q) [] us)) same
          ∙ filter_after (is_for_next m key) (λ (n : PathNode). leads_above q n.path) (far_fails m key) (stored_nodes m);
    }

pub first_sought : (j : NextJob) (m : State) (key : List ℕ) (s : Stored) → All IsEntry (entries m) → j.key ≡ nibbles_of key → j.wanted ≡ Some s → j.nearest ≡ None
    → s.hash.0 ≡ trie_root m → s.path.items ≡ [] → IsSeeking j m key (next_fetches m key)
first_sought j m key s within nibbles wanted none hash path =
    let nodes : List PathNode = nodes_under (leads_above (nibbles_of key)) [] (below [] (suffixes_of m)) in
    let kept : OfNode (trie_root m) [] ∷ [] ≡ in_front j.wanted j.nearest =
    ap₂ (λ (x y : List ℕ). OfNode x y ∷ []) (sym hash) (sym path) ∙ ap₂ in_front (sym wanted) (sym none) in
    let seeks : Seeks m key (in_front j.wanted j.nearest) [] nodes (next_fetches m key) =
    seeks_as m key (OfNode (trie_root m) [] ∷ []) (in_front j.wanted j.nearest) [] nodes (next_fetches m key) kept (root_seeks m key within) in
    let settled : HasSettled j.wanted j.nearest = subst (λ (o : Option Stored). HasSettled o j.nearest) (sym wanted) tt in
    record {
      within = within;
      key = nibbles;
      others = [];
      nodes = nodes;
      stands = seeks.stands;
      led = seeks.led;
      enough = seeks.enough;
      wants = seeks.wants;
      stage = search_stage j m key within [] nodes (next_fetches m key) seeks settled;
    }
