-- From one node that a walk waits for to the next.
use Rattle.std.proofs.Common.{◌≡◌, ℕ, Bool, List, [], ◌∷◌, map, reverse, Option, Some, None, refl, ap, ap₂, subst, sym, ◌∙◌, inl}
use Rattle.std.specs.Prelude.{All}
use Rattle.std.specs.List.{flat_map}
use Rattle.std.specs.Option.{option_map}
use Rattle.std.specs.FinMap.{entries}
use Rattle.std.proofs.lemmas.List.{append-nil}
use Rattle.sdb_base.specs.Nibbles.{nibbles_of}
use Rattle.sdb_blake2.specs.Blake2b.{H}
use Rattle.trie_model.specs.Fetches.{keys_with_prefix, walk_fetches}
use Rattle.trie_model.specs.Node.{spelling}
use Rattle.trie_model.specs.Nodes.{PathNode}
use Rattle.trie_model.specs.State.{State}
use Rattle.trie_model.specs.Trie.{Suffix, below, node_of_all, root_node, suffixes_of, trie_root}
use Rattle.trie_root.specs.Suffixes.{IsEntry}
use Rattle.trie_read.specs.inner.Parts.{OfKey, OfNode, Piece, StandFor, goes_on_with, in_order, is_near, keys_for, keys_under, nodes_for, nodes_under, as_pieces}
use Rattle.trie_read.specs.Walks.{IsWalkStage, IsWalking}
use Rattle.trie_read.specs.declared.parts.Part.{Part}
use Rattle.trie_read.specs.declared.parts.Stored.{Stored}
use Rattle.trie_read.specs.declared.walk_job.WalkJob.{WalkJob}
use Rattle.trie_read.proofs.Hanging.{below-nil}
use Rattle.trie_read.proofs.KeysInNibbles.{keys_of_walk}
use Rattle.trie_read.proofs.OneFed.{Ahead, ahead, keys_found, no_nodes_found}
use Rattle.trie_read.proofs.Standing.{stand_as}

-- where no node comes next and nothing is left there are the keys found
pub only_keys : (ks : List (List ℕ)) (next : Option Stored) (later : List Part) → next ≡ None → later ≡ [] → in_order ks next later ≡ map OfKey ks
only_keys ks next later none e =
    ap₂ (λ (o : Option Stored) (l : List Part). in_order ks o l) none e ∙ append-nil (map OfKey ks)

no_next : (next : Option Stored) → option_map (λ (s : Stored). s.hash.0) next ≡ None → next ≡ None
no_next None e = refl
no_next (Some s) e = let no : Some s.hash.0 ≡ None = e in absurd cc

pub stage_of : (j : WalkJob) (m : State) (keeps goes : List ℕ → Bool) (keys : List (List ℕ)) (todo : List PathNode)
    → StandFor (suffixes_of m) keeps goes (in_order j.found j.wanted j.later) keys todo → (j.wanted ≡ None → j.later ≡ []) → IsWalkStage j todo
stage_of j m keeps goes keys todo stand last = next j.wanted refl
  where
    next : (o : Option Stored) → j.wanted ≡ o → IsWalkStage j todo
    next None e =
        let none : todo ≡ [] =
        sym stand.nodes ∙ ap (flat_map (nodes_for (suffixes_of m) goes)) (only_keys j.found j.wanted j.later e (last e)) ∙ no_nodes_found (suffixes_of m) keeps goes j.found in
        subst (λ (ns : List PathNode). IsWalkStage j ns) (sym none) (ap (option_map (λ (s : Stored). s.hash.0)) e, last e)
    next (Some s) e =
        let a : Ahead (suffixes_of m) keeps goes s.hash.0 s.path.items (as_pieces (reverse j.later)) todo =
        ahead (suffixes_of m) keeps goes j.found keys s.hash.0 s.path.items (as_pieces (reverse j.later)) todo
        (subst (λ (o : Option Stored). StandFor (suffixes_of m) keeps goes (in_order j.found o j.later) keys todo) e stand) in
        subst (λ (ns : List PathNode). IsWalkStage j ns) (sym a.nodes) (ap (option_map (λ (t : Stored). t.hash.0)) e ∙ ap Some a.is.is_hash)

-- all nodes fed, the keys found are the keys with the prefix
pub all_walked : (j : WalkJob) (m : State) (prefix : List ℕ) → IsWalking j m prefix [] → j.found ≡ keys_with_prefix m prefix
all_walked j m prefix w =
    let parts : in_order j.found j.wanted j.later ≡ map OfKey j.found = only_keys j.found j.wanted j.later (no_next j.wanted w.stage.0) w.stage.1 in
    sym (keys_found (suffixes_of m) (goes_on_with (nibbles_of prefix)) (is_near (nibbles_of prefix)) j.found)
    ∙ ap (flat_map (keys_for (suffixes_of m) (goes_on_with (nibbles_of prefix)))) (sym parts) ∙ w.stands.keys

-- ---- the first node

alone : (ks : List (List ℕ)) (s : Stored) (later : List Part) (h p : List ℕ) → ks ≡ [] → later ≡ [] → s.hash.0 ≡ h → s.path.items ≡ p
    → OfNode h p ∷ [] ≡ in_order ks (Some s) later
alone ks s later h p none nothing hash path =
    ap₂ (λ (x y : List ℕ). OfNode x y ∷ []) (sym hash) (sym path) ∙ ap₂ (λ (k : List (List ℕ)) (l : List Part). in_order k (Some s) l) (sym none) (sym nothing)

pub root_stands : (m : State) (prefix : List ℕ) → All IsEntry (entries m) → StandFor (suffixes_of m) (goes_on_with (nibbles_of prefix)) (is_near (nibbles_of prefix))
    (OfNode (trie_root m) [] ∷ []) (keys_with_prefix m prefix) (walk_fetches m prefix)
unfolding trie_root root_node
root_stands m prefix within =
    let ss : List Suffix = suffixes_of m in
    let q : List ℕ = nibbles_of prefix in
    let keys : List (List ℕ) = keys_under (goes_on_with q) [] (below [] ss) in
    let nodes : List PathNode = nodes_under (is_near q) [] (below [] ss) in
    let same : below [] ss ≡ ss = below-nil ss in
    stand_as (OfNode (trie_root m) [] ∷ []) (OfNode (trie_root m) [] ∷ []) keys (keys_with_prefix m prefix) nodes (walk_fetches m prefix) refl
    (ap (keys_under (goes_on_with q) []) same ∙ keys_of_walk m prefix within)
    (ap (nodes_under (is_near q) []) same)
    (record {
      sound = (record { is_hash = ap (λ (us : List Suffix). H (spelling (node_of_all us))) (sym same); stored = refl; near = refl; some = inl refl }, tt);
      keys = append-nil keys;
      nodes = append-nil nodes;
    })

pub first_walked : (j : WalkJob) (m : State) (prefix : List ℕ) (s : Stored) → All IsEntry (entries m) → j.prefix ≡ nibbles_of prefix → j.wanted ≡ Some s → j.found ≡ [] → j.later ≡ []
    → s.hash.0 ≡ trie_root m → s.path.items ≡ [] → IsWalking j m prefix (walk_fetches m prefix)
first_walked j m prefix s within nibbles wanted none nothing hash path =
    let q : List ℕ = nibbles_of prefix in
    let parts : OfNode (trie_root m) [] ∷ [] ≡ in_order j.found j.wanted j.later =
    alone j.found s j.later (trie_root m) [] none nothing hash path ∙ ap (λ (o : Option Stored). in_order j.found o j.later) (sym wanted) in
    let stands : StandFor (suffixes_of m) (goes_on_with q) (is_near q) (in_order j.found j.wanted j.later) (keys_with_prefix m prefix) (walk_fetches m prefix) =
    subst (λ (ps : List Piece). StandFor (suffixes_of m) (goes_on_with q) (is_near q) ps (keys_with_prefix m prefix) (walk_fetches m prefix)) parts (root_stands m prefix within) in
    record {
      within = within;
      prefix = nibbles;
      stands = stands;
      stage = stage_of j m (goes_on_with q) (is_near q) (keys_with_prefix m prefix) (walk_fetches m prefix) stands (λ e. nothing);
    }
