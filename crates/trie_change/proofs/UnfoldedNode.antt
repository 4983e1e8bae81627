-- What a node has stands for the suffixes and the nodes under its path.
use Rattle.std.proofs.Common.{◌≡◌, ℕ, zero, suc, ◌<◌, ◌≤◌, List, [], ◌∷◌, ◌++◌, get_or, Option, Some, None, refl, ap, sym, ◌∙◌, arith, append_assoc}
use Rattle.std.specs.Prelude.{filter}
use Rattle.std.specs.List.{flat_map}
use Rattle.std.proofs.lemmas.List.{append-nil}
use Rattle.std.proofs.lemmas.List.Elements.{filter-append}
use Rattle.trie_model.specs.Node.{IsNodeWithin, Node}
use Rattle.trie_model.specs.Nodes.{PathNode, if_any, is_stored, nodes_over}
use Rattle.trie_model.specs.Trie.{Suffix, below, common_prefix, levels_of, own_value, value_here, with_prefix}
use Rattle.trie_root.proofs.Levels.{levels_above_none}
use Rattle.trie_root.proofs.Prefixes.{begins_itself, below-append}
use Rattle.trie_root.proofs.ReadOff.{with_prefix-below}
use Rattle.trie_root.proofs.ReadOffNibbles.{from, going_on, parts_in_order}
use Rattle.trie_read.specs.Paths.{child_path, node_at}
use Rattle.trie_read.proofs.Binding.{from_path}
use Rattle.trie_read.proofs.Children.{partial_of, value_of}
use Rattle.trie_read.proofs.Depths.{first_over}
use Rattle.trie_read.proofs.Followed.{no_levels, tail_alike}
use Rattle.trie_read.proofs.Hanging.{Above}
use Rattle.trie_read.proofs.Sound.{Sound, nibbles_in, sound_below}
use Rattle.trie_read.proofs.Standing.{flat_through}
use Rattle.trie_change.specs.Frontier.{path_node_at}
use Rattle.trie_change.specs.inner.Known.{Known, known_at, known_in, own_known}
use Rattle.trie_change.proofs.KnownSteps.{known_step}
use Rattle.trie_change.proofs.Unfolds.{Unfolds, after_all, after_further, after_joined, unfold_as, unfold_flat, unfold_joined, unfold_none}
use Rattle.trie_change.proofs.UnfoldedChild.{child_unfolds}

module _ (ss : List Suffix) where
  own_unfolds : (key : List ℕ) (v : Option (List ℕ)) → Unfolds ss (own_known key v) (with_prefix key (own_value v)) []
  own_unfolds key None = unfold_none
  own_unfolds key (Some x) = record { sound = (tt, tt); whole = ap (λ (k : List ℕ). (k, x) ∷ []) (sym (append-nil key)); nodes = refl }

  -- the suffixes under a node's path are its own and those under each child's
  whole_part : Sound ss → (p : List ℕ) → let ts = below (common_prefix (below p ss)) (below p ss) in let key = p ++ (node_at ss p).partial in
      with_prefix key (own_value (node_at ss p).value) ++ flat_map (λ i. with_prefix key (going_on ts i)) (from 0 16) ≡ with_prefix p (below p ss)
  whole_part s p =
      let us : List Suffix = below p ss in
      let c : List ℕ = common_prefix us in
      let ts : List Suffix = below c us in
      let sound : Sound ts = sound_below c us (sound_below p ss s) in
      let key : List ℕ = p ++ (node_at ss p).partial in
      let value : (node_at ss p).value ≡ value_here ts = value_of us ∙ ap (λ (q : List ℕ). value_here (below q us)) (partial_of us) in
      ap (λ (vs : List Suffix). with_prefix key (own_value (node_at ss p).value) ++ vs) (sym (after_all key (going_on ts) (from 0 16)))
      ∙ sym (after_joined key (own_value (node_at ss p).value) (flat_map (going_on ts) (from 0 16)))
      ∙ ap (λ (v : Option (List ℕ)). with_prefix key (own_value v ++ flat_map (going_on ts) (from 0 16))) value
      ∙ ap (with_prefix key) (parts_in_order ts sound.sorted (nibbles_in ts sound))
      ∙ ap (λ (q : List ℕ). with_prefix (p ++ q) ts) (partial_of us)
      ∙ sym (after_further p c ts)
      ∙ ap (with_prefix p) (with_prefix-below c us (begins_itself c))

  -- what a node has, on enough levels, and after it the nodes under it
  pub unfolded : (l d : ℕ) → Sound ss → (p : List ℕ) → l ≤ 33 → levels_of (below p ss) ≤ d → IsNodeWithin l (node_at ss p) → (t : List PathNode)
      → nodes_over d p (below p ss) ≡ path_node_at ss p ∷ t → Unfolds ss (known_in l (node_at ss p) p) (with_prefix p (below p ss)) (filter is_stored t)
  unfolded zero d s p few fits w t e = absurd (no_levels (node_at ss p) w)
  unfolded (suc l) zero s p few fits w t e = absurd (omega (arith, levels_above_none (below p ss)))
  unfolded (suc l) (suc d) s p few fits w t e =
      let n : Node = node_at ss p in
      let us : List Suffix = below p ss in
      let c : List ℕ = common_prefix us in
      let ts : List Suffix = below c us in
      let key : List ℕ = p ++ n.partial in
      let go : Node → List ℕ → List Known = known_in l in
      let f : ℕ → List Known = λ i. known_at go (key ++ i ∷ []) (get_or n.children i None) in
      let u : ℕ → List Suffix = λ i. with_prefix key (going_on ts i) in
      let g : ℕ → List PathNode = λ i. if_any (nodes_over d (p ++ Above us i)) (below (Above us i) us) in
      let m : ℕ → List PathNode = λ i. filter is_stored (g i) in
      let each : (i : ℕ) → i < 16 → Unfolds ss (f i) (u i) (m i) = λ i small.
      let q : List ℕ = child_path ss p i in
      let o : Option (List ℕ) = get_or n.children i None in
      let same : q ≡ key ++ i ∷ [] = sym (append_assoc p n.partial (i ∷ [])) in
      unfold_as (known_at go q o) (f i) (with_prefix q (below q ss)) (u i) (filter is_stored (if_any (nodes_over d q) (below q ss))) (m i)
      (ap (λ (r : List ℕ). known_at go r o) same)
      (ap (λ (r : List ℕ). with_prefix r (below q ss)) same ∙ ap (with_prefix (key ++ i ∷ [])) (from_path ss p i ∙ below-append c (i ∷ []) us)
      ∙ sym (after_further key (i ∷ []) (below (i ∷ []) ts)))
      (ap (λ (r : List ℕ). filter is_stored (if_any (nodes_over d (p ++ (r ++ i ∷ []))) (below q ss))) (partial_of us)
      ∙ ap (λ (vs : List Suffix). filter is_stored (if_any (nodes_over d (p ++ Above us i)) vs)) (from_path ss p i))
      (child_unfolds ss l d s p i few fits w small (λ r more h t2 e2. unfolded l d s r (omega arith) more h t2 e2)) in
      let tail : t ≡ flat_map g (from 0 16) = tail_alike _ _ t (flat_map g (from 0 16)) (sym e ∙ first_over d ss p fits) in
      unfold_as (own_known key n.value ++ flat_map f (from 0 16)) (known_in (suc l) n p)
      (with_prefix key (own_value n.value) ++ flat_map u (from 0 16)) (with_prefix p us)
      ([] ++ flat_map m (from 0 16)) (filter is_stored t)
      (sym (known_step l n p)) (whole_part s p)
      (sym (ap (filter is_stored) tail ∙ flat_through (filter is_stored) refl (filter-append is_stored) g (from 0 16)))
      (unfold_joined (own_known key n.value) (flat_map f (from 0 16)) (with_prefix key (own_value n.value)) (flat_map u (from 0 16)) [] (flat_map m (from 0 16))
      (own_unfolds key n.value) (unfold_flat f u m each 0 16 (omega arith)))
