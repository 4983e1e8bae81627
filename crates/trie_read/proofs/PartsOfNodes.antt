-- What a node has stands for the keys and the nodes under its path.
use Rattle.std.proofs.Common.{◌≡◌, ℕ, zero, suc, ◌<◌, ◌≤◌, Bool, true, false, cond, List, [], ◌∷◌, ◌++◌, get_or, Option, Some, None, refl, ap, sym, ◌∙◌, arith, append_assoc}
use Rattle.std.specs.List.{flat_map}
use Rattle.std.proofs.lemmas.List.{append-nil}
use Rattle.trie_model.specs.Node.{IsNodeWithin, Node}
use Rattle.trie_model.specs.Nodes.{PathNode, if_any, nodes_over}
use Rattle.trie_model.specs.Trie.{Suffix, below, common_prefix, levels_of, own_value, value_here}
use Rattle.trie_root.proofs.Levels.{levels_above_none}
use Rattle.trie_root.proofs.Prefixes.{begins_itself, below-append}
use Rattle.trie_root.proofs.ReadOff.{with_prefix-below}
use Rattle.trie_root.proofs.ReadOffNibbles.{from, going_on, parts_in_order}
use Rattle.trie_read.specs.Paths.{child_path, node_at}
use Rattle.trie_read.specs.inner.Following.{Sound, head_at}
use Rattle.trie_read.specs.inner.Parts.{OfKey, Piece, StandFor, child_parts, gone_into, key_of_nibbles, keys_under, own_parts, parts_in}
use Rattle.trie_read.proofs.Binding.{from_path}
use Rattle.trie_read.proofs.Children.{partial_of, value_of}
use Rattle.trie_read.proofs.Depths.{first_over}
use Rattle.trie_read.proofs.Followed.{no_levels, tail_alike}
use Rattle.trie_read.proofs.Hanging.{Above}
use Rattle.trie_read.proofs.PartSteps.{parts_step}
use Rattle.trie_read.proofs.Sound.{nibbles_in, sound_below}
use Rattle.trie_read.proofs.Standing.{flat_through, gone_joined, if_kept, one_under, stand_as, stand_flat, stand_joined, stand_none, under_further, under_joined}
use Rattle.trie_read.proofs.PartsOfChildren.{IsClosed, child_stands}

module _ (ss : List Suffix) (keeps goes : List ℕ → Bool) where
  own_stands : (key : List ℕ) (v : Option (List ℕ)) → StandFor ss keeps goes (own_parts keeps key v) (keys_under keeps key (own_value v)) []
  own_stands key None = stand_none
  own_stands key (Some x) =
      stand_as (own_parts keeps key (Some x)) (own_parts keeps key (Some x)) (if_kept keeps key []) (keys_under keeps key (own_value (Some x))) [] [] refl
      (sym (one_under keeps key ([], x) [] ∙ ap (λ (k : List ℕ). if_kept keeps k []) (append-nil key))) refl
      (elim (keeps key) as (λ b. StandFor ss keeps goes (cond b (OfKey (key_of_nibbles key) ∷ []) []) (cond b (key_of_nibbles key ∷ []) []) []) [
        | true ↦ record { sound = (tt, tt); keys = refl; nodes = refl }
        | false ↦ stand_none
      ])

  -- the keys under a node's path are its own and those under each child's
  keys_part : Sound ss → (p : List ℕ) → let ts = below (common_prefix (below p ss)) (below p ss) in let key = p ++ (node_at ss p).partial in
      keys_under keeps key (own_value (node_at ss p).value) ++ flat_map (λ i. keys_under keeps key (going_on ts i)) (from 0 16) ≡ keys_under keeps p (below p ss)
  keys_part s p =
      let us : List Suffix = below p ss in
      let c : List ℕ = common_prefix us in
      let ts : List Suffix = below c us in
      let sound : Sound ts = sound_below c us (sound_below p ss s) in
      let key : List ℕ = p ++ (node_at ss p).partial in
      let value : (node_at ss p).value ≡ value_here ts = value_of us ∙ ap (λ (q : List ℕ). value_here (below q us)) (partial_of us) in
      ap (λ (ks : List (List ℕ)). keys_under keeps key (own_value (node_at ss p).value) ++ ks)
      (sym (flat_through (keys_under keeps key) refl (under_joined keeps key) (going_on ts) (from 0 16)))
      ∙ sym (under_joined keeps key (own_value (node_at ss p).value) (flat_map (going_on ts) (from 0 16)))
      ∙ ap (λ (v : Option (List ℕ)). keys_under keeps key (own_value v ++ flat_map (going_on ts) (from 0 16))) value
      ∙ ap (keys_under keeps key) (parts_in_order ts sound.sorted (nibbles_in ts sound))
      ∙ ap (λ (q : List ℕ). keys_under keeps (p ++ q) ts) (partial_of us)
      ∙ sym (under_further keeps p c ts)
      ∙ ap (keys_under keeps p) (with_prefix-below c us (begins_itself c))

  -- what a node has, on enough levels, and after it the nodes under it
  pub unfolded : (l d : ℕ) → IsClosed keeps goes → Sound ss → (p : List ℕ) → l ≤ 33 → levels_of (below p ss) ≤ d → IsNodeWithin l (node_at ss p) → (t : List PathNode)
      → nodes_over d p (below p ss) ≡ head_at ss p ∷ t → StandFor ss keeps goes (parts_in keeps goes l (node_at ss p) p) (keys_under keeps p (below p ss)) (gone_into goes t)
  unfolded zero d closed s p few fits w t e = absurd (no_levels (node_at ss p) w)
  unfolded (suc l) zero closed s p few fits w t e = absurd (omega (arith, levels_above_none (below p ss)))
  unfolded (suc l) (suc d) closed s p few fits w t e =
      let n : Node = node_at ss p in
      let us : List Suffix = below p ss in
      let c : List ℕ = common_prefix us in
      let ts : List Suffix = below c us in
      let key : List ℕ = p ++ n.partial in
      let go : Node → List ℕ → List Piece = parts_in keeps goes l in
      let f : ℕ → List Piece = λ i. child_parts goes go (key ++ i ∷ []) (get_or n.children i None) in
      let k : ℕ → List (List ℕ) = λ i. keys_under keeps key (going_on ts i) in
      let g : ℕ → List PathNode = λ i. if_any (nodes_over d (p ++ Above us i)) (below (Above us i) us) in
      let m : ℕ → List PathNode = λ i. gone_into goes (g i) in
      let each : (i : ℕ) → i < 16 → StandFor ss keeps goes (f i) (k i) (m i) = λ i small.
      let q : List ℕ = child_path ss p i in
      let o : Option (List ℕ) = get_or n.children i None in
      let same : q ≡ key ++ i ∷ [] = sym (append_assoc p n.partial (i ∷ [])) in
      stand_as (child_parts goes go q o) (f i) (keys_under keeps q (below q ss)) (k i) (gone_into goes (if_any (nodes_over d q) (below q ss))) (m i)
      (ap (λ (r : List ℕ). child_parts goes go r o) same)
      (ap (λ (r : List ℕ). keys_under keeps r (below q ss)) same ∙ ap (keys_under keeps (key ++ i ∷ [])) (from_path ss p i ∙ below-append c (i ∷ []) us)
      ∙ sym (under_further keeps key (i ∷ []) (below (i ∷ []) ts)))
      (ap (λ (r : List ℕ). gone_into goes (if_any (nodes_over d (p ++ (r ++ i ∷ []))) (below q ss))) (partial_of us)
      ∙ ap (λ (vs : List Suffix). gone_into goes (if_any (nodes_over d (p ++ Above us i)) vs)) (from_path ss p i))
      (child_stands ss keeps goes l d closed s p i few fits w small (λ r more h t2 e2. unfolded l d closed s r (omega arith) more h t2 e2)) in
      let tail : t ≡ flat_map g (from 0 16) = tail_alike _ _ t (flat_map g (from 0 16)) (sym e ∙ first_over d ss p fits) in
      stand_as (own_parts keeps key n.value ++ flat_map f (from 0 16)) (parts_in keeps goes (suc l) n p)
      (keys_under keeps key (own_value n.value) ++ flat_map k (from 0 16)) (keys_under keeps p us)
      ([] ++ flat_map m (from 0 16)) (gone_into goes t)
      (sym (parts_step keeps goes l n p)) (keys_part s p)
      (sym (ap (gone_into goes) tail ∙ flat_through (gone_into goes) refl (gone_joined goes) g (from 0 16)))
      (stand_joined (own_parts keeps key n.value) (flat_map f (from 0 16)) (keys_under keeps key (own_value n.value)) (flat_map k (from 0 16)) [] (flat_map m (from 0 16))
      (own_stands key n.value) (stand_flat f k m each 0 16 (omega arith)))
