-- Of what a node has all nodes but the first hang above the nibbles that are sought above.
use Rattle.std.proofs.Common.{◌≡◌, ℕ, zero, suc, ◌<◌, ◌≤◌, true, false, eqb, cond, List, [], ◌∷◌, ◌++◌, length, get_or, Option, Some, None, refl, ap, subst, sym, ◌∙◌, inl, inr, arith}
use Rattle.std.specs.Prelude.{◌||◌, Result, Ok, Err, is_some}
use Rattle.std.specs.List.{AllByRecursion, flat_map}
use Rattle.std.proofs.lemmas.Bool.{cases_lt}
use Rattle.std.proofs.lemmas.List.{append-nil}
use Rattle.trie_model.specs.Node.{Node}
use Rattle.trie_model.specs.Trie.{after_prefix}
use Rattle.trie_codec.specs.Reading.{node_of_bytes}
use Rattle.trie_codec.specs.declared.fault.CodecFault.{CodecFault}
use Rattle.trie_root.proofs.ReadOffNibbles.{from}
use Rattle.trie_root.proofs.ShapesBytes.{all_joined}
use Rattle.trie_read.specs.inner.Parts.{HangsAbove, IsLed, OfKey, OfNode, Piece, child_parts, inline_parts, is_above, key_of_nibbles, leads_above, own_parts, parts_in, parts_there}
use Rattle.trie_read.proofs.AboveNibbles.{above_closed, above_end, above_further, above_next, lower_not}
use Rattle.trie_read.proofs.PartSteps.{parts_none, parts_step}
use Rattle.trie_read.proofs.Ways.{follows, put_back}

module _ (q : List ℕ) where
  abbrev AllAbove : List Piece → Type 0
  AllAbove ps = AllByRecursion (HangsAbove q) ps

  above_led : (ps : List Piece) → AllAbove ps → IsLed q ps
  above_led [] a = tt
  above_led (p ∷ ps) a = a.1

  pub led_joined : (ps qs : List Piece) → IsLed q ps → AllAbove qs → IsLed q (ps ++ qs)
  led_joined [] qs l a = above_led qs a
  led_joined (p ∷ ps) qs l a = all_joined (HangsAbove q) ps qs l a

  all_flat : (f : ℕ → List Piece) → ((i : ℕ) → AllAbove (f i)) → (is : List ℕ) → AllAbove (flat_map f is)
  all_flat f each [] = tt
  all_flat f each (i ∷ is) = all_joined (HangsAbove q) (f i) (flat_map f is) (each i) (all_flat f each is)

  above_from : (f : ℕ → List Piece) (j : ℕ) → ((i : ℕ) → j < i → AllAbove (f i)) → (i k : ℕ) → j < i → AllAbove (flat_map f (from i k))
  above_from f j each i zero h = tt
  above_from f j each i (suc k) h = all_joined (HangsAbove q) (f i) (flat_map f (from (suc i) k)) (each i h) (above_from f j each (suc i) k (omega arith))

  led_from : (f : ℕ → List Piece) (j : ℕ) → ((i : ℕ) → i < j → f i ≡ []) → IsLed q (f j) → ((i : ℕ) → j < i → AllAbove (f i)) → (i k : ℕ) → i ≤ j → IsLed q (flat_map f (from i k))
  led_from f j none here each i zero h = tt
  led_from f j none here each i (suc k) h = elim (cases_lt i j) [
    | inl less ↦
        let rest : IsLed q (flat_map f (from (suc i) k)) = led_from f j none here each (suc i) k less in
        let same : flat_map f (from (suc i) k) ≡ f i ++ flat_map f (from (suc i) k) = sym (ap (λ (ps : List Piece). ps ++ flat_map f (from (suc i) k)) (none i less)) in
        subst (λ (ps : List Piece). IsLed q ps) same rest
    | inr more ↦
        let at : j ≡ i = omega arith in
        led_joined (f i) (flat_map f (from (suc i) k)) (subst (λ (n : ℕ). IsLed q (f n)) at here) (above_from f j each (suc i) k (omega (arith, at)))
  ]

  -- ---- of one node

  abbrev At : ℕ → Node → List ℕ → List Piece
  At l n p = parts_in (is_above q) (leads_above q) l n p

  -- what holds of what there is at a child holds of an inline node, or of the child's own part
  there : (P : List Piece → Type 0) (l : ℕ) (p : List ℕ) (o : Option (List ℕ)) → P [] → ((h : List ℕ) → P (OfNode h p ∷ [])) → ((n : Node) → P (At l n p))
      → P (parts_there (At l) p o)
  there P l p None none one deeper = none
  there P l p (Some c) none one deeper =
      elim (eqb (length c) 32) as (λ b. P (cond b (OfNode c p ∷ []) (inline_parts (λ n. At l n p) (node_of_bytes c)))) [
        | true ↦ one c
        | false ↦ read (node_of_bytes c)
      ]
    where
      read : (r : Result Node CodecFault) → P (inline_parts (λ n. At l n p) r)
      read (Ok n) = deeper n
      read (Err f) = none

  child : (P : List Piece → Type 0) (l : ℕ) (p : List ℕ) (o : Option (List ℕ)) → P [] → ((h : List ℕ) → P (OfNode h p ∷ [])) → ((n : Node) → P (At l n p))
      → P (child_parts (leads_above q) (At l) p o)
  child P l p o none one deeper =
      elim (leads_above q p) as (λ b. P (cond b (parts_there (At l) p o) [])) [ true ↦ there P l p o none one deeper | false ↦ none ]

  own_above : (key : List ℕ) (v : Option (List ℕ)) → AllAbove (own_parts (is_above q) key v)
  own_above key None = tt
  own_above key (Some x) = elim (is_above q key) as (λ b. AllAbove (cond b (OfKey (key_of_nibbles key) ∷ []) [])) [ true ↦ (tt, tt) | false ↦ tt ]

  own_none : (key : List ℕ) (v : Option (List ℕ)) → is_above q key ≡ false → own_parts (is_above q) key v ≡ []
  own_none key None h = refl
  own_none key (Some x) h = ap (λ b. cond b (OfKey (key_of_nibbles key) ∷ []) []) h

  abbrev ChildAt : ℕ → Node → List ℕ → ℕ → List Piece
  ChildAt l n p i = child_parts (leads_above q) (At l) ((p ++ n.partial) ++ i ∷ []) (get_or n.children i None)

  all_above : (l : ℕ) (n : Node) (p : List ℕ) → is_above q p ≡ true → AllAbove (At l n p)
  all_above zero n p h = subst (λ (ps : List Piece). AllAbove ps) (parts_none (is_above q) (leads_above q) n p) tt
  all_above (suc l) n p h =
      let e : List ℕ = p ++ n.partial in
      let end : is_above q e ≡ true = above_further q p n.partial h in
      subst (λ (ps : List Piece). AllAbove ps) (sym (parts_step (is_above q) (leads_above q) l n p))
      (all_joined (HangsAbove q) (own_parts (is_above q) e n.value) (flat_map (ChildAt l n p) (from 0 16)) (own_above e n.value)
      (all_flat (ChildAt l n p)
      (λ i. child AllAbove l (e ++ i ∷ []) (get_or n.children i None) tt (λ h. (above_further q e (i ∷ []) end, tt)) (λ m. all_above l m (e ++ i ∷ []) (above_further q e (i ∷ []) end)))
      (from 0 16)))

  above_child : (l : ℕ) (n : Node) (p : List ℕ) (i : ℕ) → is_above q ((p ++ n.partial) ++ i ∷ []) ≡ true → AllAbove (ChildAt l n p i)
  above_child l n p i h =
      child AllAbove l ((p ++ n.partial) ++ i ∷ []) (get_or n.children i None) tt (λ c. (h, tt)) (λ m. all_above l m ((p ++ n.partial) ++ i ∷ []) h)

  far_child : (l : ℕ) (n : Node) (p : List ℕ) (i : ℕ) → leads_above q ((p ++ n.partial) ++ i ∷ []) ≡ false → ChildAt l n p i ≡ []
  far_child l n p i h = ap (λ b. cond b (parts_there (At l) ((p ++ n.partial) ++ i ∷ []) (get_or n.children i None)) []) h

  none_led : (f : ℕ → List Piece) → ((i : ℕ) → f i ≡ []) → (is : List ℕ) → IsLed q (flat_map f is)
  none_led f none [] = tt
  none_led f none (i ∷ is) = subst (λ (ps : List Piece). IsLed q (ps ++ flat_map f is)) (sym (none i)) (none_led f none is)

  pub parts_led : (l : ℕ) (n : Node) (p : List ℕ) → IsLed q (At l n p)
  parts_led zero n p = subst (λ (ps : List Piece). IsLed q ps) (parts_none (is_above q) (leads_above q) n p) tt
  parts_led (suc l) n p =
      let e : List ℕ = p ++ n.partial in
      let f : ℕ → List Piece = ChildAt l n p in
      let own : List Piece = own_parts (is_above q) e n.value in
      subst (λ (ps : List Piece). IsLed q ps) (sym (parts_step (is_above q) (leads_above q) l n p))
      (elim (is_above q e) as (λ b. is_above q e ≡ b → IsLed q (own ++ flat_map f (from 0 16))) [
        | true ↦ λ above.
            led_joined own (flat_map f (from 0 16)) (above_led own (own_above e n.value))
            (all_flat f (λ i. above_child l n p i (above_further q e (i ∷ []) above)) (from 0 16))
        | false ↦ λ not. subst (λ (ps : List Piece). IsLed q (ps ++ flat_map f (from 0 16))) (sym (own_none e n.value not))
            (on_way (λ m r. parts_led l m r) (after_prefix e q) refl not)
      ] refl)
    where
      on_way : ((m : Node) (r : List ℕ) → IsLed q (At l m r)) → (r : Option (List ℕ)) → after_prefix (p ++ n.partial) q ≡ r → is_above q (p ++ n.partial) ≡ false → IsLed q (flat_map (ChildAt l n p) (from 0 16))
      on_way deeper None h not =
          let e : List ℕ = p ++ n.partial in
          let off : leads_above q e ≡ false = ap (λ b. b || is_above q e) (follows e q ∙ ap is_some h) ∙ not in
          none_led (ChildAt l n p) (λ i. far_child l n p i ((above_closed q).paths e (i ∷ []) off)) (from 0 16)
      on_way deeper (Some []) h not =
          let e : List ℕ = p ++ n.partial in
          let same : e ≡ q = sym (append-nil e) ∙ put_back e q [] h in
          above_led (flat_map (ChildAt l n p) (from 0 16))
          (all_flat (ChildAt l n p) (λ i. above_child l n p i (ap (λ (k : List ℕ). is_above k (e ++ i ∷ [])) (sym same) ∙ above_end e i)) (from 0 16))
      on_way deeper (Some (j ∷ r)) h not =
          let e : List ℕ = p ++ n.partial in
          let same : e ++ j ∷ r ≡ q = put_back e q (j ∷ r) h in
          led_from (ChildAt l n p) j
          (λ i less. far_child l n p i (ap (λ (k : List ℕ). leads_above k (e ++ i ∷ [])) (sym same) ∙ lower_not e j r i less))
          (child (λ ps. IsLed q ps) l (e ++ j ∷ []) (get_or n.children j None) tt (λ c. tt) (λ m. deeper m (e ++ j ∷ [])))
          (λ i more. above_child l n p i (ap (λ (k : List ℕ). is_above k (e ++ i ∷ [])) (sym same) ∙ above_next e j r i more))
          0 16 (omega arith)
