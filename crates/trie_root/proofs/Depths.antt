-- Inline children are as many levels deep as fit into their bytes.
use Rattle.std.proofs.Common.{◌≡◌, ℕ, ◌+◌, ◌<◌, ◌≤◌, Bool, true, false, zero, suc, List, [], ◌∷◌, ◌++◌, length, Option, Some, None, refl, ap, inl, inr, arith, w16, length-append}
use Rattle.std.specs.Int.{to_le_bytes}
use Rattle.std.specs.List.{AllByRecursion, flat_map}
use Rattle.std.proofs.lemmas.List.Elements.{All-from_recursion, All-weaker, recursion_from_All}
use Rattle.trie_model.specs.Nibbles.{packed}
use Rattle.trie_model.specs.Node.{AreParts, IsChild, IsNode, IsNodeWithin, Node, bitmap, branch_kind, has_child, header, optional_string, spelled, spelling}

child_alike : (P Q : Node → Type 0) → ((n : Node) → P n → Q n) → (c : Option (List ℕ)) → IsChild P c → IsChild Q c
child_alike P Q more None h = tt
child_alike P Q more (Some c) (inl hash) = inl hash
child_alike P Q more (Some c) (inr h) = inr (h.0, h.1, more h.1 h.2, h.3, h.4)

parts_with : (P Q : Node → Type 0) (n : Node) → AreParts P n → AllByRecursion (IsChild Q) n.children → AreParts Q n
parts_with P Q n h children = record {
  partial = h.partial;
  value = h.value;
  sixteen = h.sixteen;
  texts = h.texts;
  children = All-from_recursion (IsChild Q) n.children children;
  shaped = h.shaped;
}

-- more levels are as good
pub within_more : (d e : ℕ) (n : Node) → d ≤ e → IsNodeWithin d n → IsNodeWithin e n
unfolding IsNodeWithin
within_more zero e n le h = absurd h
within_more (suc d) zero n le h = absurd (omega arith)
within_more (suc d) (suc e) n le h =
    parts_with (IsNodeWithin d) (IsNodeWithin e) n h
    (recursion_from_All (IsChild (IsNodeWithin e)) n.children
    (All-weaker (IsChild (IsNodeWithin d)) (IsChild (IsNodeWithin e)) (λ c k. child_alike (IsNodeWithin d) (IsNodeWithin e) (λ m w. within_more d e m (omega arith) w) c k) n.children h.children))

no_children : (Q : Node → Type 0) (cs : List (Option (List ℕ))) → has_child cs ≡ false → AllByRecursion (IsChild Q) cs
no_children Q [] e = tt
no_children Q (None ∷ cs) e = (tt, no_children Q cs e)
no_children Q (Some c ∷ cs) e = absurd cc

length-optional : (c : List ℕ) → length c ≤ length (optional_string (Some c))
length-optional c = rw length-append (omega arith)

-- the bytes of inline children stand within their own bounds
children_inside : (d m : ℕ) → ((n : Node) → IsNodeWithin d n → IsNodeWithin (suc (length (spelling n))) n) → (cs : List (Option (List ℕ)))
    → length (flat_map optional_string cs) < m → AllByRecursion (IsChild (IsNodeWithin d)) cs → AllByRecursion (IsChild (IsNodeWithin m)) cs
children_inside d m deep [] fits a = tt
children_inside d m deep (None ∷ cs) fits a = (tt, children_inside d m deep cs fits a.1)
children_inside d m deep (Some c ∷ cs) fits a =
    let total : length (optional_string (Some c) ++ flat_map optional_string cs) ≡ length (optional_string (Some c)) + length (flat_map optional_string cs) =
    length-append (optional_string (Some c)) (flat_map optional_string cs) in
    (inside a.0 (omega (arith, length-optional c)), children_inside d m deep cs (omega arith) a.1)
  where
    inside : IsChild (IsNodeWithin d) (Some c) → length c < m → IsChild (IsNodeWithin m) (Some c)
    inside (inl hash) short = inl hash
    inside (inr h) short = inr (h.0, h.1, within_more (suc (length (spelling h.1))) m h.1 (omega (arith, ap length h.3)) (deep h.1 h.2), h.3, h.4)

spelled_inside : (b : Bool) (v : Option (List ℕ)) (n : Node) → b ≡ true → length (flat_map optional_string n.children) < length (spelled b v n)
spelled_inside false v n e = absurd cc
spelled_inside true v n e =
    let k : List ℕ = optional_string v ++ flat_map optional_string n.children in
    let one : length k ≡ length (optional_string v) + length (flat_map optional_string n.children) = length-append (optional_string v) (flat_map optional_string n.children) in
    let map_and : List ℕ = to_le_bytes w16 (bitmap n.children) ++ k in
    let two : length map_and ≡ 2 + length k = length-append (to_le_bytes w16 (bitmap n.children)) k in
    let three : length (packed n.partial ++ map_and) ≡ length (packed n.partial) + length map_and = length-append (packed n.partial) map_and in
    let four : length (header (branch_kind v) (length n.partial) ++ (packed n.partial ++ map_and)) ≡ length (header (branch_kind v) (length n.partial)) + length (packed n.partial ++ map_and) =
    length-append (header (branch_kind v) (length n.partial)) (packed n.partial ++ map_and) in
    omega arith

-- as many levels as its bytes, and one, are enough for a node
pub within_bytes : (d : ℕ) (n : Node) → IsNodeWithin d n → IsNodeWithin (suc (length (spelling n))) n
unfolding IsNodeWithin spelling
within_bytes zero n h = absurd h
within_bytes (suc d) n h =
    parts_with (IsNodeWithin d) (IsNodeWithin (length (spelling n))) n h
    (elim (has_child n.children) as (λ b. has_child n.children ≡ b → AllByRecursion (IsChild (IsNodeWithin (length (spelling n)))) n.children) [
      | true ↦ λ e. children_inside d (length (spelling n)) (λ m w. within_bytes d m w) n.children (spelled_inside (has_child n.children) n.value n e)
          (recursion_from_All (IsChild (IsNodeWithin d)) n.children h.children)
      | false ↦ λ e. no_children (IsNodeWithin (length (spelling n))) n.children e
    ] refl)

child_short : (d : ℕ) (c : Option (List ℕ)) → IsChild (IsNodeWithin d) c → IsChild (IsNodeWithin 32) c
child_short d None h = tt
child_short d (Some c) (inl hash) = inl hash
child_short d (Some c) (inr h) =
    inr (h.0, h.1, within_more (suc (length (spelling h.1))) 32 h.1 (omega (arith, ap length h.3)) (within_bytes d h.1 h.2), h.3, h.4)

-- however many levels a node was given, it is a node
pub is_node : (d : ℕ) (n : Node) → IsNodeWithin d n → IsNode n
unfolding IsNodeWithin
is_node zero n h = absurd h
is_node (suc d) n h =
    parts_with (IsNodeWithin d) (IsNodeWithin 32) n h
    (recursion_from_All (IsChild (IsNodeWithin 32)) n.children (All-weaker (IsChild (IsNodeWithin d)) (IsChild (IsNodeWithin 32)) (child_short d) n.children h.children))
