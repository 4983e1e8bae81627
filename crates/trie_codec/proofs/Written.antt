-- A node's spelling is read as the node.
use Rattle.std.proofs.Common.{◌≡◌, ℕ, zero, suc, ◌+◌, ◌≤◌, Bool, true, false, List, [], ◌∷◌, ◌++◌, length, replicate, All, Option, Some, None, inl, inr, Ok, refl, sym, ap, ◌∙◌, append_assoc, lit≤, arith}
use Rattle.std.specs.Prelude.{is_some, count_by, IfSome, if◌then◌else◌, ◌==◌}
use Rattle.std.specs.Int.{w16, to_le_bytes}
use Rattle.std.specs.List.{flat_map}
use Rattle.std.specs.Str.{bytes_eq}
use Rattle.std.proofs.lemmas.Bool.{false_from_ne_true}
use Rattle.std.proofs.lemmas.List.{append-nil}
use Rattle.std.proofs.lemmas.List.Elements.{All-weaker}
use Rattle.std.proofs.lemmas.Slice.Eq.{bytes_eq-Decides}
use Rattle.sdb_scale.specs.Compact.{string}
use Rattle.trie_model.specs.Node.{Node, AreParts, IsChild, IsNodeWithin, IsPartial, IsShaped, HasCompactLength, IsText, bitmap, branch_kind, empty_node, has_child, optional_string, spelled, spelling}
use Rattle.trie_codec.specs.Reading.{first_header, first_node, reads_inline}
use Rattle.trie_codec.proofs.Bitmaps.{childless_list, none_counted}
use Rattle.trie_codec.proofs.Bodies.{after_partial, branch_read}
use Rattle.trie_codec.proofs.WrittenChildren.{IfChildIsRead}
use Rattle.trie_codec.proofs.Lengths.{string_read}

-- ---- the three shapes

-- no part at all
nothing_is_empty : (ps : List ℕ) (cs : List (Option (List ℕ))) → has_child cs ≡ false → IsShaped (record { partial = ps; value = None; children = cs })
    → empty_node ≡ record { partial = ps; value = None; children = cs }
nothing_is_empty ps cs none (inl e) = sym e
nothing_is_empty ps cs none (inr some) = absurd (omega (arith, some.0, none_counted cs none))

empty_read : (reads : List ℕ → Bool) (rest : List ℕ) → first_node reads (0 ∷ rest) ≡ Ok (empty_node, rest)
unfolding first_node first_header
empty_read reads rest = refl

leaf_read : (reads : List ℕ → Bool) (ps v : List ℕ) (cs : List (Option (List ℕ))) (rest : List ℕ) → IsPartial ps → HasCompactLength v → length cs ≡ 16 → has_child cs ≡ false
    → first_node reads (spelled false (Some v) (record { partial = ps; value = Some v; children = cs }) ++ rest) ≡ Ok (record { partial = ps; value = Some v; children = cs }, rest)
leaf_read reads ps v cs rest few short sixteen none =
    let no_children : replicate 16 None ≡ cs = sym (childless_list cs none ∙ ap (λ n. replicate n None) sixteen) in
    after_partial reads 1 ps (string v) rest (lit≤ tt) few
    ∙ rw (string_read v rest short) (ap (λ (children : List (Option (List ℕ))). Ok (record { partial = ps; value = Some v; children = children }, rest)) no_children)

-- a branch has a kind of its own, and children enough
is_no_leaf : (value : Option (List ℕ)) → (branch_kind value == 1) ≡ false
is_no_leaf None = refl
is_no_leaf (Some v) = refl

has_kind : (value : Option (List ℕ)) → 1 ≤ branch_kind value
has_kind None = lit≤ tt
has_kind (Some v) = lit≤ tt

enough : (n : Node) → has_child n.children ≡ true → IsShaped n → 2 ≤ count_by is_some n.children + (if is_some n.value then 1 else 0)
enough n some (inl e) = let none : has_child n.children ≡ false = ap (λ (m : Node). has_child m.children) e in cc
enough n some (inr counts) = counts.1 some

branch_written : (reads : List ℕ → Bool) (n : Node) (rest : List ℕ) → IsPartial n.partial → IfSome n.value HasCompactLength → length n.children ≡ 16
    → All (IfChildIsRead reads) n.children → has_child n.children ≡ true → IsShaped n → first_node reads (spelled true n.value n ++ rest) ≡ Ok (n, rest)
branch_written reads n rest few short sixteen all some shaped =
    let body = to_le_bytes w16 (bitmap n.children) ++ (optional_string n.value ++ flat_map optional_string n.children) in
    after_partial reads (branch_kind n.value) n.partial body rest (has_kind n.value) few
    ∙ rw (is_no_leaf n.value, append_assoc (optional_string n.value) (flat_map optional_string n.children) rest)
    (branch_read reads n.partial n.value n.children rest short sixteen all some (enough n some shaped))

-- ---- a node by its parts

by_shape : (reads : List ℕ → Bool) (ps : List ℕ) (value : Option (List ℕ)) (cs : List (Option (List ℕ))) (rest : List ℕ) (t : Bool)
    → has_child cs ≡ t → IsPartial ps → IfSome value HasCompactLength → length cs ≡ 16 → All (IfChildIsRead reads) cs → IsShaped (record { partial = ps; value = value; children = cs })
    → first_node reads (spelled t value (record { partial = ps; value = value; children = cs }) ++ rest) ≡ Ok (record { partial = ps; value = value; children = cs }, rest)
by_shape reads ps None cs rest false none few short sixteen all shaped =
    empty_read reads rest ∙ ap (λ (n : Node). Ok (n, rest)) (nothing_is_empty ps cs none shaped)
by_shape reads ps (Some v) cs rest false none few short sixteen all shaped = leaf_read reads ps v cs rest few short sixteen none
by_shape reads ps value cs rest true some few short sixteen all shaped =
    branch_written reads (record { partial = ps; value = value; children = cs }) rest few short sixteen all some shaped

value_short : (value : Option (List ℕ)) → IsText value → IfSome value HasCompactLength
value_short None text = tt
value_short (Some v) text = text.0

-- a child that may be read, where the nodes that it may spell are read alone
child_is_read : (reads : List ℕ → Bool) (P : Node → Type 0) → reads [] ≡ false → ((m : Node) → P m → (spelling m ≡ 0 ∷ [] → ⊥) → reads (spelling m) ≡ true)
    → (c : Option (List ℕ)) → IsChild P c → IfChildIsRead reads c
child_is_read reads P none alone None h = tt
child_is_read reads P none alone (Some c) (inl hash) = record { some = omega arith; few = omega arith; reads_alone = λ lt. absurd (omega arith) }
child_is_read reads P none alone (Some []) (inr inline) =
    let reads_it : reads [] ≡ true = ap reads inline.3 ∙ alone inline.1 inline.2 inline.4 in cc
child_is_read reads P none alone (Some (b ∷ bs)) (inr inline) =
    record { some = omega arith; few = omega (arith, inline.0); reads_alone = λ lt. ap reads inline.3 ∙ alone inline.1 inline.2 inline.4 }

by_parts : (reads : List ℕ → Bool) (P : Node → Type 0) → reads [] ≡ false → ((m : Node) → P m → (spelling m ≡ 0 ∷ [] → ⊥) → reads (spelling m) ≡ true)
    → (n : Node) (rest : List ℕ) → AreParts P n → first_node reads (spelling n ++ rest) ≡ Ok (n, rest)
unfolding spelling
by_parts reads P none alone n rest parts =
    let all : All (IfChildIsRead reads) n.children = All-weaker (IsChild P) (IfChildIsRead reads) (child_is_read reads P none alone) n.children parts.children in
    by_shape reads n.partial n.value n.children rest (has_child n.children) refl parts.partial (value_short n.value parts.value) parts.sixteen all parts.shaped

-- ---- by depth

none_reads : (d : ℕ) → reads_inline d [] ≡ false
unfolding reads_inline first_node first_header
none_reads zero = refl
none_reads (suc d) = refl

read_alone : (d : ℕ) (m : Node) → first_node (reads_inline d) (spelling m ++ []) ≡ Ok (m, []) → (spelling m ≡ 0 ∷ [] → ⊥) → reads_inline (suc d) (spelling m) ≡ true
unfolding reads_inline
read_alone d m found other =
    let alone : first_node (reads_inline d) (spelling m) ≡ Ok (m, []) = ap (first_node (reads_inline d)) (sym (append-nil (spelling m))) ∙ found in
    let some : bytes_eq (spelling m) (0 ∷ []) ≡ false = false_from_ne_true (bytes_eq (spelling m) (0 ∷ [])) (λ e. other ((bytes_eq-Decides (spelling m) (0 ∷ [])).0 e)) in
    rw (alone, some) refl

pub node_read : (d : ℕ) (n : Node) (rest : List ℕ) → IsNodeWithin (suc d) n → first_node (reads_inline d) (spelling n ++ rest) ≡ Ok (n, rest)
unfolding IsNodeWithin
node_read zero n rest h = by_parts (reads_inline zero) (IsNodeWithin zero) (none_reads zero) (λ m none. absurd none) n rest h
node_read (suc d) n rest h =
    by_parts (reads_inline (suc d)) (IsNodeWithin (suc d)) (none_reads (suc d)) (λ m inner other. read_alone d m (node_read d m [] inner) other) n rest h
