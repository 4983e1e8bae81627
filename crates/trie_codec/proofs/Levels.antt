-- How many levels of inline children may be read makes no difference once it is more than their bytes.
use Rattle.std.proofs.Common.{◌≡◌, ℕ, zero, suc, ◌/◌, ◌%◌, ◌<◌, ◌≤◌, Bool, true, false, cond, List, [], ◌∷◌, length, take, drop, Option, Some, None, Result, Ok, Err, refl, ap, arith, length-drop}
use Rattle.std.specs.Prelude.{is_ok, nat_lt, ◌==◌, ◌&&◌, ◌||◌, not}
use Rattle.std.specs.Int.{w16, from_le_bytes}
use Rattle.std.proofs.lemmas.Bool.Decides.{nat_tests}
use Rattle.std.proofs.lemmas.List.{length-take-le}
use Rattle.trie_model.specs.Node.{Node, empty_node}
use Rattle.trie_codec.specs.declared.fault.CodecFault.{CodecFault}
use Rattle.trie_codec.specs.declared.fault.CodecFault.TheVariants.{Short, BadBitmap, BadChild}
use Rattle.trie_codec.specs.Reading.{◌>>=◌, Header, bits_set, first_bitmap, first_body, first_branch, first_bytes, first_child, first_children, first_header, first_leaf, first_node, first_value, is_nothing, node_of_bytes, reads_inline, whole}
use Rattle.trie_codec.proofs.Alike.{Alike, ends, refused, tested, and_then, checked_then, bytes_left, header_left, partial_left, length_left, string_left}

-- two tests of inline children agree on so many bytes
abbrev pub Agree : ℕ → (List ℕ → Bool) → (List ℕ → Bool) → Type 0
Agree m reads others = (bytes : List ℕ) → length bytes ≤ m → length bytes < 32 → reads bytes ≡ others bytes

last : (List ℕ → Bool) → ℕ → List ℕ → List ℕ → Result (List ℕ × List ℕ) CodecFault
last reads len found rest = cond (nat_lt len 32 && not (reads found)) (Err BadChild) (Ok (found, rest))

last_alike : (m : ℕ) (reads others : List ℕ → Bool) → Agree m reads others → (len : ℕ) (found rest : List ℕ) → length found ≡ len → len ≤ m → length rest ≤ m
    → Alike m (last reads len found rest) (last others len found rest)
unfolding last
last_alike m reads others agree len found rest is fits few = by_test (nat_lt len 32) refl
  where
    by_test : (t : Bool) → nat_lt len 32 ≡ t → Alike m (cond (nat_lt len 32 && not (reads found)) (Err BadChild) (Ok (found, rest))) (cond (nat_lt len 32 && not (others found)) (Err BadChild) (Ok (found, rest)))
    by_test true e =
        let short : length found < 32 = grind (arith, nat_tests) in
        rw (agree found (omega arith) short) (tested m (nat_lt len 32 && not (others found)) _ _ _ _ (refused m BadChild) (ends m found rest few))
    by_test false e = rw e (ends m found rest few)

abbrev parted : ℕ → List ℕ → Result (List ℕ × List ℕ) CodecFault
parted len rest = Ok (take len rest, drop len rest)

taken_alike : (m : ℕ) (reads others : List ℕ → Bool) → Agree m reads others → (len : ℕ) (rest : List ℕ) → length rest ≤ m
    → Alike m (first_bytes len rest >>= λ found. last reads len found.0 found.1) (first_bytes len rest >>= λ found. last others len found.0 found.1)
taken_alike m reads others agree len rest few = by_length (nat_lt (length rest) len) refl
  where
    by_length : (t : Bool) → nat_lt (length rest) len ≡ t
        → Alike m (cond t (Err Short) (parted len rest) >>= λ found. last reads len found.0 found.1)
        (cond t (Err Short) (parted len rest) >>= λ found. last others len found.0 found.1)
    by_length true e = refused m Short
    by_length false e =
        let enough : len ≤ length rest = grind (arith, nat_tests) in
        last_alike m reads others agree len (take len rest) (drop len rest) (length-take-le len rest enough) (omega arith) (omega (arith, length-drop len rest))

child_alike : (m : ℕ) (reads others : List ℕ → Bool) → Agree m reads others → (bytes : List ℕ) → length bytes ≤ m
    → Alike m (first_child reads bytes) (first_child others bytes)
unfolding last
child_alike m reads others agree bytes few =
    and_then m (λ n rest. cond ((n == 0) || nat_lt 32 n) (Err BadChild) (Ok n) >>= λ len. first_bytes len rest >>= λ found. last reads len found.0 found.1)
    (λ n rest. cond ((n == 0) || nat_lt 32 n) (Err BadChild) (Ok n) >>= λ len. first_bytes len rest >>= λ found. last others len found.0 found.1) _ _
    (length_left m bytes few) (λ n rest h. checked_then m (cond ((n == 0) || nat_lt 32 n) (Err BadChild) (Ok n)) _ _
    (λ len e. taken_alike m reads others agree len rest h))

-- a child before the others
before_others : (m : ℕ) (reads others : List ℕ → Bool) (n map : ℕ)
    → ((rest : List ℕ) → length rest ≤ m → Alike m (first_children reads n map rest) (first_children others n map rest))
    → (c : Option (List ℕ)) (rest : List ℕ) → length rest ≤ m
    → Alike m (first_children reads n map rest >>= λ x. Ok (c ∷ x.0, x.1)) (first_children others n map rest >>= λ x. Ok (c ∷ x.0, x.1))
before_others m reads others n map deeper c rest few =
    and_then m (λ (cs : List (Option (List ℕ))) after. Ok (c ∷ cs, after)) (λ (cs : List (Option (List ℕ))) after. Ok (c ∷ cs, after)) _ _ (deeper rest few)
    (λ cs after h. ends m (c ∷ cs) after h)

children_alike : (m : ℕ) (reads others : List ℕ → Bool) → Agree m reads others → (n map : ℕ) (bytes : List ℕ) → length bytes ≤ m
    → Alike m (first_children reads n map bytes) (first_children others n map bytes)
unfolding first_children
children_alike m reads others agree zero map bytes few = ends m [] bytes few
children_alike m reads others agree (suc n) map bytes few =
    let deeper = λ (rest : List ℕ) (h : length rest ≤ m). children_alike m reads others agree n (map / 2) rest h in
    tested m (map % 2 == 1) _ _ _ _
    (and_then m (λ (first : List ℕ) rest. first_children reads n (map / 2) rest >>= λ x. Ok (Some first ∷ x.0, x.1))
    (λ (first : List ℕ) rest. first_children others n (map / 2) rest >>= λ x. Ok (Some first ∷ x.0, x.1)) _ _
    (child_alike m reads others agree bytes few) (λ first rest h. before_others m reads others n (map / 2) deeper (Some first) rest h))
    (before_others m reads others n (map / 2) deeper None bytes few)

leaf_left : (m : ℕ) (partial bytes : List ℕ) → length bytes ≤ m → Alike m (first_leaf partial bytes) (first_leaf partial bytes)
leaf_left m partial bytes few =
    let leaf : List ℕ → List ℕ → Result (Node × List ℕ) CodecFault =
    λ value rest. Ok (record { partial = partial; value = Some value; children = empty_node.children }, rest) in
    and_then m leaf leaf _ _ (string_left m bytes few)
    (λ value rest h. ends m (record { partial = partial; value = Some value; children = empty_node.children }) rest h)

value_left : (m kind : ℕ) (bytes : List ℕ) → length bytes ≤ m → Alike m (first_value kind bytes) (first_value kind bytes)
value_left m kind bytes few =
    tested m (kind == 3) _ _ _ _
    (and_then m (λ (v : List ℕ) rest. Ok (Some v, rest)) (λ (v : List ℕ) rest. Ok (Some v, rest)) _ _ (string_left m bytes few) (λ v rest h. ends m (Some v) rest h))
    (ends m None bytes few)

bitmap_left : (m kind : ℕ) (bytes : List ℕ) → length bytes ≤ m → Alike m (first_bitmap kind bytes) (first_bitmap kind bytes)
bitmap_left m kind bytes few =
    let checked : List ℕ → Result ℕ CodecFault =
    λ two. cond ((from_le_bytes w16 two == 0) || ((bits_set (from_le_bytes w16 two) 16 == 1) && (kind == 2))) (Err BadBitmap) (Ok (from_le_bytes w16 two)) in
    and_then m (λ (two : List ℕ) rest. checked two >>= λ map. Ok (map, rest)) (λ (two : List ℕ) rest. checked two >>= λ map. Ok (map, rest)) _ _
    (bytes_left m 2 bytes few) (λ two rest h. checked_then m (checked two) _ _ (λ map e. ends m map rest h))

-- the node of a value and of the children that follow it
node_with : (List ℕ → Bool) → List ℕ → ℕ → Option (List ℕ) → List ℕ → Result (Node × List ℕ) CodecFault
node_with reads partial map value rest =
    first_children reads 16 map rest >>= λ children. Ok (record { partial = partial; value = value; children = children.0 }, children.1)

branch_alike : (m : ℕ) (reads others : List ℕ → Bool) → Agree m reads others → (kind : ℕ) (partial bytes : List ℕ) → length bytes ≤ m
    → Alike m (first_branch reads kind partial bytes) (first_branch others kind partial bytes)
unfolding node_with
branch_alike m reads others agree kind partial bytes few =
    and_then m (λ (map : ℕ) rest. first_value kind rest >>= λ value. node_with reads partial map value.0 value.1)
    (λ (map : ℕ) rest. first_value kind rest >>= λ value. node_with others partial map value.0 value.1) _ _ (bitmap_left m kind bytes few)
    (λ map rest h. and_then m (node_with reads partial map) (node_with others partial map) _ _ (value_left m kind rest h)
    (λ value after k. and_then m (made value) (made value) _ _
    (children_alike m reads others agree 16 map after k) (λ children end j. ends m (record { partial = partial; value = value; children = children }) end j)))
  where
    made : Option (List ℕ) → List (Option (List ℕ)) → List ℕ → Result (Node × List ℕ) CodecFault
    made value children rest = Ok (record { partial = partial; value = value; children = children }, rest)

body_alike : (m : ℕ) (reads others : List ℕ → Bool) → Agree m reads others → (header : Header) (bytes : List ℕ) → length bytes ≤ m
    → Alike m (first_body reads header bytes) (first_body others header bytes)
body_alike m reads others agree header bytes few =
    tested m (header.0 == 0) _ _ _ _ (ends m empty_node bytes few)
    (and_then m (λ (partial : List ℕ) rest. cond (header.0 == 1) (first_leaf partial rest) (first_branch reads header.0 partial rest))
    (λ (partial : List ℕ) rest. cond (header.0 == 1) (first_leaf partial rest) (first_branch others header.0 partial rest)) _ _
    (partial_left m header.1 bytes few)
    (λ partial rest h. tested m (header.0 == 1) _ _ _ _ (leaf_left m partial rest h) (branch_alike m reads others agree header.0 partial rest h)))

node_alike : (m : ℕ) (reads others : List ℕ → Bool) → Agree m reads others → (bytes : List ℕ) → length bytes ≤ suc m → first_node reads bytes ≡ first_node others bytes
unfolding first_node
node_alike m reads others agree bytes few =
    (and_then m (λ h rest. first_body reads h rest) (λ h rest. first_body others h rest) _ _ (header_left m bytes few)
    (λ h rest k. body_alike m reads others agree h rest k)).same

-- ---- the bound

empty_input : (reads others : List ℕ → Bool) (bytes : List ℕ) → length bytes ≤ 0 → first_node reads bytes ≡ first_node others bytes
unfolding first_node first_header
empty_input reads others [] few = refl
empty_input reads others (b ∷ bs) few = absurd (omega arith)

-- more levels than bytes change nothing
inline_alike : (m d e : ℕ) → m < d → m < e → (bytes : List ℕ) → length bytes ≤ m → reads_inline d bytes ≡ reads_inline e bytes
unfolding reads_inline
inline_alike m zero e h k bytes few = absurd (omega arith)
inline_alike m (suc d) zero h k bytes few = absurd (omega arith)
inline_alike zero (suc d) (suc e) h k bytes few =
    ap (λ (r : Result (Node × List ℕ) CodecFault). is_ok (whole r) && not (is_nothing bytes)) (empty_input (reads_inline d) (reads_inline e) bytes few)
inline_alike (suc m) (suc d) (suc e) h k bytes few =
    ap (λ (r : Result (Node × List ℕ) CodecFault). is_ok (whole r) && not (is_nothing bytes))
    (node_alike m (reads_inline d) (reads_inline e) (λ s fits short. inline_alike m d e (omega arith) (omega arith) s fits) bytes few)

pub bound_limits_nothing : (levels : ℕ) (bytes : List ℕ) → 32 ≤ levels → whole (first_node (reads_inline levels) bytes) ≡ node_of_bytes bytes
unfolding node_of_bytes
bound_limits_nothing levels bytes enough =
    ap whole (node_alike (length bytes) (reads_inline levels) (reads_inline 32)
    (λ s fits short. inline_alike 31 levels 32 (omega arith) (omega arith) s (omega arith)) bytes (omega arith))
