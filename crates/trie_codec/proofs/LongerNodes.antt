-- A node is read as before where more bytes follow it, and so is each fault but Short.
use Rattle.std.proofs.Common.{◌≡◌, ℕ, zero, suc, ◌/◌, ◌%◌, Bool, false, cond, List, [], ◌∷◌, ◌++◌, length, Option, Some, None, Result, Ok, Err, refl, ap, arith}
use Rattle.std.specs.Prelude.{nat_lt, ◌==◌, ◌&&◌, ◌||◌, not}
use Rattle.std.specs.Int.{w16, from_le_bytes}
use Rattle.std.proofs.lemmas.Bool.Decides.{nat_tests}
use Rattle.trie_model.specs.Node.{Node, empty_node}
use Rattle.trie_codec.specs.declared.fault.CodecFault.{CodecFault}
use Rattle.trie_codec.specs.declared.fault.CodecFault.TheVariants.{Short, BadBitmap, BadChild, Trailing}
use Rattle.trie_codec.specs.Reading.{◌>>=◌, Header, bits_set, first_bitmap, first_body, first_branch, first_bytes, first_child, first_children, first_leaf, first_node, first_value, node_of_bytes, reads_inline, whole}
use Rattle.trie_codec.proofs.Longer.{Extends, ends, refused, tested, and_then, checked_then, bytes_longer, header_longer, partial_longer, length_longer, string_longer}

child_longer : (reads : List ℕ → Bool) (bytes more : List ℕ) → Extends more (first_child reads bytes) (first_child reads (bytes ++ more))
child_longer reads bytes more =
    and_then more (λ n rest. cond ((n == 0) || nat_lt 32 n) (Err BadChild) (Ok n) >>= λ len. first_bytes len rest >>= last len) _ _
    (length_longer bytes more) (λ n rest. checked_then more (cond ((n == 0) || nat_lt 32 n) (Err BadChild) (Ok n)) _ _
    (λ len. and_then more (λ found after. last len (found, after)) _ _ (bytes_longer len rest more)
    (λ found after. tested more (nat_lt len 32 && not (reads found)) _ _ _ _ (refused more BadChild) (ends more found after))))
  where
    last : ℕ → List ℕ × List ℕ → Result (List ℕ × List ℕ) CodecFault
    last len found = cond (nat_lt len 32 && not (reads found.0)) (Err BadChild) (Ok found)

-- a child before the others
before_others : (reads : List ℕ → Bool) (n map : ℕ) (more : List ℕ)
    → ((rest : List ℕ) → Extends more (first_children reads n map rest) (first_children reads n map (rest ++ more)))
    → (c : Option (List ℕ)) (rest : List ℕ)
    → Extends more (first_children reads n map rest >>= λ others. Ok (c ∷ others.0, others.1))
    (first_children reads n map (rest ++ more) >>= λ others. Ok (c ∷ others.0, others.1))
before_others reads n map more deeper c rest =
    and_then more (λ (others : List (Option (List ℕ))) after. Ok (c ∷ others, after)) _ _ (deeper rest)
    (λ others after. ends more (c ∷ others) after)

children_longer : (reads : List ℕ → Bool) (n map : ℕ) (bytes more : List ℕ)
    → Extends more (first_children reads n map bytes) (first_children reads n map (bytes ++ more))
unfolding first_children
children_longer reads zero map bytes more = ends more [] bytes
children_longer reads (suc n) map bytes more =
    let deeper = λ (rest : List ℕ). children_longer reads n (map / 2) rest more in
    tested more (map % 2 == 1) _ _ _ _
    (and_then more (λ (first : List ℕ) rest. first_children reads n (map / 2) rest >>= λ others. Ok (Some first ∷ others.0, others.1)) _ _
    (child_longer reads bytes more) (λ first rest. before_others reads n (map / 2) more deeper (Some first) rest))
    (before_others reads n (map / 2) more deeper None bytes)

leaf_longer : (partial bytes more : List ℕ) → Extends more (first_leaf partial bytes) (first_leaf partial (bytes ++ more))
leaf_longer partial bytes more =
    and_then more (λ (value : List ℕ) rest. Ok (record { partial = partial; value = Some value; children = empty_node.children }, rest)) _ _
    (string_longer bytes more) (λ value rest. ends more (record { partial = partial; value = Some value; children = empty_node.children }) rest)

value_longer : (kind : ℕ) (bytes more : List ℕ) → Extends more (first_value kind bytes) (first_value kind (bytes ++ more))
value_longer kind bytes more =
    tested more (kind == 3) _ _ _ _
    (and_then more (λ (v : List ℕ) rest. Ok (Some v, rest)) _ _ (string_longer bytes more) (λ v rest. ends more (Some v) rest))
    (ends more None bytes)

bitmap_longer : (kind : ℕ) (bytes more : List ℕ) → Extends more (first_bitmap kind bytes) (first_bitmap kind (bytes ++ more))
bitmap_longer kind bytes more =
    and_then more (λ (two : List ℕ) rest. cond ((from_le_bytes w16 two == 0) || ((bits_set (from_le_bytes w16 two) 16 == 1) && (kind == 2))) (Err BadBitmap) (Ok (from_le_bytes w16 two))
    >>= λ map. Ok (map, rest)) _ _ (bytes_longer 2 bytes more)
    (λ two rest. checked_then more (cond ((from_le_bytes w16 two == 0) || ((bits_set (from_le_bytes w16 two) 16 == 1) && (kind == 2))) (Err BadBitmap) (Ok (from_le_bytes w16 two))) _ _
    (λ map. ends more map rest))

branch_longer : (reads : List ℕ → Bool) (kind : ℕ) (partial bytes more : List ℕ) → Extends more (first_branch reads kind partial bytes) (first_branch reads kind partial (bytes ++ more))
branch_longer reads kind partial bytes more =
    and_then more (λ (map : ℕ) rest. first_value kind rest >>= λ value. node map value.0 value.1) _ _ (bitmap_longer kind bytes more)
    (λ map rest. and_then more (λ (value : Option (List ℕ)) after. node map value after) _ _ (value_longer kind rest more)
    (λ value after. and_then more (λ (children : List (Option (List ℕ))) last. Ok (record { partial = partial; value = value; children = children }, last)) _ _
    (children_longer reads 16 map after more) (λ children last. ends more (record { partial = partial; value = value; children = children }) last)))
  where
    node : ℕ → Option (List ℕ) → List ℕ → Result (Node × List ℕ) CodecFault
    node map value rest = first_children reads 16 map rest >>= λ children. Ok (record { partial = partial; value = value; children = children.0 }, children.1)

body_longer : (reads : List ℕ → Bool) (header : Header) (bytes more : List ℕ) → Extends more (first_body reads header bytes) (first_body reads header (bytes ++ more))
body_longer reads header bytes more =
    tested more (header.0 == 0) _ _ _ _ (ends more empty_node bytes)
    (and_then more (λ (partial : List ℕ) rest. cond (header.0 == 1) (first_leaf partial rest) (first_branch reads header.0 partial rest)) _ _
    (partial_longer header.1 bytes more)
    (λ partial rest. tested more (header.0 == 1) _ _ _ _ (leaf_longer partial rest more) (branch_longer reads header.0 partial rest more)))

node_longer : (reads : List ℕ → Bool) (bytes more : List ℕ) → Extends more (first_node reads bytes) (first_node reads (bytes ++ more))
unfolding first_node
node_longer reads bytes more = and_then more (λ h rest. first_body reads h rest) _ _ (header_longer bytes more) (λ h rest. body_longer reads h rest more)

-- ---- of all bytes

length-not-nil : (xs : List ℕ) → (xs ≡ [] → ⊥) → (length xs == 0) ≡ false
length-not-nil [] some = absurd (some refl)
length-not-nil (x ∷ xs) some = grind (arith, nat_tests)

not_at_end : (b : ℕ) (bs : List ℕ) → (length (b ∷ bs) == 0) ≡ false
not_at_end b bs = grind (arith, nat_tests)

-- bytes after what was read of an input
followed : (r s : Result (Node × List ℕ) CodecFault) (more : List ℕ) → Extends more r s → (f : CodecFault) → (f ≡ Short → ⊥) → whole r ≡ Err f → whole s ≡ Err f
followed (Err g) s more e f other is =
    let same : ◌≡◌ {A = Result (Node × List ℕ) CodecFault} (Err g) (Err f) = cc in ap whole (e.fault f other same)
followed (Ok (n, [])) s more e f other is = let none : ◌≡◌ {A = Result Node CodecFault} (Ok n) (Err f) = is in absurd cc
followed (Ok (n, b ∷ bs)) s more e f other is =
    let same : ◌≡◌ {A = Result Node CodecFault} (Err Trailing) (Err f) = rw (not_at_end b bs) at is in
    rw (e.found (n, b ∷ bs) refl, not_at_end b (bs ++ more)) same

pub fault_stays : (bytes more : List ℕ) (f : CodecFault) → (f ≡ Short → ⊥) → node_of_bytes bytes ≡ Err f → node_of_bytes (bytes ++ more) ≡ Err f
unfolding node_of_bytes
fault_stays bytes more f other e =
    followed (first_node (reads_inline 32) bytes) (first_node (reads_inline 32) (bytes ++ more)) more (node_longer (reads_inline 32) bytes more) f other e

trailing : (r s : Result (Node × List ℕ) CodecFault) (more : List ℕ) → Extends more r s → (n : Node) → (more ≡ [] → ⊥) → whole r ≡ Ok n → whole s ≡ Err Trailing
trailing (Err g) s more e n some is = absurd cc
trailing (Ok (m, [])) s more e n some is = rw (e.found (m, []) refl, length-not-nil more some) refl
trailing (Ok (m, b ∷ bs)) s more e n some is =
    let none : ◌≡◌ {A = Result Node CodecFault} (Err Trailing) (Ok n) = rw (not_at_end b bs) at is in absurd cc

pub node_then_more : (bytes more : List ℕ) (n : Node) → (more ≡ [] → ⊥) → node_of_bytes bytes ≡ Ok n → node_of_bytes (bytes ++ more) ≡ Err Trailing
unfolding node_of_bytes
node_then_more bytes more n some e =
    trailing (first_node (reads_inline 32) bytes) (first_node (reads_inline 32) (bytes ++ more)) more (node_longer (reads_inline 32) bytes more) n some e
