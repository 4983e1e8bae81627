-- What a node has keeps the limits, where the node does.
use Rattle.std.proofs.Common.{◌≡◌, ℕ, zero, suc, ◌+◌, ◌<◌, ◌≤◌, Bool, true, false, eqb, leb, cond, List, [], ◌∷◌, ◌++◌, length, get_or, Option, Some, None, refl, ap, subst, sym, ◌∙◌, inl, inr, arith, length-append}
use Rattle.std.specs.Prelude.{◌&&◌, ◌||◌, nat_lt, not, All, Result, Ok, Err}
use Rattle.std.specs.List.{AllByRecursion, flat_map, list_any}
use Rattle.std.proofs.lemmas.List.Elements.{All-append, All-cons, All-get_or, All-nil}
use Rattle.trie_model.specs.Limits.{most_in_value}
use Rattle.trie_model.specs.Node.{AreParts, IsChild, IsNode, IsNodeWithin, IsPartial, IsText, Node}
use Rattle.trie_model.specs.Trie.{every_nibble}
use Rattle.trie_codec.specs.Reading.{is_nothing, node_of_bytes}
use Rattle.trie_codec.specs.declared.fault.CodecFault.{CodecFault}
use Rattle.trie_codec.proofs.ReadWhole.{whole_was_written}
use Rattle.trie_root.proofs.ReadOffNibbles.{from}
use Rattle.trie_root.proofs.ShapesBytes.{all_joined}
use Rattle.trie_root.proofs.Rows.{unlike}
use Rattle.trie_read.specs.Depth.{child_too_deep, deep_or_empty, is_bad_node, is_long_value, read_too_deep, too_deep}
use Rattle.trie_change.specs.Frontier.{IsLimited}
use Rattle.trie_change.specs.Item.{Item}
use Rattle.trie_change.specs.Item as item
use Rattle.trie_change.specs.inner.Known.{Known, KnownKey, KnownNode, all_known, inline_known, known_at, known_in, known_of, own_known, stub_known}
use Rattle.trie_change.proofs.HangingBetween.{neither_true}

abbrev pub IsShort : Known → Type 0
IsShort (KnownKey key value) = IsPartial key × (length value ≤ most_in_value)
IsShort (KnownNode hash path) = IsPartial path

one_short : (i : Item) → IsShort (known_of i) → IsLimited i
one_short (item.Entry e) h = h
one_short (item.Stub s) h = h

pub items_short : (items : List Item) → AllByRecursion IsShort (all_known items) → AllByRecursion IsLimited items
items_short [] a = tt
items_short (i ∷ items) a = (one_short i a.0, items_short items a.1)

-- ---- nibbles joined

abbrev Nibbles : List ℕ → Type 0
Nibbles ns = All (λ n. n < 16) ns

nibbles_joined : (p q : List ℕ) → Nibbles p → Nibbles q → Nibbles (p ++ q)
nibbles_joined p q a b = All-append (λ n. n < 16) p q a b

one_nibble : (i : ℕ) → i < 16 → Nibbles (i ∷ [])
one_nibble i h = All-cons (λ n. n < 16) i [] h (All-nil (λ n. n < 16))

-- ---- the parts of a node that isn't too deep

short_enough : (n : ℕ) → nat_lt 2048 n ≡ false → n ≤ 2048
short_enough n e = grind arith

value_enough : (n : ℕ) → nat_lt 4194304 n ≡ false → n ≤ 4194304
value_enough n e = grind arith

no_child_deep : (deep : Node → Bool) (cs : List (Option (List ℕ))) → list_any (child_too_deep deep) cs ≡ false → (i : ℕ) → child_too_deep deep (get_or cs i None) ≡ false
no_child_deep deep [] e i = refl
no_child_deep deep (c ∷ cs) e zero = (neither_true (child_too_deep deep c) (list_any (child_too_deep deep) cs) e).0
no_child_deep deep (c ∷ cs) e (suc i) = no_child_deep deep cs (neither_true (child_too_deep deep c) (list_any (child_too_deep deep) cs) e).1 i

own_short : (key : List ℕ) (v : Option (List ℕ)) → IsPartial key → is_long_value v ≡ false → AllByRecursion IsShort (own_known key v)
own_short key None h e = tt
own_short key (Some value) h e = ((h, value_enough (length value) e), tt)

stub_short : (path hash : List ℕ) → Nibbles path → AllByRecursion IsShort (stub_known path hash)
stub_short path hash h = by_test (leb (length path) 2048) refl
  where
    within : leb (length path) 2048 ≡ true → length path ≤ 2048
    within e = grind arith

    by_test : (b : Bool) → leb (length path) 2048 ≡ b → AllByRecursion IsShort (stub_known path hash)
    by_test true e = subst (λ b. AllByRecursion IsShort (cond b (KnownNode hash path ∷ []) [])) (sym e) (record { nibbles = h; short = within e }, tt)
    by_test false e = subst (λ b. AllByRecursion IsShort (cond b (KnownNode hash path ∷ []) [])) (sym e) tt

-- where a node that an inline child spells is a node that isn't too deep, what it has is short
abbrev GoesShort : (Node → List ℕ → List Known) → (Node → Bool) → List ℕ → Type 0
GoesShort go deep path = (m : Node) → IsNode m → deep m ≡ false → AllByRecursion IsShort (go m path)

child_short : (go : Node → List ℕ → List Known) (deep : Node → Bool) (path : List ℕ) → Nibbles path → GoesShort go deep path → (P : Node → Type 0) (c : Option (List ℕ))
    → IsText c → IsChild P c → child_too_deep deep c ≡ false → AllByRecursion IsShort (known_at go path c)
child_short go deep path h goes P None text child e = tt
child_short go deep path h goes P (Some c) text (inl full) e =
    let same : eqb (length c) 32 ≡ true = grind arith in
    subst (λ t. AllByRecursion IsShort (cond t (stub_known path c) (inline_known (λ n. go n path) (node_of_bytes c)))) (sym same) (stub_short path c h)
child_short go deep path h goes P (Some c) text (inr short) e =
    let less : length c < 32 = short.0 in
    let other : eqb (length c) 32 ≡ false = unlike (length c) 32 (λ z. omega arith) in
    let yes_less : nat_lt (length c) 32 ≡ true = grind arith in
    subst (λ t. AllByRecursion IsShort (cond t (stub_known path c) (inline_known (λ n. go n path) (node_of_bytes c)))) (sym other)
    (inline (node_of_bytes c) refl (sym (ap (λ b. cond b (read_too_deep deep (node_of_bytes c)) false) yes_less) ∙ e))
  where
    inline : (r : Result Node CodecFault) → node_of_bytes c ≡ r → read_too_deep deep (node_of_bytes c) ≡ false → AllByRecursion IsShort (inline_known (λ n. go n path) r)
    inline (Ok n) is off = goes n (whole_was_written n c text.1 is).0 (sym (ap (read_too_deep deep) is) ∙ off)
    inline (Err f) is off = tt

children_short : (f : ℕ → List Known) → ((i : ℕ) → i < 16 → AllByRecursion IsShort (f i)) → (i k : ℕ) → i + k ≤ 16 → AllByRecursion IsShort (flat_map f (from i k))
children_short f each i zero h = tt
children_short f each i (suc k) h = all_joined IsShort (f i) (flat_map f (from (suc i) k)) (each i (omega arith)) (children_short f each (suc i) k (omega arith))

parts_of_node : (n : Node) → IsNode n → AreParts (IsNodeWithin 32) n
unfolding IsNodeWithin
parts_of_node n h = h

deep_parts : (levels at : ℕ) (n : Node) → too_deep (suc levels) at n ≡ false → (at + length n.partial ≤ 2048) × (is_long_value n.value ≡ false)
    × (list_any (child_too_deep (too_deep levels (at + length n.partial + 1))) n.children ≡ false)
unfolding too_deep
deep_parts levels at n e =
    let one : ((nat_lt 2048 (at + length n.partial) || is_long_value n.value) ≡ false) × (list_any (child_too_deep (too_deep levels (at + length n.partial + 1))) n.children ≡ false) =
    neither_true (nat_lt 2048 (at + length n.partial) || is_long_value n.value) (list_any (child_too_deep (too_deep levels (at + length n.partial + 1))) n.children) e in
    let two : (nat_lt 2048 (at + length n.partial) ≡ false) × (is_long_value n.value ≡ false) = neither_true (nat_lt 2048 (at + length n.partial)) (is_long_value n.value) one.0 in
    (short_enough (at + length n.partial) two.0, two.1, one.1)

pub all_short : (levels at : ℕ) (n : Node) (path : List ℕ) → IsNode n → Nibbles path → length path ≡ at → too_deep levels at n ≡ false → AllByRecursion IsShort (known_in levels n path)
unfolding known_in
all_short zero at n path is h len e = tt
all_short (suc levels) at n path is h len e =
    let parts : AreParts (IsNodeWithin 32) n = parts_of_node n is in
    let deep : (at + length n.partial ≤ 2048) × (is_long_value n.value ≡ false)
    × (list_any (child_too_deep (too_deep levels (at + length n.partial + 1))) n.children ≡ false) = deep_parts levels at n e in
    let key : List ℕ = path ++ n.partial in
    let nibbles : Nibbles key = nibbles_joined path n.partial h parts.partial.nibbles in
    let long : length key ≡ at + length n.partial = length-append path n.partial ∙ ap (λ k. k + length n.partial) len in
    all_joined IsShort (own_known key n.value) (flat_map (λ i. known_at (known_in levels) (key ++ i ∷ []) (get_or n.children i None)) every_nibble)
    (own_short key n.value (record { nibbles = nibbles; short = omega (arith, deep.0, long) }) deep.1)
    (children_short (λ i. known_at (known_in levels) (key ++ i ∷ []) (get_or n.children i None))
    (λ i small.
    child_short (known_in levels) (too_deep levels (at + length n.partial + 1)) (key ++ i ∷ []) (nibbles_joined key (i ∷ []) nibbles (one_nibble i small))
    (λ m node no. all_short levels (at + length n.partial + 1) m (key ++ i ∷ []) node (nibbles_joined key (i ∷ []) nibbles (one_nibble i small))
    (omega (arith, length-append key (i ∷ []), long)) no)
    (IsNodeWithin 32) (get_or n.children i None)
    (All-get_or IsText n.children i None (omega (arith, parts.sixteen)) parts.texts)
    (All-get_or (IsChild (IsNodeWithin 32)) n.children i None (omega (arith, parts.sixteen)) parts.children)
    (no_child_deep (too_deep levels (at + length n.partial + 1)) n.children deep.2 i)) 0 16 (omega arith))

-- a node that isn't bad isn't too deep
pub not_deep : (at : ℕ) (bytes : List ℕ) (n : Node) → node_of_bytes bytes ≡ Ok n → true ≡ not (is_bad_node at bytes) → too_deep 33 at n ≡ false
not_deep at bytes n e good =
    (neither_true (too_deep 33 at n) (nat_lt 0 at && is_nothing bytes) (sym (ap (deep_or_empty at bytes) e) ∙ not_true (is_bad_node at bytes) good)).0
  where
    not_true : (b : Bool) → true ≡ not b → b ≡ false
    not_true false h = refl
    not_true true h = absurd cc

pub what_it_has : (at : ℕ) (bytes path : List ℕ) (n : Node) (items : List Item) → All (λ b. b < 256) bytes → node_of_bytes bytes ≡ Ok n → true ≡ not (is_bad_node at bytes)
    → at ≡ length path → IsPartial path → all_known items ≡ known_in 33 n path → AllByRecursion IsLimited items
what_it_has at bytes path n items all e good len partial known =
    items_short items (subst (AllByRecursion IsShort) (sym known)
    (all_short 33 at n path (whole_was_written n bytes all e).0 partial.nibbles (sym len) (not_deep at bytes n e good)))
