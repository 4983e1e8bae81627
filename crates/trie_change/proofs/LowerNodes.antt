-- Nodes that are below others by path, and what of a list has the path of one.
use Rattle.std.proofs.Common.{◌≡◌, ℕ, Bool, true, false, List, [], ◌∷◌, ◌++◌, reverse, T, refl, ap, subst, sym, ◌∙◌, append_assoc}
use Rattle.std.specs.Prelude.{◌&&◌, ◌||◌, not, filter}
use Rattle.std.specs.List.{AllByRecursion}
use Rattle.std.specs.Str.{bytes_eq}
use Rattle.std.specs.Ordering.{is_eq, is_lt, nat_cmp, ordering_reverse}
use Rattle.std.specs.declared.cmp.Ordering.{Ordering}
use Rattle.std.specs.declared.cmp.Ordering.TheVariants.{Less, Equal, Greater}
use Rattle.std.specs.Cmp.Lexicographic.{slice_cmp}
use Rattle.std.proofs.lemmas.Cmp.{nat_list_cmp_total}
use Rattle.std.proofs.lemmas.List.{reverse-append}
use Rattle.std.proofs.lemmas.List.Folds.{list_any-append}
use Rattle.std.proofs.lemmas.Map.Text.{is_eq-slice_cmp}
use Rattle.std.proofs.lemmas.Slice.Eq.{bytes_eq-Decides}
use Rattle.trie_model.specs.Nodes.{PathNode, has_node, nodes_without}
use Rattle.trie_root.proofs.ShapesBytes.{all_joined}
use Rattle.trie_read.proofs.Rising.{LowerThan, Rises, all_weaker}

-- ---- paths in order

-- one path is below another
abbrev pub IsLower : List ℕ → List ℕ → Type 0
IsLower a b = T (is_lt (slice_cmp nat_cmp a b))

less_from : (o : Ordering) → T (is_lt o) → o ≡ Less
less_from Less h = refl
less_from Equal h = absurd h
less_from Greater h = absurd h

pub lower_trans : (a b c : List ℕ) → IsLower a b → IsLower b c → IsLower a c
lower_trans a b c h k =
    subst (λ o. T (is_lt o)) (sym (nat_list_cmp_total.trans a b c (less_from (slice_cmp nat_cmp a b) h) (less_from (slice_cmp nat_cmp b c) k))) tt

pub lower_differs : (a b : List ℕ) → IsLower a b → bytes_eq a b ≡ false
lower_differs a b h = sym (is_eq-slice_cmp a b) ∙ ap is_eq (less_from (slice_cmp nat_cmp a b) h)

false_from : (b : Bool) → (b ≡ true → ⊥) → b ≡ false
false_from true h = absurd (h refl)
false_from false h = refl

pub differs_back : (a b : List ℕ) → bytes_eq a b ≡ false → bytes_eq b a ≡ false
differs_back a b h = false_from (bytes_eq b a) (λ e. let both : true ≡ false = sym ((bytes_eq-Decides a b).1 (sym ((bytes_eq-Decides b a).0 e))) ∙ h in cc)

greater_lower : (a b : List ℕ) → slice_cmp nat_cmp a b ≡ Greater → IsLower b a
greater_lower a b e = subst (λ o. T (is_lt o)) (sym (nat_list_cmp_total.antisymm b a ∙ ap ordering_reverse e)) tt

-- of two paths of which the first is not below the other and that differ, the other is below the first
pub other_lower : (a b : List ℕ) → is_lt (slice_cmp nat_cmp a b) ≡ false → bytes_eq b a ≡ false → IsLower b a
other_lower a b h k = elim (slice_cmp nat_cmp a b) as (λ o. slice_cmp nat_cmp a b ≡ o → IsLower b a) [
  | Less ↦ λ e. let yes : true ≡ false = sym (ap is_lt e) ∙ h in cc
  | Equal ↦ λ e. let yes : true ≡ false = sym (ap is_eq e) ∙ is_eq-slice_cmp a b ∙ differs_back b a k in cc
  | Greater ↦ λ e. greater_lower a b e
] refl

-- ---- lists of nodes in order

abbrev pub AllLower : List PathNode → List ℕ → Type 0
AllLower ns p = AllByRecursion (λ (n : PathNode). IsLower n.path p) ns

-- each node's path is below the one before
abbrev pub Falls : List PathNode → Type 0
Falls [] = Unit {0}
Falls (n ∷ ns) = AllLower ns n.path × Falls ns

pub reversed : {X : Type 0} (x : X) (xs ys : List X) → reverse (x ∷ xs) ++ ys ≡ reverse xs ++ (x ∷ ys)
reversed x xs ys = ap (λ zs. zs ++ ys) (reverse-append (x ∷ []) xs) ∙ append_assoc (reverse xs) (x ∷ []) ys

pub all_reversed : {X : Type 0} (P : X → Type 0) (xs : List X) → AllByRecursion P xs → AllByRecursion P (reverse xs)
all_reversed P [] a = tt
all_reversed P (x ∷ xs) a =
    subst (λ ys. AllByRecursion P ys) (sym (reverse-append (x ∷ []) xs)) (all_joined P (reverse xs) (x ∷ []) (all_reversed P xs a.1) (a.0, tt))

falls_before : (n : PathNode) (ns : List PathNode) → Falls ns → AllByRecursion (λ (m : PathNode). IsLower n.path m.path) ns → Falls (ns ++ n ∷ [])
falls_before n [] f a = (tt, tt)
falls_before n (m ∷ ns) f a = (all_joined (λ (x : PathNode). IsLower x.path m.path) ns (n ∷ []) f.0 (a.0, tt), falls_before n ns f.1 a.1)

pub reversed_falls : (ns : List PathNode) → Rises ns → Falls (reverse ns)
reversed_falls [] r = tt
reversed_falls (n ∷ ns) r =
    subst Falls (sym (reverse-append (n ∷ []) ns))
    (falls_before n (reverse ns) (reversed_falls ns r.1) (all_reversed (λ (m : PathNode). IsLower n.path m.path) ns r.0))

pub lower_through : (a b : List ℕ) (ns : List PathNode) → IsLower a b → LowerThan b ns → LowerThan a ns
lower_through a b ns h l =
    all_weaker (λ (n : PathNode). IsLower b n.path) (λ (n : PathNode). IsLower a n.path) (λ n k. lower_trans a b n.path h k) ns l

-- ---- the nodes that a list has

pub none_above : (n : PathNode) (ns : List PathNode) → LowerThan n.path ns → has_node ns n ≡ false
none_above n [] h = refl
none_above n (m ∷ ns) h =
    let other : bytes_eq m.path n.path ≡ false = differs_back n.path m.path (lower_differs n.path m.path h.0) in
    let rest : has_node ns n ≡ false = none_above n ns h.1 in
    rw (other, rest)

pub none_below : (n : PathNode) (ns : List PathNode) → AllLower ns n.path → has_node ns n ≡ false
none_below n [] h = refl
none_below n (m ∷ ns) h =
    let other : bytes_eq m.path n.path ≡ false = lower_differs m.path n.path h.0 in
    let rest : has_node ns n ≡ false = none_below n ns h.1 in
    rw (other, rest)

-- whether two are one node, path and bytes
abbrev pub is_node : PathNode → PathNode → Bool
is_node n o = bytes_eq o.path n.path && bytes_eq o.bytes n.bytes

pub has_joined : (n : PathNode) (ns ms : List PathNode) → has_node (ns ++ ms) n ≡ (has_node ns n || has_node ms n)
has_joined n ns ms = list_any-append (is_node n) ns ms

pub kept_alike : (p q : PathNode → Bool) (ns : List PathNode) → AllByRecursion (λ n. p n ≡ q n) ns → filter p ns ≡ filter q ns
kept_alike p q [] a = refl
kept_alike p q (n ∷ ns) a = let one : p n ≡ q n = a.0 in let rest : filter p ns ≡ filter q ns = kept_alike p q ns a.1 in rw (one, rest)

-- a node below all of a list is none of it
pub without_lower : (n : PathNode) (ns others : List PathNode) → LowerThan n.path ns → nodes_without ns (n ∷ others) ≡ nodes_without ns others
without_lower n ns others h =
    kept_alike (λ m. not (has_node (n ∷ others) m)) (λ m. not (has_node others m)) ns
    (all_weaker (λ (m : PathNode). IsLower n.path m.path) (λ (m : PathNode). not (has_node (n ∷ others) m) ≡ not (has_node others m))
    (λ m lt. let other : bytes_eq n.path m.path ≡ false = lower_differs n.path m.path lt in rw other) ns h)

pub all_without : (ns others : List PathNode) → AllByRecursion (λ n. has_node others n ≡ false) ns → nodes_without ns others ≡ ns
all_without [] others a = refl
all_without (n ∷ ns) others a = let one : has_node others n ≡ false = a.0 in let rest : nodes_without ns others ≡ ns = all_without ns others a.1 in rw (one, rest)
