-- The nodes of a trie rise by path.
use Rattle.std.proofs.Common.{◌≡◌, ℕ, zero, suc, ◌<◌, ◌≤◌, Bool, true, false, cond, List, [], ◌∷◌, ◌++◌, map, T, refl, subst, sym, arith, append_assoc}
use Rattle.std.specs.List.{AllByRecursion, filter, flat_map}
use Rattle.std.specs.Ordering.{nat_cmp, is_lt, ordering_then}
use Rattle.std.specs.declared.cmp.Ordering.TheVariants.{Less, Equal, Greater}
use Rattle.std.specs.Cmp.Lexicographic.{slice_cmp}
use Rattle.std.specs.FinMap.{is_sorted}
use Rattle.std.proofs.lemmas.Cmp.{ranked, nat_cmp_total, tied_itself}
use Rattle.std.proofs.lemmas.List.{append-nil}
use Rattle.trie_model.specs.Nodes.{PathNode, all_over, if_any, is_stored, nodes_over, stored_over}
use Rattle.trie_model.specs.Trie.{Suffix, below, common_prefix, levels_of}
use Rattle.trie_root.proofs.Ends.{below_all}
use Rattle.trie_root.proofs.ReadOffNibbles.{from}
use Rattle.trie_root.proofs.ShapesBytes.{all_joined}
use Rattle.trie_root.proofs.Stripped.{and, true_from_T}
use Rattle.trie_read.specs.Paths.{RiseByPath}

pub all_weaker : {X : Type 0} (P Q : X → Type 0) → ((x : X) → P x → Q x) → (xs : List X) → AllByRecursion P xs → AllByRecursion Q xs
all_weaker P Q f [] a = tt
all_weaker P Q f (x ∷ xs) a = (f x a.0, all_weaker P Q f xs a.1)

-- ---- lists of nibbles in order

lesser : (x y : ℕ) → x < y → nat_cmp x y ≡ Less
lesser x y h = elim (nat_cmp x y) as (λ r. r ≡ nat_cmp x y → r ≡ Less) [
  | Less ↦ λ e. refl
  | Equal ↦ λ e. absurd (omega (arith, ranked x y Equal e))
  | Greater ↦ λ e. absurd (omega (arith, ranked x y Greater e))
] refl

-- a list is below what goes on from it
lt_longer : (q : List ℕ) (x : ℕ) (r : List ℕ) → T (is_lt (slice_cmp nat_cmp q (q ++ (x ∷ r))))
lt_longer [] x r = tt
lt_longer (y ∷ q) x r =
    subst (λ o. T (is_lt (ordering_then o (slice_cmp nat_cmp q (q ++ (x ∷ r)))))) (sym (tied_itself nat_cmp_total y)) (lt_longer q x r)

lt_further : (q p : List ℕ) (x : ℕ) (r : List ℕ) → T (is_lt (slice_cmp nat_cmp q (q ++ (p ++ (x ∷ r)))))
lt_further q [] x r = lt_longer q x r
lt_further q (y ∷ p) x r = lt_longer q y (p ++ (x ∷ r))

-- two lists that go on with different nibbles are in the order of those
lt_next : (q : List ℕ) (i j : ℕ) (r s : List ℕ) → i < j → T (is_lt (slice_cmp nat_cmp (q ++ (i ∷ r)) (q ++ (j ∷ s))))
lt_next [] i j r s h = subst (λ o. T (is_lt (ordering_then o (slice_cmp nat_cmp r s)))) (sym (lesser i j h)) tt
lt_next (y ∷ q) i j r s h =
    subst (λ o. T (is_lt (ordering_then o (slice_cmp nat_cmp (q ++ (i ∷ r)) (q ++ (j ∷ s)))))) (sym (tied_itself nat_cmp_total y)) (lt_next q i j r s h)

-- ---- nodes in order

abbrev pub LowerThan : List ℕ → List PathNode → Type 0
LowerThan p ns = AllByRecursion (λ (n : PathNode). T (is_lt (slice_cmp nat_cmp p n.path))) ns

abbrev pub Rises : List PathNode → Type 0
Rises [] = Unit {0}
Rises (n ∷ ns) = LowerThan n.path ns × Rises ns

rises_joined : (xs ys : List PathNode) → Rises xs → Rises ys → AllByRecursion (λ (x : PathNode). LowerThan x.path ys) xs → Rises (xs ++ ys)
rises_joined [] ys a b c = b
rises_joined (x ∷ xs) ys a b c =
    (all_joined (λ (n : PathNode). T (is_lt (slice_cmp nat_cmp x.path n.path))) xs ys a.0 c.0, rises_joined xs ys a.1 b c.1)

-- a node's path goes on after some nibbles with a nibble, or with one of at least so much
abbrev With : List ℕ → ℕ → PathNode → Type 0
With q i n = (r : List ℕ) × (n.path ≡ q ++ (i ∷ r))

abbrev From : List ℕ → ℕ → PathNode → Type 0
From q i n = (j : ℕ) × (r : List ℕ) × (i ≤ j) × (n.path ≡ q ++ (j ∷ r))

with_from : (q : List ℕ) (i : ℕ) (n : PathNode) → With q i n → From q i n
with_from q i n w = (i, w.0, omega arith, w.1)

from_less : (q : List ℕ) (i : ℕ) (n : PathNode) → From q (suc i) n → From q i n
from_less q i n f = (f.0, f.1, omega (arith, f.2), f.3)

with_lower : (q : List ℕ) (i : ℕ) (n m : PathNode) → With q i n → From q (suc i) m → T (is_lt (slice_cmp nat_cmp n.path m.path))
with_lower q i n m w f =
    subst (λ (p : List ℕ). T (is_lt (slice_cmp nat_cmp p m.path))) (sym w.1)
    (subst (λ (p : List ℕ). T (is_lt (slice_cmp nat_cmp (q ++ (i ∷ w.0)) p))) (sym f.3) (lt_next q i f.0 w.0 f.1 (omega (arith, f.2))))

rises_flat : (f : ℕ → List PathNode) (q : List ℕ) → ((i : ℕ) → Rises (f i)) → ((i : ℕ) → AllByRecursion (With q i) (f i)) → (i k : ℕ)
    → Rises (flat_map f (from i k)) × AllByRecursion (From q i) (flat_map f (from i k))
rises_flat f q a b i zero = (tt, tt)
rises_flat f q a b i (suc k) =
    let others : List PathNode = flat_map f (from (suc i) k) in
    let rest : Rises others × AllByRecursion (From q (suc i)) others = rises_flat f q a b (suc i) k in (
      rises_joined (f i) others (a i) rest.0
          (all_weaker (With q i) (λ (x : PathNode). LowerThan x.path others)
          (λ x w. all_weaker (From q (suc i)) (λ (m : PathNode). T (is_lt (slice_cmp nat_cmp x.path m.path))) (λ m g. with_lower q i x m w g) others rest.1) (f i) (b i)),
      all_joined (From q i) (f i) others (all_weaker (With q i) (From q i) (with_from q i) (f i) (b i)) (all_weaker (From q (suc i)) (From q i) (from_less q i) others rest.1),
    )

-- what holds of no nodes and of those over some suffixes
keeps_if_any : (P : List PathNode → Type 0) (f : List Suffix → List PathNode) (ss : List Suffix) → P [] → P (f ss) → P (if_any f ss)
keeps_if_any P f [] none some = none
keeps_if_any P f (s ∷ ss) none some = some

-- the nodes over some suffixes rise, and their paths go on from where the first hangs
abbrev pub StartsWith : List ℕ → PathNode → Type 0
StartsWith path n = (r : List ℕ) × (n.path ≡ path ++ r)

regrouped : (a b : List ℕ) (i : ℕ) (r : List ℕ) → (a ++ (b ++ (i ∷ []))) ++ r ≡ (a ++ b) ++ (i ∷ r)
regrouped a b i r = simp append_assoc

starts_with : (a b : List ℕ) (i : ℕ) (n : PathNode) → StartsWith (a ++ (b ++ (i ∷ []))) n → With (a ++ b) i n
starts_with a b i n s = (s.0, subst (λ (p : List ℕ). n.path ≡ p) (regrouped a b i s.0) s.1)

from_above : (a b : List ℕ) (n : PathNode) → From (a ++ b) 0 n → T (is_lt (slice_cmp nat_cmp a n.path))
from_above a b n f =
    subst (λ (p : List ℕ). T (is_lt (slice_cmp nat_cmp a p))) (sym f.3)
    (subst (λ (p : List ℕ). T (is_lt (slice_cmp nat_cmp a p))) (sym (append_assoc a b (f.0 ∷ f.1))) (lt_further a b f.0 f.1))

from_starts : (a b : List ℕ) (n : PathNode) → From (a ++ b) 0 n → StartsWith a n
from_starts a b n f = (b ++ (f.0 ∷ f.1), subst (λ (p : List ℕ). n.path ≡ p) (append_assoc a b (f.0 ∷ f.1)) f.3)

pub rises_over : (d : ℕ) (path : List ℕ) (ss : List Suffix) → Rises (nodes_over d path ss) × AllByRecursion (StartsWith path) (nodes_over d path ss)
unfolding nodes_over
rises_over zero path ss = (tt, tt)
rises_over (suc d) path ss =
    let p : List ℕ = common_prefix ss in
    let f : ℕ → List PathNode = λ i. if_any (nodes_over d (path ++ (p ++ i ∷ []))) (below (p ++ i ∷ []) ss) in
    let both : Rises (flat_map f (from 0 16)) × AllByRecursion (From (path ++ p) 0) (flat_map f (from 0 16)) =
    rises_flat f (path ++ p)
    (λ i. keeps_if_any Rises (nodes_over d (path ++ (p ++ i ∷ []))) (below (p ++ i ∷ []) ss) tt (rises_over d (path ++ (p ++ i ∷ [])) (below (p ++ i ∷ []) ss)).0)
    (λ i. keeps_if_any (AllByRecursion (With (path ++ p) i)) (nodes_over d (path ++ (p ++ i ∷ []))) (below (p ++ i ∷ []) ss) tt
    (all_weaker (StartsWith (path ++ (p ++ i ∷ []))) (With (path ++ p) i) (starts_with path p i) (nodes_over d (path ++ (p ++ i ∷ [])) (below (p ++ i ∷ []) ss))
    (rises_over d (path ++ (p ++ i ∷ [])) (below (p ++ i ∷ []) ss)).1)) 0 16 in (
      (all_weaker (From (path ++ p) 0) (λ (n : PathNode). T (is_lt (slice_cmp nat_cmp path n.path))) (from_above path p) (flat_map f (from 0 16)) both.1, both.0),
      (([], sym (append-nil path)), all_weaker (From (path ++ p) 0) (StartsWith path) (from_starts path p) (flat_map f (from 0 16)) both.1),
    )

-- ---- and so do those that a test keeps

pub all_kept : {X : Type 0} (P : X → Type 0) (test : X → Bool) (xs : List X) → AllByRecursion P xs → AllByRecursion P (filter test xs)
all_kept P test [] a = tt
all_kept P test (x ∷ xs) a =
    elim (test x) as (λ b. AllByRecursion P (cond b (x ∷ filter test xs) (filter test xs))) [
      | true ↦ (a.0, all_kept P test xs a.1)
      | false ↦ all_kept P test xs a.1
    ]

pub rises_kept : (test : PathNode → Bool) (ns : List PathNode) → Rises ns → Rises (filter test ns)
rises_kept test [] a = tt
rises_kept test (n ∷ ns) a =
    elim (test n) as (λ b. Rises (cond b (n ∷ filter test ns) (filter test ns))) [
      | true ↦ (all_kept (λ (m : PathNode). T (is_lt (slice_cmp nat_cmp n.path m.path))) test ns a.0, rises_kept test ns a.1)
      | false ↦ rises_kept test ns a.1
    ]

-- ---- as a sorted list of entries

abbrev as_entry : PathNode → List ℕ × List ℕ
as_entry n = (n.path, n.bytes)

below_entries : (p : List ℕ) (ns : List PathNode) → LowerThan p ns → T (below_all p (map as_entry ns))
below_entries p [] a = tt
below_entries p (n ∷ ns) a = and _ _ a.0 (below_entries p ns a.1)

sorted_entries : (ns : List PathNode) → Rises ns → T (is_sorted (slice_cmp nat_cmp) (map as_entry ns))
sorted_entries [] a = tt
sorted_entries (n ∷ ns) a = and _ _ (below_entries n.path ns a.0) (sorted_entries ns a.1)

pub all_rise : (ss : List Suffix) → RiseByPath (all_over ss)
all_rise ss = true_from_T _ (sorted_entries (all_over ss) (rises_over (levels_of ss) [] ss).0)

pub stored_rise : (ss : List Suffix) → RiseByPath (stored_over ss)
stored_rise ss = true_from_T _ (sorted_entries (stored_over ss) (rises_kept is_stored (all_over ss) (rises_over (levels_of ss) [] ss).0))
