-- What two lists of nodes that rise by path have in common is one list.
use Rattle.std.proofs.Common.{◌≡◌, ℕ, zero, suc, ◌+◌, ◌≤◌, Bool, true, false, cond, List, [], ◌∷◌, length, T, refl, ap, subst, sym, ◌∙◌, arith}
use Rattle.std.specs.Prelude.{◌&&◌, ◌||◌, not, count_by, filter}
use Rattle.std.specs.List.{AllByRecursion}
use Rattle.std.specs.Str.{bytes_eq}
use Rattle.std.specs.Ordering.{nat_cmp, is_lt, is_eq}
use Rattle.std.specs.declared.cmp.Ordering.{Ordering}
use Rattle.std.specs.declared.cmp.Ordering.TheVariants.{Less, Equal, Greater}
use Rattle.std.specs.Cmp.Lexicographic.{slice_cmp}
use Rattle.std.specs.FinMap.{nat_cmp-IsAntisymmetric, slice_cmp-IsAntisymmetric}
use Rattle.std.proofs.lemmas.Cmp.{nat_list_cmp_total}
use Rattle.std.proofs.lemmas.List.Filters.{sum_by-filter_both}
use Rattle.std.proofs.lemmas.Map.Text.{is_eq-slice_cmp}
use Rattle.std.proofs.lemmas.Slice.Eq.{bytes_eq-Decides}
use Rattle.trie_model.specs.Nodes.{PathNode, all_over, dropped_nodes, has_node, is_stored, nodes_without, put_nodes, stored_nodes}
use Rattle.trie_model.specs.State.{State}
use Rattle.trie_model.specs.Trie.{levels_of, suffixes_of}
use Rattle.trie_read.proofs.Rising.{LowerThan, Rises, all_weaker, rises_kept, rises_over}

less_from : (o : Ordering) → T (is_lt o) → o ≡ Less
less_from Less h = refl
less_from Equal h = absurd h
less_from Greater h = absurd h

lt_trans : (a b c : List ℕ) → T (is_lt (slice_cmp nat_cmp a b)) → T (is_lt (slice_cmp nat_cmp b c)) → T (is_lt (slice_cmp nat_cmp a c))
lt_trans a b c h k =
    subst (λ o. T (is_lt o)) (sym (nat_list_cmp_total.trans a b c (less_from (slice_cmp nat_cmp a b) h) (less_from (slice_cmp nat_cmp b c) k))) tt

lt_differs : (a b : List ℕ) → T (is_lt (slice_cmp nat_cmp a b)) → bytes_eq a b ≡ false
lt_differs a b h = sym (is_eq-slice_cmp a b) ∙ ap is_eq (less_from (slice_cmp nat_cmp a b) h)

false_from : (b : Bool) → (b ≡ true → ⊥) → b ≡ false
false_from true h = absurd (h refl)
false_from false h = refl

bytes_eq_back : (a b : List ℕ) → bytes_eq a b ≡ false → bytes_eq b a ≡ false
bytes_eq_back a b h = false_from (bytes_eq b a) (λ e. let both : true ≡ false = sym ((bytes_eq-Decides a b).1 (sym ((bytes_eq-Decides b a).0 e))) ∙ h in cc)

-- ---- a node that no path is equal to

no_node : (p b : List ℕ) (ys : List PathNode) → LowerThan p ys → has_node ys (record { path = p; bytes = b }) ≡ false
no_node p b [] h = refl
no_node p b (y ∷ ys) h =
    let other : bytes_eq y.path p ≡ false = bytes_eq_back p y.path (lt_differs p y.path h.0) in
    let rest : has_node ys (record { path = p; bytes = b }) ≡ false = no_node p b ys h.1 in
    rw (other, rest)

filter_alike : (p q : PathNode → Bool) (xs : List PathNode) → AllByRecursion (λ x. p x ≡ q x) xs → filter p xs ≡ filter q xs
filter_alike p q [] a = refl
filter_alike p q (x ∷ xs) a = let one : p x ≡ q x = a.0 in let rest : filter p xs ≡ filter q xs = filter_alike p q xs a.1 in rw (one, rest)

none_kept : (xs : List PathNode) → filter (has_node []) xs ≡ []
none_kept [] = refl
none_kept (x ∷ xs) = none_kept xs

-- a node before all others changes nothing for them
one_before : (x : PathNode) (xs ys : List PathNode) → LowerThan x.path ys → filter (has_node (x ∷ xs)) ys ≡ filter (has_node xs) ys
one_before x xs ys h =
    filter_alike (has_node (x ∷ xs)) (has_node xs) ys
    (all_weaker (λ (y : PathNode). T (is_lt (slice_cmp nat_cmp x.path y.path))) (λ (y : PathNode). has_node (x ∷ xs) y ≡ has_node xs y)
    (λ y lt. let other : bytes_eq x.path y.path ≡ false = lt_differs x.path y.path lt in rw other) ys h)

lower_next : (x y : PathNode) (ys : List PathNode) → T (is_lt (slice_cmp nat_cmp x.path y.path)) → LowerThan y.path ys → LowerThan x.path (y ∷ ys)
lower_next x y ys h a = (
  h,
  all_weaker (λ (z : PathNode). T (is_lt (slice_cmp nat_cmp y.path z.path))) (λ (z : PathNode). T (is_lt (slice_cmp nat_cmp x.path z.path)))
      (λ z k. lt_trans x.path y.path z.path h k) ys a,
)

first_passed : (x : PathNode) (xs ys : List PathNode) → LowerThan x.path ys → filter (has_node ys) xs ≡ filter (has_node xs) ys
    → filter (has_node ys) (x ∷ xs) ≡ filter (has_node (x ∷ xs)) ys
first_passed x xs ys h e =
    let none : has_node ys x ≡ false = no_node x.path x.bytes ys h in
    ap (λ b. cond b (x ∷ filter (has_node ys) xs) (filter (has_node ys) xs)) none ∙ e ∙ sym (one_before x xs ys h)

alike : (x y : PathNode) → x.path ≡ y.path → x.bytes ≡ y.bytes → x ≡ y
alike x y e k = λ i. record { path = e i; bytes = k i }

same_path : (x y : PathNode) (xs ys : List PathNode) → x.path ≡ y.path → LowerThan x.path xs → LowerThan y.path ys
    → filter (has_node ys) xs ≡ filter (has_node xs) ys → filter (has_node (y ∷ ys)) (x ∷ xs) ≡ filter (has_node (x ∷ xs)) (y ∷ ys)
same_path x y xs ys e lx ly k =
    let x_rest : has_node ys x ≡ false = no_node x.path x.bytes ys (subst (λ (p : List ℕ). LowerThan p ys) (sym e) ly) in
    let y_rest : has_node xs y ≡ false = no_node y.path y.bytes xs (subst (λ (p : List ℕ). LowerThan p xs) e lx) in
    let rest : filter (has_node (y ∷ ys)) xs ≡ filter (has_node (x ∷ xs)) ys =
    one_before y ys xs (subst (λ (p : List ℕ). LowerThan p xs) e lx) ∙ k ∙ sym (one_before x xs ys (subst (λ (p : List ℕ). LowerThan p ys) (sym e) ly)) in
    let path_x : bytes_eq y.path x.path ≡ true = (bytes_eq-Decides y.path x.path).1 (sym e) in
    let path_y : bytes_eq x.path y.path ≡ true = (bytes_eq-Decides x.path y.path).1 e in
    elim (bytes_eq y.bytes x.bytes) as (λ b. bytes_eq y.bytes x.bytes ≡ b → filter (has_node (y ∷ ys)) (x ∷ xs) ≡ filter (has_node (x ∷ xs)) (y ∷ ys)) [
      | true ↦ λ same.
          let back : bytes_eq x.bytes y.bytes ≡ true = (bytes_eq-Decides x.bytes y.bytes).1 (sym ((bytes_eq-Decides y.bytes x.bytes).0 same)) in
          let one : has_node (y ∷ ys) x ≡ true = ap (λ b. (b && bytes_eq y.bytes x.bytes) || has_node ys x) path_x ∙ ap (λ b. b || has_node ys x) same in
          let two : has_node (x ∷ xs) y ≡ true = ap (λ b. (b && bytes_eq x.bytes y.bytes) || has_node xs y) path_y ∙ ap (λ b. b || has_node xs y) back in
          let is : x ≡ y = alike x y e (sym ((bytes_eq-Decides y.bytes x.bytes).0 same)) in
          ap (λ b. cond b (x ∷ filter (has_node (y ∷ ys)) xs) (filter (has_node (y ∷ ys)) xs)) one ∙ ap (λ (zs : List PathNode). x ∷ zs) rest
          ∙ ap (λ (z : PathNode). z ∷ filter (has_node (x ∷ xs)) ys) is ∙ sym (ap (λ b. cond b (y ∷ filter (has_node (x ∷ xs)) ys) (filter (has_node (x ∷ xs)) ys)) two)
      | false ↦ λ other.
          let back : bytes_eq x.bytes y.bytes ≡ false = bytes_eq_back y.bytes x.bytes other in
          let one : has_node (y ∷ ys) x ≡ false = ap (λ b. (b && bytes_eq y.bytes x.bytes) || has_node ys x) path_x ∙ ap (λ b. b || has_node ys x) other ∙ x_rest in
          let two : has_node (x ∷ xs) y ≡ false = ap (λ b. (b && bytes_eq x.bytes y.bytes) || has_node xs y) path_y ∙ ap (λ b. b || has_node xs y) back ∙ y_rest in
          ap (λ b. cond b (x ∷ filter (has_node (y ∷ ys)) xs) (filter (has_node (y ∷ ys)) xs)) one ∙ rest
          ∙ sym (ap (λ b. cond b (y ∷ filter (has_node (x ∷ xs)) ys) (filter (has_node (x ∷ xs)) ys)) two)
    ] refl

greater_less : (a b : List ℕ) → slice_cmp nat_cmp a b ≡ Greater → T (is_lt (slice_cmp nat_cmp b a))
greater_less a b e = subst (λ o. T (is_lt o)) (sym (nat_list_cmp_total.antisymm b a ∙ ap turned e)) tt
  where
    turned : Ordering → Ordering
    turned Less = Greater
    turned Equal = Equal
    turned Greater = Less

pub shared : (k : ℕ) (xs ys : List PathNode) → length xs + length ys ≤ k → Rises xs → Rises ys → filter (has_node ys) xs ≡ filter (has_node xs) ys
shared k [] ys fits a b = sym (none_kept ys)
shared k (x ∷ xs) [] fits a b = none_kept (x ∷ xs)
shared zero (x ∷ xs) (y ∷ ys) fits a b = absurd (omega arith)
shared (suc k) (x ∷ xs) (y ∷ ys) fits a b =
    elim (slice_cmp nat_cmp x.path y.path) as (λ o. slice_cmp nat_cmp x.path y.path ≡ o → filter (has_node (y ∷ ys)) (x ∷ xs) ≡ filter (has_node (x ∷ xs)) (y ∷ ys)) [
      | Less ↦ λ e.
          first_passed x xs (y ∷ ys) (lower_next x y ys (subst (λ o. T (is_lt o)) (sym e) tt) b.0) (shared k xs (y ∷ ys) (omega arith) a.1 b)
      | Equal ↦ λ e.
          same_path x y xs ys (slice_cmp-IsAntisymmetric nat_cmp-IsAntisymmetric x.path y.path e) a.0 b.0 (shared k xs ys (omega arith) a.1 b.1)
      | Greater ↦ λ e.
          sym (first_passed y ys (x ∷ xs) (lower_next y x xs (greater_less x.path y.path e) a.0) (sym (shared k (x ∷ xs) ys (omega arith) a b.1)))
    ] refl

stored_rises : (m : State) → Rises (stored_nodes m)
stored_rises m = rises_kept is_stored (all_over (suffixes_of m)) (rises_over (levels_of (suffixes_of m)) [] (suffixes_of m)).0

-- those of a list that another has, and those that it has not
parted : (test : PathNode → Bool) (xs ys : List PathNode) → count_by test (filter (has_node ys) xs) + count_by test (nodes_without xs ys) ≡ count_by test xs
parted test xs ys = sum_by-filter_both (has_node ys) (λ n. not (has_node ys n)) (λ x. refl) (λ x. cond (test x) 1 0) xs

pub balance : (m m2 : State) (test : PathNode → Bool)
    → count_by test (stored_nodes m2) + count_by test (dropped_nodes m m2) ≡ count_by test (stored_nodes m) + count_by test (put_nodes m m2)
balance m m2 test =
    let xs : List PathNode = stored_nodes m in
    let ys : List PathNode = stored_nodes m2 in
    let one : filter (has_node ys) xs ≡ filter (has_node xs) ys = shared (length xs + length ys) xs ys (omega arith) (stored_rises m) (stored_rises m2) in
    let counts : count_by test (filter (has_node ys) xs) ≡ count_by test (filter (has_node xs) ys) = ap (count_by test) one in
    let first : count_by test (filter (has_node ys) xs) + count_by test (nodes_without xs ys) ≡ count_by test xs = parted test xs ys in
    let second : count_by test (filter (has_node xs) ys) + count_by test (nodes_without ys xs) ≡ count_by test ys = parted test ys xs in
    omega arith
