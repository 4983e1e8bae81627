-- Nodes that rise by path, sorted by path, are as they were.
use Rattle.std.proofs.Common.{◌≡◌, ℕ, suc, ◌<◌, ◌≤◌, Bool, true, false, cond, List, [], ◌∷◌, length, get_or, T, IsPermutation, refl, ap, ap₂, subst, sym, ◌∙◌, inl, inr, arith}
use Rattle.std.specs.Prelude.{◌&&◌, filter}
use Rattle.std.specs.List.{AllByRecursion}
use Rattle.std.specs.Str.{bytes_eq}
use Rattle.std.specs.Ordering.{is_lt, nat_cmp}
use Rattle.std.specs.Cmp.Lexicographic.{slice_cmp}
use Rattle.std.proofs.lemmas.List.Sorted.{sum_by-IsPermutation}
use Rattle.std.proofs.lemmas.List.Sums.{length-filter}
use Rattle.std.proofs.lemmas.Slice.Eq.{bytes_eq-Decides}
use Rattle.trie_model.specs.Nodes.{PathNode}
use Rattle.trie_read.specs.Paths.{RiseByPath}
use Rattle.trie_read.proofs.Among.{Among, among_kept}
use Rattle.trie_read.proofs.Rising.{LowerThan, Rises}
use Rattle.trie_change.specs.declared.frontier.Fed.{Fed}
use Rattle.trie_change.specs.inner.Settled.{fed_nodes}
use Rattle.trie_change.proofs.FedNodes.{fed_node}
use Rattle.trie_change.proofs.LowerNodes.{is_node}
use Rattle.trie_change.proofs.NodeEntries.{rises_from}

-- ---- each as often in the one as in the other

abbrev is_lower : PathNode → PathNode → Bool
is_lower a b = is_lt (slice_cmp nat_cmp a.path b.path)

-- no node is below one before
abbrev pub Ascends : List PathNode → Type 0
Ascends [] = Unit {0}
Ascends (n ∷ ns) = AllByRecursion (λ m. is_lower m n ≡ false) ns × Ascends ns

abbrev AsOften : List PathNode → List PathNode → Type 0
AsOften xs ys = (test : PathNode → Bool) → length (filter test xs) ≡ length (filter test ys)

is_itself : (n : PathNode) → is_node n n ≡ true
is_itself n = let path = (bytes_eq-Decides n.path n.path).1 refl in let bytes = (bytes_eq-Decides n.bytes n.bytes).1 refl in rw (path, bytes)

pub one_node : (n o : PathNode) → is_node n o ≡ true → o ≡ n
one_node n o e = by_path (bytes_eq o.path n.path) refl e
  where
    by_path : (b : Bool) → bytes_eq o.path n.path ≡ b → (b && bytes_eq o.bytes n.bytes) ≡ true → o ≡ n
    by_path true p e =
        let path : o.path ≡ n.path = (bytes_eq-Decides o.path n.path).0 p in
        let bytes : o.bytes ≡ n.bytes = (bytes_eq-Decides o.bytes n.bytes).0 e in
        λ i. record { path = path i; bytes = bytes i }
    by_path false p e = absurd cc

-- what a test keeps something of has something that passes it
some_kept : (test : PathNode → Bool) (ns kept : List PathNode) → filter test ns ≡ kept → 1 ≤ length kept → (n : PathNode) × Among n ns × (test n ≡ true)
some_kept test ns [] e h = absurd (omega arith)
some_kept test ns (k ∷ ks) e h =
    let both = among_kept k test ns (subst (λ (xs : List PathNode). Among k xs) (sym e) (inl refl)) in (k, both.0, both.1)

-- a node that the one has, the other has
is_in : (x : PathNode) (xs ys : List PathNode) → AsOften (x ∷ xs) ys → Among x ys
is_in x xs ys often =
    let here : length (filter (is_node x) (x ∷ xs)) ≡ suc (length (filter (is_node x) xs)) =
    ap (λ b. length (cond b (x ∷ filter (is_node x) xs) (filter (is_node x) xs))) (is_itself x) in
    let found = some_kept (is_node x) ys (filter (is_node x) ys) refl (omega (arith, often (is_node x), here)) in
    subst (λ (n : PathNode). Among n ys) (one_node x found.0 found.2) found.1

among_lower : (p : List ℕ) (n : PathNode) (ns : List PathNode) → LowerThan p ns → Among n ns → T (is_lt (slice_cmp nat_cmp p n.path))
among_lower p n [] l a = absurd a
among_lower p n (m ∷ ns) l (inl e) = subst (λ (x : PathNode). T (is_lt (slice_cmp nat_cmp p x.path))) e l.0
among_lower p n (m ∷ ns) l (inr a) = among_lower p n ns l.1 a

among_not_lower : (o n : PathNode) (ns : List PathNode) → AllByRecursion (λ m. is_lower m o ≡ false) ns → Among n ns → is_lower n o ≡ false
among_not_lower o n [] l a = absurd a
among_not_lower o n (m ∷ ns) l (inl e) = subst (λ (x : PathNode). is_lower x o ≡ false) e l.0
among_not_lower o n (m ∷ ns) l (inr a) = among_not_lower o n ns l.1 a

heads_alike : (x y : PathNode) (xs ys : List PathNode) → LowerThan x.path xs → AllByRecursion (λ m. is_lower m y ≡ false) ys → Among x (y ∷ ys) → Among y (x ∷ xs) → x ≡ y
heads_alike x y xs ys l a (inl e) k = sym e
heads_alike x y xs ys l a (inr h) (inl e) = e
heads_alike x y xs ys l a (inr h) (inr k) =
    let low : T (is_lower x y) = among_lower x.path y xs l k in
    let not : is_lower x y ≡ false = among_not_lower y x ys a h in
    absurd (subst (λ b. T b) not low)

rest_alike : (x y : PathNode) (xs ys : List PathNode) → x ≡ y → AsOften (x ∷ xs) (y ∷ ys) → AsOften xs ys
rest_alike x y xs ys e often test = by_test (test x) refl
  where
    shorter : (b : Bool) → length (cond b (x ∷ filter test xs) (filter test xs)) ≡ length (cond b (y ∷ filter test ys) (filter test ys)) → length (filter test xs) ≡ length (filter test ys)
    shorter true h = omega arith
    shorter false h = h

    by_test : (b : Bool) → test x ≡ b → length (filter test xs) ≡ length (filter test ys)
    by_test b t =
        let other : test y ≡ b = ap test (sym e) ∙ t in
        let one : length (cond b (x ∷ filter test xs) (filter test xs)) ≡ length (cond b (y ∷ filter test ys) (filter test ys)) =
        sym (ap (λ c. length (cond c (x ∷ filter test xs) (filter test xs))) t) ∙ often test ∙ ap (λ c. length (cond c (y ∷ filter test ys) (filter test ys))) other in
        shorter b one

all_kept : (ns : List PathNode) → length (filter (λ _. true) ns) ≡ length ns
all_kept [] = refl
all_kept (n ∷ ns) = ap suc (all_kept ns)

same_list : (xs ys : List PathNode) → Rises xs → Ascends ys → AsOften xs ys → xs ≡ ys
same_list [] [] r a often = refl
same_list [] (y ∷ ys) r a often = absurd (omega (arith, often (λ _. true), all_kept (y ∷ ys)))
same_list (x ∷ xs) [] r a often = absurd (omega (arith, often (λ _. true), all_kept (x ∷ xs)))
same_list (x ∷ xs) (y ∷ ys) r a often =
    let head : x ≡ y = heads_alike x y xs ys r.0 a.0 (is_in x xs (y ∷ ys) often) (is_in y ys (x ∷ xs) (λ test. sym (often test))) in
    let rest : xs ≡ ys = same_list xs ys r.1 a.1 (rest_alike x y xs ys head often) in
    ap₂ (λ (z : PathNode) (zs : List PathNode). z ∷ zs) head rest

pub sorted_as_before : (xs ys : List PathNode) → RiseByPath xs → Ascends ys → IsPermutation xs ys → xs ≡ ys
sorted_as_before xs ys r a p =
    same_list xs ys (rises_from xs r) a
    (λ test. length-filter test xs ∙ sym (sum_by-IsPermutation (λ n. cond (test n) 1 0) xs ys p) ∙ sym (length-filter test ys))

-- ---- fed nodes after a sort

abbrev pub lower_fed : Fed → Fed → Bool
lower_fed a b = is_lt (slice_cmp nat_cmp a.path.items b.path.items)

-- none of a list is below one before, by index
abbrev pub IsFar : List Fed → Type 0
IsFar fs = (i j : ℕ) (d : Fed) → i ≤ j → j < length fs → lower_fed (get_or fs j d) (get_or fs i d) ≡ false

not_below_first : (f : Fed) (fs : List Fed) → ((j : ℕ) → j < length fs → lower_fed (get_or fs j f) f ≡ false) → AllByRecursion (λ m. is_lower m (fed_node f) ≡ false) (fed_nodes fs)
not_below_first f [] h = tt
not_below_first f (g ∷ fs) h = (h 0 (omega arith), not_below_first f fs (λ j k. h (suc j) (omega arith)))

pub fed_ascend : (fs : List Fed) → IsFar fs → Ascends (fed_nodes fs)
fed_ascend [] h = tt
fed_ascend (f ∷ fs) h = (not_below_first f fs (λ j k. h 0 (suc j) f (omega arith) (omega arith)), fed_ascend fs (λ i j d k l. h (suc i) (suc j) d (omega arith) (omega arith)))
