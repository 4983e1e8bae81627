-- The nodes on a key's way, and the value at its end, from a node down.
use Rattle.std.proofs.Common.{◌≡◌, ◌⊎◌, ℕ, zero, suc, ◌+◌, ◌<◌, ◌≤◌, Bool, true, false, eqb, cond, List, [], ◌∷◌, ◌++◌, length, map, drop, Option, Some, None, refl, ap, sym, ◌∙◌, inl, inr, arith, eq-eqb}
use Rattle.std.specs.Prelude.{◌&&◌, filter, is_some, nat_eq, option_and_then}
use Rattle.std.specs.List.{AllByRecursion, cons_option, flat_map, starts_with}
use Rattle.std.specs.Option.{option_map}
use Rattle.std.specs.Str.{bytes_eq}
use Rattle.std.specs.Ordering.{eq_by_cmp, nat_cmp}
use Rattle.std.specs.Cmp.Lexicographic.{slice_cmp}
use Rattle.std.specs.FinMap.{entries, find, get, get-entries}
use Rattle.std.proofs.lemmas.Bool.{cases_lt}
use Rattle.std.proofs.lemmas.Bool.Decides.{eqb_tells}
use Rattle.std.proofs.lemmas.List.{append-nil}
use Rattle.std.proofs.lemmas.List.Elements.{filter-append}
use Rattle.std.proofs.lemmas.Map.Text.{is_eq-slice_cmp}
use Rattle.std.proofs.lemmas.Slice.Eq.{bytes_eq-Decides}
use Rattle.sdb_base.specs.Nibbles.{nibbles_of}
use Rattle.trie_model.specs.Fetches.{on_the_way}
use Rattle.trie_model.specs.Node.{spelling}
use Rattle.trie_model.specs.Nodes.{PathNode, if_any, nodes_over}
use Rattle.trie_model.specs.State.{State}
use Rattle.trie_model.specs.Trie.{Suffix, after_prefix, below, common_prefix, node_over, suffixes_of, value_here}
use Rattle.trie_root.proofs.Prefixes.{Begins, after_prefix-append, begins_itself, below-append}
use Rattle.trie_root.proofs.ReadOffNibbles.{from}
use Rattle.trie_root.proofs.ReadOffStates.{in_nibbles}
use Rattle.trie_root.proofs.Rows.{unlike}
use Rattle.trie_root.proofs.Stripped.{AllBegin, all_begin}
use Rattle.trie_read.proofs.Binding.{nibbles_bind}
use Rattle.trie_read.proofs.Hanging.{Above}
use Rattle.trie_read.proofs.Rising.{StartsWith, rises_over}

-- ---- whether a path begins some nibbles

pub follows : (q ks : List ℕ) → starts_with nat_eq ks q ≡ is_some (after_prefix q ks)
follows [] ks = refl
follows (x ∷ q) [] = refl
follows (x ∷ q) (k ∷ ks) =
    elim (eqb x k) as (λ b. (b && starts_with nat_eq ks q) ≡ is_some (cond b (after_prefix q ks) None)) [
      | true ↦ follows q ks
      | false ↦ refl
    ]

pub put_back : (p ns rest : List ℕ) → after_prefix p ns ≡ Some rest → p ++ rest ≡ ns
put_back [] ns rest e = cc
put_back (x ∷ p) [] rest e = absurd cc
put_back (x ∷ p) (n ∷ ns) rest e =
    elim (eqb_tells x n) [
      | inl t ↦
          let same : eqb x n ≡ true = t.0 in let is : x ≡ n = t.1 in
          let others : p ++ rest ≡ ns = put_back p ns rest (rw same at e) in cc
      | inr f ↦ let other : eqb x n ≡ false = f.0 in let not : None ≡ Some rest = rw other at e in absurd cc
    ]

after_itself : (p ks : List ℕ) → after_prefix p (p ++ ks) ≡ Some ks
after_itself [] ks = refl
after_itself (x ∷ p) ks = let same : eqb x x ≡ true = eq-eqb x x refl in rw same (after_itself p ks)

pub on_its_way : (p ks b : List ℕ) → on_the_way (p ++ ks) (record { path = p; bytes = b }) ≡ true
on_its_way p ks b = follows p (p ++ ks) ∙ ap is_some (after_itself p ks)

none_on_the_way : (q ks : List ℕ) (ns : List PathNode) → after_prefix q ks ≡ None → AllByRecursion (StartsWith q) ns → filter (on_the_way ks) ns ≡ []
none_on_the_way q ks [] none a = refl
none_on_the_way q ks (n ∷ ns) none a =
    let off : on_the_way ks n ≡ false =
    follows n.path ks ∙ ap (λ (p : List ℕ). is_some (after_prefix p ks)) a.0.1 ∙ ap is_some (after_prefix-append q a.0.0 ks)
    ∙ ap (λ (o : Option (List ℕ)). is_some (option_and_then (after_prefix a.0.0) o)) none in
    ap (λ b. cond b (n ∷ filter (on_the_way ks) ns) (filter (on_the_way ks) ns)) off ∙ none_on_the_way q ks ns none a.1

-- ---- lists of lists of which at most one isn't empty

filter_flat : (test : PathNode → Bool) (f : ℕ → List PathNode) (is : List ℕ) → filter test (flat_map f is) ≡ flat_map (λ i. filter test (f i)) is
filter_flat test f [] = refl
filter_flat test f (i ∷ is) = filter-append test (f i) (flat_map f is) ∙ ap (λ (ns : List PathNode). filter test (f i) ++ ns) (filter_flat test f is)

flat_none : (f : ℕ → List PathNode) (is : List ℕ) → ((i : ℕ) → f i ≡ []) → flat_map f is ≡ []
flat_none f [] none = refl
flat_none f (i ∷ is) none = ap (λ (ns : List PathNode). ns ++ flat_map f is) (none i) ∙ flat_none f is none

flat_past : (f : ℕ → List PathNode) (j i k : ℕ) → j < i → ((n : ℕ) → (n ≡ j → ⊥) → f n ≡ []) → flat_map f (from i k) ≡ []
flat_past f j i zero past none = refl
flat_past f j i (suc k) past none =
    ap (λ (ns : List PathNode). ns ++ flat_map f (from (suc i) k)) (none i (λ e. omega arith)) ∙ flat_past f j (suc i) k (omega arith) none

flat_one : (f : ℕ → List PathNode) (j i k : ℕ) → i ≤ j → j < i + k → ((n : ℕ) → (n ≡ j → ⊥) → f n ≡ []) → flat_map f (from i k) ≡ f j
flat_one f j i zero low high none = absurd (omega arith)
flat_one f j i (suc k) low high none = elim (cases_lt i j) [
  | inl less ↦
      ap (λ (ns : List PathNode). ns ++ flat_map f (from (suc i) k)) (none i (λ e. omega arith)) ∙ flat_one f j (suc i) k (omega arith) (omega arith) none
  | inr more ↦
      let same : i ≡ j = omega arith in
      ap (λ (ns : List PathNode). f i ++ ns) (flat_past f j (suc i) k (omega arith) none) ∙ append-nil (f i) ∙ ap f same
]

-- ---- from a node down

abbrev below_at : ℕ → List ℕ → List Suffix → ℕ → List PathNode
below_at d p ts i = if_any (nodes_over d (p ++ Above ts i)) (below (Above ts i) ts)

kept_if_any : (test : PathNode → Bool) (f : List Suffix → List PathNode) (us : List Suffix) → filter test (if_any f us) ≡ if_any (λ vs. filter test (f vs)) us
kept_if_any test f [] = refl
kept_if_any test f (u ∷ us) = refl

pub starts_if_any : (d : ℕ) (q : List ℕ) (us : List Suffix) → AllByRecursion (StartsWith q) (if_any (nodes_over d q) us)
starts_if_any d q [] = tt
starts_if_any d q (u ∷ us) = (rises_over d q (u ∷ us)).1

-- what is left of a key after a child's path
after_child : (p c ks : List ℕ) (i : ℕ) → after_prefix (p ++ (c ++ i ∷ [])) (p ++ ks) ≡ option_and_then (after_prefix (i ∷ [])) (after_prefix c ks)
after_child p c ks i =
    after_prefix-append p (c ++ i ∷ []) (p ++ ks) ∙ ap (option_and_then (after_prefix (c ++ i ∷ []))) (after_itself p ks) ∙ after_prefix-append c (i ∷ []) ks

off_the_way : (d : ℕ) (p ks : List ℕ) (ts : List Suffix) (i : ℕ) → option_and_then (after_prefix (i ∷ [])) (after_prefix (common_prefix ts) ks) ≡ None
    → filter (on_the_way (p ++ ks)) (below_at d p ts i) ≡ []
off_the_way d p ks ts i none =
    none_on_the_way (p ++ Above ts i) (p ++ ks) (below_at d p ts i) (after_child p (common_prefix ts) ks i ∙ none) (starts_if_any d (p ++ Above ts i) (below (Above ts i) ts))

-- the nodes on the way of a key that ends at a node, or leaves its partial key
pub way_ends : (d : ℕ) (p ks : List ℕ) (ts : List Suffix) → (after_prefix (common_prefix ts) ks ≡ None) ⊎ (after_prefix (common_prefix ts) ks ≡ Some [])
    → filter (on_the_way (p ++ ks)) (nodes_over (suc d) p ts) ≡ record { path = p; bytes = spelling (node_over (suc d) ts) } ∷ []
unfolding nodes_over
way_ends d p ks ts e =
    let head : PathNode = record { path = p; bytes = spelling (node_over (suc d) ts) } in
    let f : ℕ → List PathNode = below_at d p ts in
    let none : (i : ℕ) → filter (on_the_way (p ++ ks)) (f i) ≡ [] = λ i. off_the_way d p ks ts i (nothing i e) in
    ap (λ b. cond b (head ∷ filter (on_the_way (p ++ ks)) (flat_map f (from 0 16))) (filter (on_the_way (p ++ ks)) (flat_map f (from 0 16)))) (on_its_way p ks (spelling (node_over (suc d) ts)))
    ∙ ap (λ (ns : List PathNode). head ∷ ns) (filter_flat (on_the_way (p ++ ks)) f (from 0 16) ∙ flat_none (λ i. filter (on_the_way (p ++ ks)) (f i)) (from 0 16) none)
  where
    nothing : (i : ℕ) → (after_prefix (common_prefix ts) ks ≡ None) ⊎ (after_prefix (common_prefix ts) ks ≡ Some [])
        → option_and_then (after_prefix (i ∷ [])) (after_prefix (common_prefix ts) ks) ≡ None
    nothing i (inl h) = ap (option_and_then (after_prefix (i ∷ []))) h
    nothing i (inr h) = ap (option_and_then (after_prefix (i ∷ []))) h

-- and of one that goes on with the partial key and a nibble
pub way_goes_on : (d : ℕ) (p ks : List ℕ) (ts : List Suffix) (j : ℕ) (rest : List ℕ) → j < 16 → after_prefix (common_prefix ts) ks ≡ Some (j ∷ rest)
    → filter (on_the_way (p ++ ks)) (nodes_over (suc d) p ts) ≡ record { path = p; bytes = spelling (node_over (suc d) ts) }
    ∷ if_any (λ us. filter (on_the_way (p ++ ks)) (nodes_over d (p ++ (common_prefix ts ++ j ∷ [])) us)) (below (common_prefix ts ++ j ∷ []) ts)
unfolding nodes_over
way_goes_on d p ks ts j rest small e =
    let head : PathNode = record { path = p; bytes = spelling (node_over (suc d) ts) } in
    let f : ℕ → List PathNode = below_at d p ts in
    let other : (i : ℕ) → (i ≡ j → ⊥) → filter (on_the_way (p ++ ks)) (f i) ≡ [] = λ i differ.
    off_the_way d p ks ts i (ap (option_and_then (after_prefix (i ∷ []))) e ∙ ap (λ b. cond b (Some rest) None) (unlike i j differ)) in
    ap (λ b. cond b (head ∷ filter (on_the_way (p ++ ks)) (flat_map f (from 0 16))) (filter (on_the_way (p ++ ks)) (flat_map f (from 0 16)))) (on_its_way p ks (spelling (node_over (suc d) ts)))
    ∙ ap (λ (ns : List PathNode). head ∷ ns) (filter_flat (on_the_way (p ++ ks)) f (from 0 16)
    ∙ flat_one (λ i. filter (on_the_way (p ++ ks)) (f i)) j 0 16 (omega arith) (omega arith) other
    ∙ kept_if_any (on_the_way (p ++ ks)) (nodes_over d (p ++ Above ts j)) (below (Above ts j) ts))

-- ---- the value at a key's end

one_without : (c ks : List ℕ) (s : Suffix) (ts : List Suffix) → Begins c s.0 → after_prefix c ks ≡ None → value_here (below ks ts) ≡ None
    → (r : Option (List ℕ)) → after_prefix ks s.0 ≡ r → value_here (cons_option (option_map (λ (k : List ℕ). (k, s.1)) r) (below ks ts)) ≡ None
one_without c ks s ts a none others None e = others
one_without c ks s ts a none others (Some []) e =
    let same : ks ≡ s.0 = sym (append-nil ks) ∙ put_back ks s.0 [] e in
    let some : None ≡ Some (drop (length c) s.0) = sym none ∙ ap (after_prefix c) same ∙ a.rest in absurd cc
one_without c ks s ts a none others (Some (x ∷ r)) e = let longer : eqb (suc (length r)) 0 ≡ false = unlike (suc (length r)) 0 (λ z. omega arith) in rw longer others

no_value : (c ks : List ℕ) (ts : List Suffix) → AllBegin c ts → after_prefix c ks ≡ None → value_here (below ks ts) ≡ None
no_value c ks [] a none = refl
no_value c ks (s ∷ ts) a none = one_without c ks s ts a.0 none (no_value c ks ts a.1 none) (after_prefix ks s.0) refl

-- where the key leaves the partial key there is no value
pub value_off : (ks : List ℕ) (ts : List Suffix) → after_prefix (common_prefix ts) ks ≡ None → value_here (below ks ts) ≡ None
value_off ks ts none = no_value (common_prefix ts) ks ts (all_begin (common_prefix ts) ts (begins_itself (common_prefix ts))) none

-- where it goes on, it is that of the suffixes that go on alike
pub value_on : (ks : List ℕ) (ts : List Suffix) (rest : List ℕ) → after_prefix (common_prefix ts) ks ≡ Some rest
    → value_here (below ks ts) ≡ value_here (below rest (below (common_prefix ts) ts))
value_on ks ts rest e =
    ap (λ (k : List ℕ). value_here (below k ts)) (sym (put_back (common_prefix ts) ks rest e)) ∙ ap value_here (below-append (common_prefix ts) rest ts)

-- a state's value at a key is that of the suffix of no nibbles after the key's
ends_at : (k l : List ℕ) → (k ≡ l) ⊎ ((k ≡ l → ⊥) × (bytes_eq k l ≡ false))
ends_at k l = elim (bytes_eq k l) as (λ b. bytes_eq k l ≡ b → (k ≡ l) ⊎ ((k ≡ l → ⊥) × (bytes_eq k l ≡ false))) [
  | true ↦ λ e. inl ((bytes_eq-Decides k l).0 e)
  | false ↦ λ e. inr ((λ same. let yes : bytes_eq k l ≡ true = (bytes_eq-Decides k l).1 same in let both : true ≡ false = sym yes ∙ e in cc), e)
] refl

after_whole : (k : List ℕ) → after_prefix k k ≡ Some []
after_whole [] = refl
after_whole (x ∷ k) = let same : eqb x x ≡ true = eq-eqb x x refl in rw same (after_whole k)

found_in : (key : List ℕ) (es : List (List ℕ × List ℕ)) → find (slice_cmp nat_cmp) key es ≡ value_here (below (nibbles_of key) (map in_nibbles es))
found_in key [] = refl
found_in key ((k, v) ∷ es) = elim (ends_at key k) [
  | inl same ↦
      let yes : eq_by_cmp (slice_cmp nat_cmp) key k ≡ true = is_eq-slice_cmp key k ∙ (bytes_eq-Decides key k).1 same in
      let whole : after_prefix (nibbles_of key) (nibbles_of k) ≡ Some [] = ap (λ (l : List ℕ). after_prefix (nibbles_of key) (nibbles_of l)) (sym same) ∙ after_whole (nibbles_of key) in
      ap (λ b. cond b (Some v) (find (slice_cmp nat_cmp) key es)) yes
      ∙ sym (ap (λ o. value_here (cons_option (option_map (λ (r : List ℕ). (r, v)) o) (below (nibbles_of key) (map in_nibbles es)))) whole)
  | inr other ↦
      let no : eq_by_cmp (slice_cmp nat_cmp) key k ≡ false = is_eq-slice_cmp key k ∙ other.1 in
      ap (λ b. cond b (Some v) (find (slice_cmp nat_cmp) key es)) no ∙ found_in key es ∙ sym (passed (after_prefix (nibbles_of key) (nibbles_of k)) refl other.0)
]
  where
    passed : (r : Option (List ℕ)) → after_prefix (nibbles_of key) (nibbles_of k) ≡ r → (key ≡ k → ⊥)
        → value_here (cons_option (option_map (λ (s : List ℕ). (s, v)) r) (below (nibbles_of key) (map in_nibbles es))) ≡ value_here (below (nibbles_of key) (map in_nibbles es))
    passed None e differ = refl
    passed (Some []) e differ = absurd (differ (nibbles_bind key k (sym (append-nil (nibbles_of key)) ∙ put_back (nibbles_of key) (nibbles_of k) [] e)))
    passed (Some (x ∷ r)) e differ = let longer : eqb (suc (length r)) 0 ≡ false = unlike (suc (length r)) 0 (λ z. omega arith) in rw longer refl

pub found_at_its_nibbles : (m : State) (key : List ℕ) → get m key ≡ value_here (below (nibbles_of key) (suffixes_of m))
found_at_its_nibbles m key = get-entries m key ∙ found_in key (entries m)

flat_before : (f : ℕ → List PathNode) (j i k : ℕ) → i + k ≤ j → ((n : ℕ) → (n ≡ j → ⊥) → f n ≡ []) → flat_map f (from i k) ≡ []
flat_before f j i zero h none = refl
flat_before f j i (suc k) h none =
    ap (λ (ns : List PathNode). ns ++ flat_map f (from (suc i) k)) (none i (λ e. omega arith)) ∙ flat_before f j (suc i) k (omega arith) none

-- and of one that goes on with what is no nibble
pub way_beyond : (d : ℕ) (p ks : List ℕ) (ts : List Suffix) (j : ℕ) (rest : List ℕ) → 16 ≤ j → after_prefix (common_prefix ts) ks ≡ Some (j ∷ rest)
    → filter (on_the_way (p ++ ks)) (nodes_over (suc d) p ts) ≡ record { path = p; bytes = spelling (node_over (suc d) ts) } ∷ []
unfolding nodes_over
way_beyond d p ks ts j rest large e =
    let head : PathNode = record { path = p; bytes = spelling (node_over (suc d) ts) } in
    let f : ℕ → List PathNode = below_at d p ts in
    let other : (i : ℕ) → (i ≡ j → ⊥) → filter (on_the_way (p ++ ks)) (f i) ≡ [] = λ i differ.
    off_the_way d p ks ts i (ap (option_and_then (after_prefix (i ∷ []))) e ∙ ap (λ b. cond b (Some rest) None) (unlike i j differ)) in
    ap (λ b. cond b (head ∷ filter (on_the_way (p ++ ks)) (flat_map f (from 0 16))) (filter (on_the_way (p ++ ks)) (flat_map f (from 0 16)))) (on_its_way p ks (spelling (node_over (suc d) ts)))
    ∙ ap (λ (ns : List PathNode). head ∷ ns) (filter_flat (on_the_way (p ++ ks)) f (from 0 16)
    ∙ flat_before (λ i. filter (on_the_way (p ++ ks)) (f i)) j 0 16 (omega arith) other)
