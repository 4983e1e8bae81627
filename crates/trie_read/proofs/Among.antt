-- Nodes among others.
use Rattle.std.proofs.Common.{◌≡◌, ◌⊎◌, ℕ, zero, suc, ◌+◌, ◌<◌, ◌≤◌, Bool, true, false, cond, List, [], ◌∷◌, ◌++◌, refl, subst, sym, ◌∙◌, inl, inr, arith}
use Rattle.std.specs.List.{Contains, filter, flat_map}
use Rattle.std.proofs.lemmas.Bool.{cases_lt}
use Rattle.std.proofs.lemmas.List.Elements.{Contains-append_cases, Contains-append_right, Contains-append_left, Contains-push, Contains-push_cases}
use Rattle.trie_model.specs.Nodes.{PathNode, if_any}
use Rattle.trie_model.specs.Trie.{Suffix}
use Rattle.trie_root.proofs.ReadOffNibbles.{from}

abbrev pub Among : {X : Type 0} → X → List X → Type 0
Among n [] = ⊥
Among n (m ∷ ms) = (m ≡ n) ⊎ Among n ms

pub contains_from : {X : Type 0} (n : X) (ms : List X) → Among n ms → Contains ms n
contains_from n [] a = absurd a
contains_from n (m ∷ ms) (inl e) = subst (λ x. Contains (m ∷ ms) x) e (Contains-append_left (m ∷ []) ms m (Contains-push [] m))
contains_from n (m ∷ ms) (inr a) = Contains-append_right (m ∷ []) ms n (contains_from n ms a)

none_contained : {X : Type 0} (n : X) → Contains [] n → ⊥
none_contained n c = let h : c.0 < 0 = c.1 in omega arith

pub among_from : {X : Type 0} (n : X) (ms : List X) → Contains ms n → Among n ms
among_from n [] c = none_contained n c
among_from n (m ∷ ms) c = elim (Contains-append_cases (m ∷ []) ms n c) [
  | inl here ↦ elim (Contains-push_cases [] m n here) [ inl none ↦ absurd (none_contained n none) | inr e ↦ inl e ]
  | inr further ↦ inr (among_from n ms further)
]

pub among_left : {X : Type 0} (n : X) (xs ys : List X) → Among n xs → Among n (xs ++ ys)
among_left n [] ys a = absurd a
among_left n (x ∷ xs) ys (inl e) = inl e
among_left n (x ∷ xs) ys (inr a) = inr (among_left n xs ys a)

pub among_right : {X : Type 0} (n : X) (xs ys : List X) → Among n ys → Among n (xs ++ ys)
among_right n [] ys a = a
among_right n (x ∷ xs) ys a = inr (among_right n xs ys a)

pub among_either : {X : Type 0} (n : X) (xs ys : List X) → Among n (xs ++ ys) → Among n xs ⊎ Among n ys
among_either n [] ys a = inr a
among_either n (x ∷ xs) ys (inl e) = inl (inl e)
among_either n (x ∷ xs) ys (inr a) = elim (among_either n xs ys a) [ inl l ↦ inl (inr l) | inr r ↦ inr r ]

-- among the lists of some numbers is in one of them
pub among_flat : {X : Type 0} (n : X) (f : ℕ → List X) (is : List ℕ) → Among n (flat_map f is) → (i : ℕ) × Among n (f i)
among_flat n f [] a = absurd a
among_flat n f (i ∷ is) a = elim (among_either n (f i) (flat_map f is) a) [ inl l ↦ (i, l) | inr r ↦ among_flat n f is r ]

pub flat_among : {X : Type 0} (n : X) (f : ℕ → List X) (i k j : ℕ) → i ≤ j → j < i + k → Among n (f j) → Among n (flat_map f (from i k))
flat_among n f i zero j low high a = absurd (omega arith)
flat_among n f i (suc k) j low high a = elim (cases_lt i j) [
  | inl less ↦ among_right n (f i) (flat_map f (from (suc i) k)) (flat_among n f (suc i) k j (omega arith) (omega arith) a)
  | inr more ↦ let same : j ≡ i = omega arith in among_left n (f i) (flat_map f (from (suc i) k)) (subst (λ (x : ℕ). Among n (f x)) same a)
]

pub among_if_any : (n : PathNode) (f : List Suffix → List PathNode) (ss : List Suffix) → Among n (if_any f ss) → (ss ≡ [] → ⊥) × Among n (f ss)
among_if_any n f [] a = absurd a
among_if_any n f (s ∷ ss) a = ((λ e. cc), a)

pub if_any_among : (n : PathNode) (f : List Suffix → List PathNode) (ss : List Suffix) → (ss ≡ [] → ⊥) → Among n (f ss) → Among n (if_any f ss)
if_any_among n f [] some a = absurd (some refl)
if_any_among n f (s ∷ ss) some a = a

-- what a test keeps is there and passes
pub among_kept : {X : Type 0} (n : X) (test : X → Bool) (xs : List X) → Among n (filter test xs) → Among n xs × (test n ≡ true)
among_kept n test [] a = absurd a
among_kept n test (x ∷ xs) a =
    elim (test x) as (λ b. test x ≡ b → Among n (cond b (x ∷ filter test xs) (filter test xs)) → Among n (x ∷ xs) × (test n ≡ true)) [
      | true ↦ λ passes. λ k. elim k [
        | inl e ↦ (inl e, subst (λ y. test y ≡ true) e passes)
        | inr r ↦ let more : Among n xs × (test n ≡ true) = among_kept n test xs r in (inr more.0, more.1)
      ]
      | false ↦ λ fails. λ k. let more : Among n xs × (test n ≡ true) = among_kept n test xs k in (inr more.0, more.1)
    ] refl a

pub kept_among : {X : Type 0} (n : X) (test : X → Bool) (xs : List X) → Among n xs → test n ≡ true → Among n (filter test xs)
kept_among n test [] a passes = absurd a
kept_among n test (x ∷ xs) a passes =
    elim (test x) as (λ b. test x ≡ b → Among n (cond b (x ∷ filter test xs) (filter test xs))) [
      | true ↦ λ _. elim a [ inl e ↦ inl e | inr r ↦ inr (kept_among n test xs r passes) ]
      | false ↦ λ fails. elim a [
        | inl e ↦ let no : test n ≡ false = subst (λ y. test y ≡ false) e fails in let both : true ≡ false = sym passes ∙ no in absurd cc
        | inr r ↦ kept_among n test xs r passes
      ]
    ] refl
