-- How many children a node has.
use Rattle.std.proofs.Common.{◌≡◌, ℕ, ◌+◌, ◌<◌, ◌*◌, ◌-◌, ◌/◌, ◌%◌, ◌≤◌, ◌⊎◌, Bool, true, false, cond, ltb, zero, suc, List, [], ◌∷◌, ◌++◌, length, map, replicate, Option, Some, None, refl, inl, inr, arith}
use Rattle.std.specs.List.{count_by}
use Rattle.std.specs.Option.{is_some}
use Rattle.std.proofs.lemmas.Bool.{cases_eq, cases_lt}
use Rattle.std.proofs.lemmas.Bool.Decides.{leb_tells}
use Rattle.std.proofs.lemmas.List.Sums.{sum_by-cons}
use Rattle.trie_model.specs.Node.{Node, branch_kind, has_child, header, spelled, spelling}
use Rattle.trie_model.specs.Trie.{every_nibble}
use Rattle.trie_root.proofs.ReadOffNibbles.{from}

-- one where there is something
abbrev pub one_if : Option (List ℕ) → ℕ
one_if o = cond (is_some o) 1 0

count-cons : (o : Option (List ℕ)) (os : List (Option (List ℕ))) → count_by is_some (o ∷ os) ≡ one_if o + count_by is_some os
count-cons o os = sum_by-cons one_if o os

pub counts_a_child : (cs : List (Option (List ℕ))) → has_child cs ≡ true → 1 ≤ count_by is_some cs
counts_a_child [] e = absurd cc
counts_a_child (None ∷ cs) e = omega (arith, count-cons None cs, counts_a_child cs e)
counts_a_child (Some c ∷ cs) e = omega (arith, count-cons (Some c) cs)

counts_no_child : (cs : List (Option (List ℕ))) → has_child cs ≡ false → count_by is_some cs ≡ 0
counts_no_child [] e = refl
counts_no_child (None ∷ cs) e = omega (arith, count-cons None cs, counts_no_child cs e)
counts_no_child (Some c ∷ cs) e = absurd cc

one_among : (f : ℕ → Option (List ℕ)) (i k n : ℕ) → i ≤ n → n < i + k → is_some (f n) ≡ true → 1 ≤ count_by is_some (map f (from i k))
one_among f i zero n low high e = absurd (omega arith)
one_among f i (suc k) n low high e =
    elim (cases_eq i n) [
      | inl here ↦ let first : is_some (f i) ≡ true = rw here e in let one : one_if (f i) ≡ 1 = rw first in omega (arith, count-cons (f i) (map f (from (suc i) k)))
      | inr later ↦ omega (arith, count-cons (f i) (map f (from (suc i) k)), one_among f (suc i) k n (omega arith) (omega arith) e)
    ]

two_among : (f : ℕ → Option (List ℕ)) (i k n m : ℕ) → i ≤ n → n < m → m < i + k → is_some (f n) ≡ true → is_some (f m) ≡ true
    → 2 ≤ count_by is_some (map f (from i k))
two_among f i zero n m low rise high e g = absurd (omega arith)
two_among f i (suc k) n m low rise high e g =
    elim (cases_eq i n) [
      | inl here ↦
          let first : is_some (f i) ≡ true = rw here e in let one : one_if (f i) ≡ 1 = rw first in
          omega (arith, count-cons (f i) (map f (from (suc i) k)), one_among f (suc i) k m (omega arith) (omega arith) g)
      | inr later ↦ omega (arith, count-cons (f i) (map f (from (suc i) k)), two_among f (suc i) k n m (omega arith) rise (omega arith) e g)
    ]

-- two nibbles at which there is something are two of the sixteen
pub two_children : (f : ℕ → Option (List ℕ)) (n m : ℕ) → n < 16 → m < 16 → (n ≡ m → ⊥) → is_some (f n) ≡ true → is_some (f m) ≡ true
    → 2 ≤ count_by is_some (map f every_nibble)
two_children f n m h k differ e g =
    elim (cases_lt n m) [
      | inl lower ↦ two_among f 0 16 n m (omega arith) lower (omega arith) e g
      | inr other ↦ two_among f 0 16 m n (omega arith) (omega arith) (omega arith) g e
    ]

-- a leaf has a value; a branch has two children at least, or one and a value
pub record HasParts (n : Node) : Type 0 where
  pub some : 1 ≤ count_by is_some n.children + one_if n.value
  pub more : has_child n.children ≡ true → 2 ≤ count_by is_some n.children + one_if n.value

pub parts_with_value : (n : Node) → is_some n.value ≡ true → HasParts n
parts_with_value n e = let one : one_if n.value ≡ 1 = rw e in record {
  some = omega arith;
  more = λ h. omega (arith, counts_a_child n.children h);
}

pub parts_with_two : (n : Node) → 2 ≤ count_by is_some n.children → HasParts n
parts_with_two n two = record { some = omega arith; more = λ h. omega arith }

no_zero_header : (kind n : ℕ) (rest : List ℕ) → 1 ≤ kind → header kind n ++ rest ≡ 0 ∷ [] → ⊥
no_zero_header kind n rest pos e =
    elim (leb_tells (suc n) 63) [
      | inl t ↦
          let few : ltb n 63 ≡ true = t.0 in
          let h : (64 * kind + n) ∷ rest ≡ 0 ∷ [] = rw few at e in let z : 64 * kind + n ≡ 0 = cc in omega arith
      | inr f ↦
          let many : ltb n 63 ≡ false = f.0 in
          let h : (64 * kind + 63) ∷ ((replicate ((n - 63) / 255) 255 ++ ((n - 63) % 255) ∷ []) ++ rest) ≡ 0 ∷ [] = rw many at e in
          let z : 64 * kind + 63 ≡ 0 = cc in omega arith
    ]

branch_kind_some : (v : Option (List ℕ)) → 1 ≤ branch_kind v
branch_kind_some None = omega arith
branch_kind_some (Some v) = omega arith

spelled_something : (b : Bool) (v : Option (List ℕ)) (n : Node) → (b ≡ true) ⊎ (is_some v ≡ true) → spelled b v n ≡ 0 ∷ [] → ⊥
spelled_something false None n (inl h) e = absurd cc
spelled_something false None n (inr h) e = absurd cc
spelled_something false (Some v) n h e = no_zero_header 1 (length n.partial) _ (omega arith) e
spelled_something true v n h e = no_zero_header (branch_kind v) (length n.partial) _ (branch_kind_some v) e

-- what has a child or a value is not spelled as the node of the empty trie
pub not_spelled_empty : (n : Node) → HasParts n → spelling n ≡ 0 ∷ [] → ⊥
unfolding spelling
not_spelled_empty n h e = spelled_something (has_child n.children) n.value n (either (has_child n.children) n.value refl h.some) e
  where
    either : (b : Bool) (v : Option (List ℕ)) → has_child n.children ≡ b → 1 ≤ count_by is_some n.children + one_if v → (b ≡ true) ⊎ (is_some v ≡ true)
    either true v e k = inl refl
    either false (Some v) e k = inr refl
    either false None e k = absurd (omega (arith, counts_no_child n.children e))
