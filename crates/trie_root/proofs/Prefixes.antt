-- Prefixes of suffixes: one after another, and the one that all share.
use Rattle.std.proofs.Common.{◌≡◌, ℕ, true, false, eqb, cond, List, [], ◌∷◌, ◌++◌, length, map, drop, Option, Some, None, refl, ◌∙◌, inl, inr, eq-eqb}
use Rattle.std.specs.Prelude.{option_and_then}
use Rattle.std.specs.List.{cons_option}
use Rattle.std.specs.Option.{option_map}
use Rattle.std.proofs.lemmas.Bool.Decides.{eqb_tells}
use Rattle.trie_model.specs.Trie.{Suffix, after_prefix, below, common, common_prefix}

-- what follows two prefixes, one after the other
pub after_prefix-append : (p q ns : List ℕ) → after_prefix (p ++ q) ns ≡ option_and_then (after_prefix q) (after_prefix p ns)
after_prefix-append [] q ns = refl
after_prefix-append (x ∷ p) q [] = refl
after_prefix-append (x ∷ p) q (n ∷ ns) =
    elim (eqb x n) as (λ b. cond b (after_prefix (p ++ q) ns) None ≡ option_and_then (after_prefix q) (cond b (after_prefix p ns) None)) [
      | true ↦ after_prefix-append p q ns
      | false ↦ refl
    ]

one_further : (q : List ℕ) (v : List ℕ) (rest : Option (List ℕ)) (others : List Suffix)
    → cons_option (option_map (λ (r : List ℕ). (r, v)) (option_and_then (after_prefix q) rest)) (below q others)
    ≡ below q (cons_option (option_map (λ (r : List ℕ). (r, v)) rest) others)
one_further q v None others = refl
one_further q v (Some r) others = refl

pub below-append : (p q : List ℕ) (ss : List Suffix) → below (p ++ q) ss ≡ below q (below p ss)
below-append p q [] = refl
below-append p q (s ∷ ss) =
    rw (after_prefix-append p q s.0, below-append p q ss) (one_further q s.1 (after_prefix p s.0) (below p ss))

-- a list begins with a prefix
pub record Begins (p ns : List ℕ) : Type 0 where
  pub rest : after_prefix p ns ≡ Some (drop (length p) ns)

pub begins_further : (x n : ℕ) (p ns : List ℕ) → x ≡ n → Begins p ns → Begins (x ∷ p) (n ∷ ns)
begins_further x n p ns e h = let same : eqb x n ≡ true = eq-eqb x n e in record { rest = rw same h.rest }

pub begins_itself : (p : List ℕ) → Begins p p
begins_itself [] = record { rest = refl }
begins_itself (x ∷ p) = begins_further x x p p refl (begins_itself p)

pub begins_nothing : (x : ℕ) (p : List ℕ) → Begins (x ∷ p) [] → ⊥
begins_nothing x p h = let e : None ≡ Some (drop (length (x ∷ p)) []) = h.rest in cc

pub begins_parts : (x n : ℕ) (p ns : List ℕ) → Begins (x ∷ p) (n ∷ ns) → (x ≡ n) × Begins p ns
begins_parts x n p ns h =
    elim (eqb_tells x n) [
      | inl t ↦ let same : eqb x n ≡ true = t.0 in (t.1, record { rest = rw same at h.rest })
      | inr f ↦ let other : eqb x n ≡ false = f.0 in let e : None ≡ Some (drop (length p) ns) = rw other at h.rest in absurd cc
    ]

-- what begins all that two lists share begins both
pub begins_both : (p a b : List ℕ) → Begins p (common a b) → Begins p a × Begins p b
begins_both [] a b h = (record { rest = refl }, record { rest = refl })
begins_both (x ∷ p) [] b h = absurd (begins_nothing x p h)
begins_both (x ∷ p) (n ∷ a) [] h = absurd (begins_nothing x p h)
begins_both (x ∷ p) (n ∷ a) (k ∷ b) h =
    elim (eqb_tells n k) [
      | inl t ↦
          let same : eqb n k ≡ true = t.0 in
          let parts : (x ≡ n) × Begins p (common a b) = begins_parts x n p (common a b) (rw same at h) in
          let both : Begins p a × Begins p b = begins_both p a b parts.1 in
          (begins_further x n p a parts.0 both.0, begins_further x k p b (parts.0 ∙ t.1) both.1)
      | inr f ↦ let other : eqb n k ≡ false = f.0 in absurd (begins_nothing x p (rw other at h))
    ]

-- a suffix without its first nibbles
abbrev pub without : ℕ → Suffix → Suffix
without n s = (drop n s.0, s.1)

pub all_remain : (p : List ℕ) (ss : List Suffix) → Begins p (common_prefix ss) → below p ss ≡ map (without (length p)) ss
all_remain p [] h = refl
all_remain p (s ∷ []) h = let one : after_prefix p s.0 ≡ Some (drop (length p) s.0) = h.rest in rw one
all_remain p (s ∷ (t ∷ ss)) h =
    let both : Begins p s.0 × Begins p (common_prefix (t ∷ ss)) = begins_both p s.0 (common_prefix (t ∷ ss)) h in
    let one : after_prefix p s.0 ≡ Some (drop (length p) s.0) = both.0.rest in
    let others : below p (t ∷ ss) ≡ map (without (length p)) (t ∷ ss) = all_remain p (t ∷ ss) both.1 in
    rw (one, others)
