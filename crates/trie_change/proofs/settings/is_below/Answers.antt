use Rattle.std.proofs.Common.{◌≡◌, ℕ, zero, suc, ◌+◌, ◌<◌, List, [], ◌∷◌, length, get_or, drop, min, ap, ◌∙◌, inl, inr, arith}
use Rattle.std.specs.Prelude.{nat_lt}
use Rattle.std.specs.Cmp.{nat_cmp_is}
use Rattle.std.specs.Cmp.Lexicographic.{slice_cmp}
use Rattle.std.specs.Ordering.{is_lt, nat_cmp, ordering_then}
use Rattle.std.specs.declared.cmp.Ordering.TheVariants.{Equal, Greater, Less}
use Rattle.std.proofs.lemmas.Bool.{cases_lt}
use Rattle.trie_change.proofs.settings.is_below.Goals as goal

-- where two lists have the same item, what follows decides
same : (a b : List ℕ) (i : ℕ) → i < length a → i < length b → get_or a i 0 ≡ get_or b i 0
    → slice_cmp nat_cmp (drop (suc i) a) (drop (suc i) b) ≡ slice_cmp nat_cmp (drop i a) (drop i b)
same [] b i h k e = absurd (omega arith)
same (x ∷ a) [] i h k e = absurd (omega arith)
same (x ∷ a) (y ∷ b) zero h k e = ap (λ o. ordering_then o (slice_cmp nat_cmp a b)) (nat_cmp_is x y Equal e)
same (x ∷ a) (y ∷ b) (suc i) h k e = same a b i (omega arith) (omega arith) e

-- the first items that differ decide
differs : (a b : List ℕ) (i : ℕ) → i < length a → i < length b → (get_or a i 0 ≡ get_or b i 0 → ⊥)
    → nat_lt (get_or a i 0) (get_or b i 0) ≡ is_lt (slice_cmp nat_cmp (drop i a) (drop i b))
differs [] b i h k e = absurd (omega arith)
differs (x ∷ a) [] i h k e = absurd (omega arith)
differs (x ∷ a) (y ∷ b) zero h k e = elim (cases_lt x y) [
  | inl less ↦ grind (arith, less) ∙ ap (λ o. is_lt (ordering_then o (slice_cmp nat_cmp a b))) (nat_cmp_is x y Less less)
  | inr more ↦ grind (arith, more) ∙ ap (λ o. is_lt (ordering_then o (slice_cmp nat_cmp a b))) (nat_cmp_is x y Greater (omega (arith, more, e)))
]
differs (x ∷ a) (y ∷ b) (suc i) h k e = differs a b i (omega arith) (omega arith) e

-- where one has come to its end, the shorter one comes first
ended : (a b : List ℕ) (i : ℕ) → min (length a) (length b) ≡ i → nat_lt (length a) (length b) ≡ is_lt (slice_cmp nat_cmp (drop i a) (drop i b))
ended [] [] i e = grind arith
ended [] (y ∷ b) zero e = grind arith
ended [] (y ∷ b) (suc i) e = absurd (omega arith)
ended (x ∷ a) [] zero e = grind arith
ended (x ∷ a) [] (suc i) e = absurd (omega arith)
ended (x ∷ a) (y ∷ b) zero e = absurd (omega arith)
ended (x ∷ a) (y ∷ b) (suc i) e = grind arith ∙ ended a b i (omega arith)

pub loop-i-preserved : goal.loop-i-preserved
loop-i-preserved c =
    let next : c.loop-i.i + 1 ≡ suc c.loop-i.i = omega arith in
    ap (λ (j : ℕ). is_lt (slice_cmp nat_cmp (drop j c.args.key.now) (drop j c.args.path.now))) next
    ∙ ap is_lt (same c.args.key.now c.args.path.now c.loop-i.i (omega arith) (omega arith) c.if-key-i.false) ∙ c.loop-i.invariant

pub returns-then-key-i : goal.returns-then-key-i
returns-then-key-i c = differs c.args.key.now c.args.path.now c.loop-i.i (omega arith) (omega arith) c.if-key-i.true ∙ c.loop-i.invariant

pub returns : goal.returns
returns c = ended c.args.key.now c.args.path.now c.loop-i.i (omega arith) ∙ c.loop-i.invariant
