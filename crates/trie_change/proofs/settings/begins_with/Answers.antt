use Rattle.std.proofs.Common.{◌≡◌, ℕ, zero, suc, ◌+◌, ◌<◌, ◌≤◌, Bool, true, false, List, [], ◌∷◌, length, get_or, drop, refl, ap, sym, ◌∙◌, arith}
use Rattle.std.specs.Prelude.{◌&&◌, nat_eq}
use Rattle.std.specs.List.{starts_with}
use Rattle.std.proofs.lemmas.List.{drop_all}
use Rattle.trie_change.proofs.settings.begins_with.Goals as goal

longer : (a b : List ℕ) → length a < length b → false ≡ starts_with nat_eq a b
longer a [] h = absurd (omega arith)
longer [] (y ∷ b) h = refl
longer (x ∷ a) (y ∷ b) h = by_test (nat_eq y x) (starts_with nat_eq a b) (longer a b (omega arith))
  where
    by_test : (t rest : Bool) → false ≡ rest → false ≡ (t && rest)
    by_test true rest e = e
    by_test false rest e = refl

-- where two lists have the same item, what follows decides
same : (a b : List ℕ) (i : ℕ) → i < length a → i < length b → get_or a i 0 ≡ get_or b i 0
    → starts_with nat_eq (drop (suc i) a) (drop (suc i) b) ≡ starts_with nat_eq (drop i a) (drop i b)
same [] b i h k e = absurd (omega arith)
same (x ∷ a) [] i h k e = absurd (omega arith)
same (x ∷ a) (y ∷ b) zero h k e =
    let here : true ≡ nat_eq y x = grind (arith, e) in
    ap (λ t. t && starts_with nat_eq a b) here
same (x ∷ a) (y ∷ b) (suc i) h k e = same a b i (omega arith) (omega arith) e

differs : (a b : List ℕ) (i : ℕ) → i < length a → i < length b → (get_or a i 0 ≡ get_or b i 0 → ⊥) → false ≡ starts_with nat_eq (drop i a) (drop i b)
differs [] b i h k e = absurd (omega arith)
differs (x ∷ a) [] i h k e = absurd (omega arith)
differs (x ∷ a) (y ∷ b) zero h k e =
    let here : false ≡ nat_eq y x = grind (arith, e) in
    ap (λ t. t && starts_with nat_eq a b) here
differs (x ∷ a) (y ∷ b) (suc i) h k e = differs a b i (omega arith) (omega arith) e

nothing_left : (a b : List ℕ) (i : ℕ) → length b ≤ i → true ≡ starts_with nat_eq (drop i a) (drop i b)
nothing_left a b i h = ap (λ (ns : List ℕ). starts_with nat_eq (drop i a) ns) (sym (drop_all i b h))

pub returns-then-key-path : goal.returns-then-key-path
returns-then-key-path c = longer c.args.key.now c.args.path.now (omega arith)

pub loop-i-preserved : goal.loop-i-preserved
loop-i-preserved c =
    let next : c.loop-i.i + 1 ≡ suc c.loop-i.i = omega arith in
    ap (λ (j : ℕ). starts_with nat_eq (drop j c.args.key.now) (drop j c.args.path.now)) next
    ∙ same c.args.key.now c.args.path.now c.loop-i.i (omega arith) (omega arith) c.if-key-i.false ∙ c.loop-i.invariant

pub returns-then-key-i : goal.returns-then-key-i
returns-then-key-i c = differs c.args.key.now c.args.path.now c.loop-i.i (omega arith) (omega arith) c.if-key-i.true ∙ c.loop-i.invariant

pub returns : goal.returns
returns c = nothing_left c.args.key.now c.args.path.now c.loop-i.i (omega arith) ∙ c.loop-i.invariant
