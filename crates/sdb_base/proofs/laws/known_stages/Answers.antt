use Rattle.std.proofs.Common.{◌≡◌, ◌∷◌, [], ℕ, suc, List, length, refl, sym, ap, ◌∙◌, arith}
use Rattle.sdb_base.specs.Pipeline.{Pipeline}
use Rattle.sdb_base.proofs.laws.known_stages.Goals as goal

pub returns-clause-flushed : goal.returns-clause-flushed
returns-clause-flushed c p w = ap (λ (ns : List ℕ). length ns) w

pub returns-clause-enacted : goal.returns-clause-enacted
returns-clause-enacted c p w r = (1, 1 ∷ 2 ∷ [], r, w, refl)

pub returns-clause-left : goal.returns-clause-left
returns-clause-left c p q n w r h =
    let same : n ∷ h.1 ≡ 1 ∷ 1 ∷ 2 ∷ [] = sym h.3 ∙ w in
    let first : n ≡ 1 = cc in
    let rest : h.1 ≡ 1 ∷ 2 ∷ [] = cc in
    let two : suc h.0 ≡ 2 = sym h.2 ∙ r in (
      first,
      ap (λ (q : Pipeline). q.waiting) h.4 ∙ rest,
      ap (λ (q : Pipeline). q.ready) h.4 ∙ omega (arith, two),
      ap (λ (q : Pipeline). q.numbers.enacted) h.4 ∙ first,
    )

pub returns-clause-some : goal.returns-clause-some
returns-clause-some c p q r h = absurd (omega (arith, r, h.0))

pub returns-clause-none : goal.returns-clause-none
returns-clause-none c p q n r h = absurd (omega (arith, r, h.2))
