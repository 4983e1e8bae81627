-- Of more numbers than there are places, two stand at one place.
use Rattle.std.proofs.Common.{◌≡◌, ◌⊎◌, ◌<◌, ◌≤◌, ℕ, zero, suc, refl, subst, arith, inl, inr}
use Rattle.std.proofs.lemmas.Bool.Decides.{eqb_tells}

-- where each of the first so many numbers stands at a place below a bound
pub record AreApart (n m : ℕ) (At : ℕ → ℕ → Type 0) : Type 0 where
  pub placed : (i : ℕ) → i < n → (v : ℕ) × At i v × (v < m)
  pub apart : (i j v : ℕ) → i < n → j < n → At i v → At j v → i ≡ j

-- the places with the last one given to the number that stood at another
abbrev Moved : (ℕ → ℕ → Type 0) → ℕ → ℕ → ℕ → ℕ → Type 0
Moved At m a i v = (At i v × (v ≡ m → ⊥)) ⊎ (At i m × (v ≡ a))

moved_apart : (At : ℕ → ℕ → Type 0) (n m a i j v : ℕ) → At n a → AreApart (suc n) (suc m) At → i < n → j < n
    → Moved At m a i v → Moved At m a j v → i ≡ j
moved_apart At n m a i j v last are low other one two =
    elim one [
      | inl x ↦ elim two [
        | inl y ↦ are.apart i j v (omega arith) (omega arith) x.0 y.0
        | inr y ↦ let q = are.apart i n a (omega arith) (omega arith) (subst (At i) y.1 x.0) last in absurd (omega arith)
      ]
      | inr x ↦ elim two [
        | inl y ↦ let q = are.apart j n a (omega arith) (omega arith) (subst (At j) x.1 y.0) last in absurd (omega arith)
        | inr y ↦ are.apart i j m (omega arith) (omega arith) x.0 y.0
      ]
    ]

pub apart_fit : (m n : ℕ) (At : ℕ → ℕ → Type 0) → AreApart n m At → n ≤ m
apart_fit m zero At are = omega arith
apart_fit zero (suc n) At are = let at = are.placed 0 (omega arith) in let none = at.2 in absurd (omega arith)
apart_fit (suc m) (suc n) At are =
    let at = are.placed n (omega arith) in
    let a : ℕ = at.0 in
    let within = at.2 in
    let rest = apart_fit m n (Moved At m a) (record {
      placed = λ i low.
          let p = are.placed i (omega arith) in
          let v : ℕ = p.0 in
          let near = p.2 in
          elim (eqb_tells v m) [
            | inl h ↦
                let top : At i m = subst (At i) h.1 p.1 in
                let ne : a ≡ m → ⊥ = λ q. let same = are.apart i n m (omega arith) (omega arith) top (subst (At n) q at.1) in omega arith in
                (a, inr (top, refl), omega (arith, ne))
            | inr h ↦ (v, inl (p.1, h.1), omega (arith, h.1))
          ];
      apart = λ i j v low other one two. moved_apart At n m a i j v at.1 are low other one two;
    }) in omega arith
