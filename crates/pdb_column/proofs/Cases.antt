-- Numbers, slots, places and keys by whether they are equal.
use Rattle.std.proofs.Common.{◌≡◌, ◌==◌, Bool, true, false, if◌then◌else◌, ℕ, zero, suc, List, [], ◌∷◌, Some, set, refl, sym, ap, subst, ◌∙◌, inl, inr}
use Rattle.std.specs.Prelude.{slice_get}
use Rattle.std.specs.Str.{bytes_eq}
use Rattle.std.proofs.lemmas.Bool.Decides.{eqb_tells}
use Rattle.std.proofs.lemmas.Slice.Eq.{bytes_eq-Decides}
use Rattle.pdb_model.specs.Tables.{Slot, with_slot}

-- by whether two numbers are equal
pub same_or : (i s : ℕ) (P : Bool → Type 0) → (i ≡ s → P true) → ((i ≡ s → ⊥) → P false) → P (i == s)
same_or i s P hit miss = elim (eqb_tells i s) [ inl h ↦ subst P (sym h.0) (hit h.1) | inr h ↦ subst P (sym h.0) (miss h.1) ]

-- by whether two keys are equal
pub same_key_or : (k key : List ℕ) (P : Bool → Type 0) → (k ≡ key → P true) → ((k ≡ key → ⊥) → P false) → P (bytes_eq k key)
same_key_or k key P hit miss = by (bytes_eq k key) refl
  where
    by : (t : Bool) → bytes_eq k key ≡ t → P (bytes_eq k key)
    by true e = subst P (sym e) (hit ((bytes_eq-Decides k key).0 e))
    by false e = subst P (sym e) (miss (λ same. let w : false ≡ true = sym e ∙ (bytes_eq-Decides k key).1 same in cc))

pub there : (slot : ℕ → Slot) (s : ℕ) (y : Slot) → with_slot slot s y s ≡ y
there slot s y = same_or s s (λ b. (if b then y else slot s) ≡ y) (λ _. refl) (λ ne. absurd (ne refl))

pub elsewhere : (slot : ℕ → Slot) (s : ℕ) (y : Slot) (i : ℕ) → (i ≡ s → ⊥) → with_slot slot s y i ≡ slot i
elsewhere slot s y i ne = same_or i s (λ b. (if b then y else slot i) ≡ slot i) (λ e. absurd (ne e)) (λ _. refl)

pub some_is : (a b : ℕ) → Some a ≡ Some b → a ≡ b
some_is a b e = cc

-- ---- an element of a list is another one

pub set_there : (xs : List ℕ) (i y x : ℕ) → slice_get xs i ≡ Some x → slice_get (set xs i y) i ≡ Some y
set_there [] i y x e = absurd (cc)
set_there (z ∷ zs) zero y x e = refl
set_there (z ∷ zs) (suc i) y x e = set_there zs i y x e

pub set_elsewhere : (xs : List ℕ) (i y j : ℕ) → (j ≡ i → ⊥) → slice_get (set xs i y) j ≡ slice_get xs j
set_elsewhere [] i y j ne = refl
set_elsewhere (z ∷ zs) zero y zero ne = absurd (ne refl)
set_elsewhere (z ∷ zs) zero y (suc j) ne = refl
set_elsewhere (z ∷ zs) (suc i) y zero ne = refl
set_elsewhere (z ∷ zs) (suc i) y (suc j) ne = set_elsewhere zs i y j (λ e. ne (ap suc e))
