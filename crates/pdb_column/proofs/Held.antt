-- What the slots of a table hold after one of them changes.
use Rattle.std.proofs.Common.{◌≡◌, ◌⊎◌, ◌≤◌, if◌then◌else◌, ℕ, List, Option, Some, refl, sym, ap, ◌∙◌, arith, inl, inr}
use Rattle.std.proofs.lemmas.Bool.Decides.{eqb_tells}
use Rattle.std.proofs.lemmas.Bool.{cases_lt}
use Rattle.pdb_model.specs.Tables.{Slot, Whole, Parted, Part, Free, Loose, Outside, Table, Held, IsTable, IsSettled, held, holding, recounted, with_count}
use Rattle.pdb_column.proofs.Cases.{elsewhere, same_or, there}

-- The table of a tier changed at a value's first slot alone: what it holds now, and that all others hold what they held.
pub record Changes (t now : Table) (s : ℕ) (what : Option Held) : Type 0 where
  pub is : IsTable now
  pub settled : IsSettled now
  pub here : held (now.slot s) ≡ what
  pub others : (i : ℕ) → (i ≡ s → ⊥) → held (now.slot i) ≡ held (t.slot i)

pub one_held : (g h : Held) → Some g ≡ Some h → g ≡ h
one_held g h e = cc

-- a slot that holds a value
pub held_is : (x : Slot) (h : Held) → held x ≡ Some h
    → (x ≡ Whole h.key h.count h.value) ⊎ ((parts : List ℕ) × (x ≡ Parted h.key h.count h.value parts))
held_is (Whole key count value) h e =
    let r : Held = record { key = key; count = count; value = value } in
    inl (ap (λ (h : Held). Whole h.key h.count h.value) (one_held r h e))
held_is (Parted key count value parts) h e =
    let r : Held = record { key = key; count = count; value = value } in
    inr (parts, ap (λ (h : Held). Parted h.key h.count h.value parts) (one_held r h e))
held_is (Part head place bytes next) h e = absurd (cc)
held_is Free h e = absurd (cc)
held_is Loose h e = absurd (cc)
held_is Outside h e = absurd (cc)

pub outside_holds : (x : Slot) (h : Held) → held x ≡ Some h → x ≡ Outside → ⊥
outside_holds x h e out = let w : held Outside ≡ Some h = sym (ap held out) ∙ e in cc

-- a slot that holds a value is one of the table
pub held_within : (t : Table) (s : ℕ) (h : Held) → IsTable t → held (t.slot s) ≡ Some h → (1 ≤ s) × (s ≤ t.end)
held_within t s h is e = (
  elim (eqb_tells s 0) [ inl z ↦ absurd (outside_holds (t.slot s) h e (ap t.slot z.1 ∙ is.from_one)) | inr z ↦ omega (arith, z.1) ],
  elim (cases_lt t.end s) [ inl far ↦ absurd (outside_holds (t.slot s) h e (is.above s far)) | inr near ↦ near ],
)

-- ---- another count

held_counted : (x : Slot) (h : Held) (n : ℕ) → held x ≡ Some h
    → held (with_count x n) ≡ Some (record { key = h.key; count = n; value = h.value })
held_counted x h n e = elim (held_is x h e) [ inl w ↦ ap (λ x. held (with_count x n)) w | inr p ↦ ap (λ x. held (with_count x n)) p.1 ]

settled_counted : (x : Slot) (n : ℕ) → with_count x n ≡ Loose → x ≡ Loose
settled_counted (Whole key count value) n e = cc
settled_counted (Parted key count value parts) n e = cc
settled_counted (Part head place bytes next) n e = cc
settled_counted Free n e = cc
settled_counted Loose n e = refl
settled_counted Outside n e = cc

pub recounted_changes : (t : Table) (s : ℕ) (h : Held) (n : ℕ) → IsTable (recounted t s n) → IsSettled t
    → held (t.slot s) ≡ Some h
    → Changes t (recounted t s n) s (Some (record { key = h.key; count = n; value = h.value }))
recounted_changes t s h n is settled e = record {
  is = is;
  settled = λ i. same_or i s (λ b. (if b then with_count (t.slot s) n else t.slot i) ≡ Loose → ⊥) (λ _ l. settled s (settled_counted (t.slot s) n l)) (λ _. settled i);
  here = ap held (there t.slot s (with_count (t.slot s) n)) ∙ held_counted (t.slot s) h n e;
  others = λ i ne. ap held (elsewhere t.slot s (with_count (t.slot s) n) i ne);
}

-- ---- a whole value

pub whole_settled : (key : List ℕ) (count : ℕ) (value : List ℕ) → Whole key count value ≡ Loose → ⊥
whole_settled key count value e = cc

pub holding_changes : (t : Table) (s : ℕ) (key : List ℕ) (count : ℕ) (value : List ℕ) → IsTable (holding t s key count value)
    → IsSettled t
    → Changes t (holding t s key count value) s (Some (record { key = key; count = count; value = value }))
holding_changes t s key count value is settled = record {
  is = is;
  settled = λ i. same_or i s (λ b. (if b then Whole key count value else t.slot i) ≡ Loose → ⊥) (λ _. whole_settled key count value) (λ _. settled i);
  here = ap held (there t.slot s (Whole key count value));
  others = λ i ne. ap held (elsewhere t.slot s (Whole key count value) i ne);
}
