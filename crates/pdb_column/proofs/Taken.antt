-- What the slots of a table hold after some of them are taken.
use Rattle.std.proofs.Common.{◌≡◌, ◌+◌, ◌<◌, ◌≤◌, if◌then◌else◌, ℕ, zero, suc, List, [], ◌∷◌, Some, None, refl, sym, ap, subst, ◌∙◌, arith, inl, inr}
use Rattle.std.proofs.lemmas.Bool.Decides.{eqb_tells}
use Rattle.std.specs.Prelude.{slice_get}
use Rattle.pdb_model.specs.Tables.{Slot, Whole, Parted, Part, Free, Loose, Outside, Table, IsTable, free_after, end_after, held, next_slot, slots_taken, taken, taken_many, times, times_free, with_slot}
use Rattle.pdb_column.proofs.Cases.{elsewhere, same_or}

-- no slot that can be taken is a value's first one
pub record IsOpen (slot : ℕ → Slot) (free : List ℕ) (end : ℕ) : Type 0 where
  pub listed : (i : ℕ) → 1 ≤ times i free → held (slot i) ≡ None
  pub above : (i : ℕ) → end < i → held (slot i) ≡ None

free_holds_none : (x : Slot) → 1 ≤ times_free x → held x ≡ None
free_holds_none (Whole key count value) h = absurd (omega arith)
free_holds_none (Parted key count value parts) h = absurd (omega arith)
free_holds_none (Part head place bytes next) h = refl
free_holds_none Free h = refl
free_holds_none Loose h = refl
free_holds_none Outside h = refl

pub table_open : (t : Table) → IsTable t → IsOpen t.slot t.free t.end
table_open t is = record {
  listed = λ i on. free_holds_none (t.slot i) (subst (λ n. 1 ≤ n) (is.once i) on);
  above = λ i far. ap held (is.above i far);
}

here : (s : ℕ) (rest : List ℕ) → 1 ≤ times s (s ∷ rest)
here s rest = same_or s s (λ b. 1 ≤ (if b then 1 else 0) + times s rest) (λ _. omega arith) (λ ne. absurd (ne refl))

pub next_open : (slot : ℕ → Slot) (free : List ℕ) (end : ℕ) → IsOpen slot free end → held (slot (next_slot free end)) ≡ None
next_open slot [] end o = o.above (end + 1) (omega arith)
next_open slot (s ∷ rest) end o = o.listed s (here s rest)

-- a slot that becomes loose holds nothing, and what others held stays
loosened : (slot : ℕ → Slot) (s i : ℕ) → held (slot i) ≡ None → held (with_slot slot s Loose i) ≡ None
loosened slot s i e = same_or i s (λ b. held (if b then Loose else slot i) ≡ None) (λ _. refl) (λ _. e)

taken_open : (slot : ℕ → Slot) (free : List ℕ) (end : ℕ) → IsOpen slot free end
    → IsOpen (with_slot slot (next_slot free end) Loose) (free_after free) (end_after free end)
taken_open slot [] end o = record {
  listed = λ i on. absurd (omega arith);
  above = λ i far. loosened slot (end + 1) i (o.above i (omega arith));
}
taken_open slot (s ∷ rest) end o = record {
  listed = λ i on. loosened slot s i (o.listed i (omega arith));
  above = λ i far. loosened slot s i (o.above i far);
}

-- a slot after some were taken: it is one of them, or is what it was
pub data IsTaken (t : Table) (list : List ℕ) (i : ℕ) (x : Slot) : Type 0 where
  OnList : (j : ℕ) → slice_get list j ≡ Some i → held (t.slot i) ≡ None → IsTaken t list i x
  Kept : x ≡ t.slot i → IsTaken t list i x

pub taken_or_kept : (n : ℕ) (t : Table) (i : ℕ) → IsOpen t.slot t.free t.end
    → IsTaken t (slots_taken n t) i ((taken_many n t).slot i)
taken_or_kept zero t i o = Kept refl
taken_or_kept (suc n) t i o =
    elim (eqb_tells i (next_slot t.free t.end)) [
      | inl h ↦ OnList 0 (ap Some (sym h.1)) (ap (λ k. held (t.slot k)) h.1 ∙ next_open t.slot t.free t.end o)
      | inr h ↦
          let same : (taken t).slot i ≡ t.slot i = elsewhere t.slot (next_slot t.free t.end) Loose i h.1 in
          elim (taken_or_kept n (taken t) i (taken_open t.slot t.free t.end o)) [
            | OnList j got none ↦ OnList (suc j) got (sym (ap held same) ∙ none)
            | Kept is ↦ Kept (is ∙ same)
          ]
    ]

-- what can be taken holds nothing
listed_open : (n : ℕ) (t : Table) (i j : ℕ) → IsOpen t.slot t.free t.end → slice_get (slots_taken n t) j ≡ Some i
    → held (t.slot i) ≡ None
listed_open zero t i j o got = absurd (cc)
listed_open (suc n) t i zero o got = let e : next_slot t.free t.end ≡ i = cc in ap (λ k. held (t.slot k)) (sym e) ∙ next_open t.slot t.free t.end o
listed_open (suc n) t i (suc j) o got =
    let s : ℕ = next_slot t.free t.end in
    let none = listed_open n (taken t) i j (taken_open t.slot t.free t.end o) got in
    elim (eqb_tells i s) [
      | inl h ↦ ap (λ k. held (t.slot k)) h.1 ∙ next_open t.slot t.free t.end o
      | inr h ↦ sym (ap held (elsewhere t.slot s Loose i h.1)) ∙ none
    ]

neither : (h i : ℕ) (parts : List ℕ) (j : ℕ) → (i ≡ h → ⊥) → ((k : ℕ) → slice_get parts k ≡ Some i → ⊥)
    → slice_get (h ∷ parts) j ≡ Some i → ⊥
neither h i parts zero ne none e = ne (let w : h ≡ i = cc in sym w)
neither h i parts (suc j) ne none e = none j e

pub old_kept : (t : Table) (n i : ℕ) → IsOpen t.slot t.free t.end → (i ≡ next_slot t.free t.end → ⊥)
    → ((j : ℕ) → slice_get (slots_taken n (taken t)) j ≡ Some i → ⊥)
    → (taken_many (suc n) t).slot i ≡ t.slot i
old_kept t n i o ne none = elim (taken_or_kept (suc n) t i o) [
  | OnList j got nothing ↦ absurd (neither (next_slot t.free t.end) i (slots_taken n (taken t)) j ne none got)
  | Kept is ↦ is
]

-- a further part's slot held nothing before
pub part_open : (t : Table) (n i j : ℕ) → IsOpen t.slot t.free t.end → slice_get (slots_taken n (taken t)) j ≡ Some i
    → held (t.slot i) ≡ None
part_open t n i j o got = listed_open (suc n) t i (suc j) o got

-- the slot that a value gets held nothing before
pub next_holds_none : (t : Table) → IsTable t → held (t.slot (next_slot t.free t.end)) ≡ None
next_holds_none t is = next_open t.slot t.free t.end (table_open t is)
