-- What the slots of a table hold after a value is removed.
use Rattle.std.proofs.Common.{◌≡◌, if◌then◌else◌, ℕ, zero, suc, List, [], ◌∷◌, Some, None, refl, sym, ap, ◌∙◌, inl, inr}
use Rattle.std.proofs.lemmas.Bool.Decides.{eqb_tells}
use Rattle.std.specs.Prelude.{slice_get}
use Rattle.pdb_model.specs.Tables.{Slot, Whole, Parted, Part, Free, Loose, Outside, Table, IsTable, IsSettled, freed, freed_all, held, parts_of, removed}
use Rattle.pdb_column.proofs.Cases.{same_or}
use Rattle.pdb_column.proofs.Held.{Changes}

-- a slot after those of a list are freed: it stands on the list and is free, or is what it was
pub data IsFreed (t : Table) (list : List ℕ) (i : ℕ) (x : Slot) : Type 0 where
  OnList : (j : ℕ) → slice_get list j ≡ Some i → x ≡ Free → IsFreed t list i x
  Kept : ((j : ℕ) → slice_get list j ≡ Some i → ⊥) → x ≡ t.slot i → IsFreed t list i x

free_stays : (list : List ℕ) (t : Table) (i : ℕ) → t.slot i ≡ Free → (freed_all t list).slot i ≡ Free
free_stays [] t i e = e
free_stays (s ∷ rest) t i e = free_stays rest (freed t s) i (same_or i s (λ b. (if b then Free else t.slot i) ≡ Free) (λ _. refl) (λ _. e))

none_of : (s i : ℕ) (rest : List ℕ) (j : ℕ) → (i ≡ s → ⊥) → ((k : ℕ) → slice_get rest k ≡ Some i → ⊥)
    → slice_get (s ∷ rest) j ≡ Some i → ⊥
none_of s i rest zero ne none e = ne (let w : s ≡ i = cc in sym w)
none_of s i rest (suc j) ne none e = none j e

pub freed_or_kept : (list : List ℕ) (t : Table) (i : ℕ) → IsFreed t list i ((freed_all t list).slot i)
freed_or_kept [] t i = Kept (λ j e. cc) refl
freed_or_kept (s ∷ rest) t i =
    elim (eqb_tells i s) [
      | inl h ↦ OnList 0 (ap Some (sym h.1)) (free_stays rest (freed t s) i (ap (λ b. if b then Free else t.slot i) h.0))
      | inr h ↦ elim (freed_or_kept rest (freed t s) i) [
        | OnList j got free ↦ OnList (suc j) got free
        | Kept none is ↦ Kept (λ j. none_of s i rest j h.1 none) (is ∙ ap (λ b. if b then Free else t.slot i) h.0)
      ]
    ]

-- a further part of what a slot holds is no value's first slot
part_holds_none : (t : Table) (s : ℕ) (x : Slot) (j i : ℕ) → IsTable t → t.slot s ≡ x → slice_get (parts_of x) j ≡ Some i
    → held (t.slot i) ≡ None
part_holds_none t s (Whole key count value) j i is e got = absurd (cc)
part_holds_none t s (Parted key count value parts) j i is e got = ap held (is.parts s key count value parts e j i got)
part_holds_none t s (Part head place bytes next) j i is e got = absurd (cc)
part_holds_none t s Free j i is e got = absurd (cc)
part_holds_none t s Loose j i is e got = absurd (cc)
part_holds_none t s Outside j i is e got = absurd (cc)

listed_holds_none : (t : Table) (s j i : ℕ) → IsTable t → (i ≡ s → ⊥) → slice_get (s ∷ parts_of (t.slot s)) j ≡ Some i
    → held (t.slot i) ≡ None
listed_holds_none t s zero i is ne got = absurd (ne (let w : s ≡ i = cc in sym w))
listed_holds_none t s (suc j) i is ne got = part_holds_none t s (t.slot s) j i is refl got

not_loose : (x : Slot) → x ≡ Free → x ≡ Loose → ⊥
not_loose x free loose = let w : Free ≡ Loose = sym free ∙ loose in cc

pub removed_changes : (t : Table) (s : ℕ) → IsTable t → IsTable (removed t s) → IsSettled t → Changes t (removed t s) s None
removed_changes t s before is settled = record {
  is = is;
  settled = λ i. elim (freed_or_kept (s ∷ parts_of (t.slot s)) t i) [
    | OnList j got free ↦ not_loose _ free
    | Kept none same ↦ λ loose. settled i (sym same ∙ loose)
  ];
  here = elim (freed_or_kept (s ∷ parts_of (t.slot s)) t s) [
    | OnList j got free ↦ ap held free
    | Kept none same ↦ absurd (none 0 refl)
  ];
  others = λ i ne. elim (freed_or_kept (s ∷ parts_of (t.slot s)) t i) [
    | OnList j got free ↦ ap held free ∙ sym (listed_holds_none t s j i before ne got)
    | Kept none same ↦ ap held same
  ];
}
