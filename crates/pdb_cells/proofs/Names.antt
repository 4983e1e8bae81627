-- Cells are ordered by file and index, so that equal in the order is the same cell.
use Rattle.std.proofs.Common.{◌≡◌, ℕ, ◌==◌, ◌&&◌, Bool, true, false, cond, Option, refl, sym, ap, ap₂, ◌∙◌, arith}
use Rattle.std.specs.BTreeMap.{BTreeMap, Updates, get}
use Rattle.std.specs.Cmp.{tied_then}
use Rattle.std.specs.Ordering.{is_eq, nat_cmp}
use Rattle.std.proofs.lemmas.Bool.{eqb-true, eq-eqb}
use Rattle.std.proofs.lemmas.Bool.Decides.{nat_tests}
use Rattle.pdb_cells.specs.Names.{name_cmp}
use Rattle.pdb_cells.specs.Puts.{same_cell}
use Rattle.pdb_cells.specs.declared.cell_name.CellName.{CellName}

is_eq-nat_cmp : (a b : ℕ) → is_eq (nat_cmp a b) ≡ (a == b)
is_eq-nat_cmp a b = grind (arith, nat_tests)

-- a name is found in a map exactly by the names of its cell
pub is_eq-name_cmp : (a b : CellName) → is_eq (name_cmp a b) ≡ same_cell a b
is_eq-name_cmp a b =
    sym (tied_then (nat_cmp a.file b.file) (nat_cmp a.index b.index))
    ∙ ap₂ (λ s t. s && t) (is_eq-nat_cmp a.file b.file) (is_eq-nat_cmp a.index b.index)

both_true : (s t : Bool) → (s && t) ≡ true → (s ≡ true) × (t ≡ true)
both_true true t e = (refl, e)
both_true false t e = cc

-- names of one cell are equal
pub same_cell-true : (a b : CellName) → same_cell a b ≡ true → a ≡ b
same_cell-true a b e =
    let parts = both_true (a.file == b.file) (a.index == b.index) e in
    ap₂ (λ (f i : ℕ). let name : CellName = record { file = f; index = i } in name) (eqb-true a.file b.file parts.0) (eqb-true a.index b.index parts.1)

pub same_cell-refl : (a : CellName) → same_cell a a ≡ true
same_cell-refl a = ap₂ (λ s t. s && t) (eq-eqb a.file a.file refl) (eq-eqb a.index a.index refl)

flipped : (a b : CellName) (t : Bool) → same_cell b a ≡ t → same_cell a b ≡ false → same_cell b a ≡ false
flipped a b true e apart = let same = ap (same_cell a) (same_cell-true b a e) in let own = same_cell-refl a in cc
flipped a b false e apart = e

-- it doesn't matter which is named first
pub same_cell-flip : (a b : CellName) → same_cell a b ≡ false → same_cell b a ≡ false
same_cell-flip a b apart = flipped a b (same_cell b a) refl apart

-- what a map holds after one cell was inserted
pub found_after : {A : Type 0} (a b : BTreeMap CellName A) (name : CellName) (v : Option A) → Updates name_cmp a b name v
    → (q : CellName) → get name_cmp b q ≡ cond (same_cell name q) v (get name_cmp a q)
found_after a b name v after q = after.0 q ∙ ap (λ t. cond t v (get name_cmp a q)) (is_eq-name_cmp name q)
