-- What a draft keeps of its puts, before and after one more.
use Rattle.std.proofs.Common.{◌≡◌, ℕ, List, [], ◌∷◌, ◌++◌, length, get_or, Some, None, sym, ap, ap₂, ◌∙◌, subst, cond}
use Rattle.std.proofs.Math.ListN.{set}
use Rattle.std.specs.BTreeMap.{BTreeMap, Updates, get}
use Rattle.std.proofs.lemmas.List.Elements.{All-get_or, All-push, All-set}
use Rattle.pdb_cells.specs.Names.{name_cmp}
use Rattle.pdb_cells.specs.Puts.{IsWholeCell, NoCellTwice, last_put, puts_after, same_cell}
use Rattle.pdb_cells.specs.Sizes.{size_of}
use Rattle.pdb_cells.specs.inner.Places.{ArePlaced, place_of}
use Rattle.pdb_cells.specs.declared.cell_name.CellName.{CellName}
use Rattle.pdb_cells.specs.declared.puts.Put.{Put}
use Rattle.pdb_cells.proofs.Names.{found_after}
use Rattle.pdb_cells.proofs.Placing.{IsAt, after_new, after_placed, once_after, placed, places_kept, places_new, unplaced}

-- the place that the map has is that of the cell's put
pub found_at : (puts : List Put) (places : BTreeMap CellName ℕ) (name : CellName) (i : ℕ) → ArePlaced puts places
    → Some i ≡ get name_cmp places name → IsAt puts name i
found_at puts places name i are e = placed puts name i are.once (sym (are.found name) ∙ sym e)

pub found_none : (puts : List Put) (places : BTreeMap CellName ℕ) (name : CellName) → ArePlaced puts places
    → None ≡ get name_cmp places name → last_put puts name ≡ None
found_none puts places name are e = unplaced puts name (sym (are.found name) ∙ sym e)

-- a put has its cell's size
pub found_sized : (puts : List Put) (places : BTreeMap CellName ℕ) (name : CellName) (i : ℕ) (d : Put) → ArePlaced puts places
    → Some i ≡ get name_cmp places name → size_of name.file ≡ Some (length (get_or puts i d).bytes)
found_sized puts places name i d are e =
    let at = found_at puts places name i are e in
    ap (λ (n : CellName). size_of n.file) (sym (at.cell d)) ∙ (All-get_or IsWholeCell puts i d at.within are.whole).0

pub replaced : (puts : List Put) (places : BTreeMap CellName ℕ) (p : Put) (i : ℕ) → ArePlaced puts places
    → Some i ≡ get name_cmp places p.name → IsWholeCell p → (set puts i p ≡ puts_after puts p) × ArePlaced (set puts i p) places
replaced puts places p i are e whole =
    let place : place_of puts p.name ≡ Some i = sym (are.found p.name) ∙ sym e in
    let after : puts_after puts p ≡ set puts i p = after_placed puts p i place in (
      sym after,
      record {
        once = subst NoCellTwice after (once_after puts p are.once);
        whole = All-set IsWholeCell puts i p whole are.whole;
        found = λ name. are.found name ∙ sym (places_kept puts p i name place) ∙ ap (λ puts. place_of puts name) after;
      },
    )

pub added : (puts : List Put) (a b : BTreeMap CellName ℕ) (p : Put) (n : ℕ) → ArePlaced puts a
    → None ≡ get name_cmp a p.name → Updates name_cmp a b p.name (Some n) → n ≡ length puts → IsWholeCell p
    → (puts ++ p ∷ [] ≡ puts_after puts p) × ArePlaced (puts ++ p ∷ []) b
added puts a b p n are e updates long whole =
    let none = found_none puts a p.name are e in
    let after : puts_after puts p ≡ puts ++ p ∷ [] = after_new puts p none in (
      sym after,
      record {
        once = subst NoCellTwice after (once_after puts p are.once);
        whole = All-push IsWholeCell puts p are.whole whole;
        found = λ name. found_after a b p.name (Some n) updates name
            ∙ ap₂ (λ n o. cond (same_cell p.name name) (Some n) o) long (are.found name) ∙ sym (places_new puts p name none);
      },
    )
