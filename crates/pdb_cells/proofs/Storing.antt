-- What a map of cells holds after one more is set.
use Rattle.std.proofs.Common.{◌≡◌, ℕ, Bool, true, false, cond, List, length, Option, Some, None, Result, Ok, Err, OnOk, OnErr, replicate, refl, sym, ap, ◌∙◌}
use mathlib.Core.Path.{fun_ext}
use Rattle.std.specs.BTreeMap.{BTreeMap, IsUnchanged, Updates, get, is_at}
use Rattle.std.specs.Map.{lookup}
use Rattle.std.specs.Option.{unwrap_or}
use Rattle.std.proofs.lemmas.Option.{same_Some}
use Rattle.pdb_cells.specs.Content.{put_cell}
use Rattle.pdb_cells.specs.Memory.{cells_in, zeros_of}
use Rattle.pdb_cells.specs.Names.{name_cmp}
use Rattle.pdb_cells.specs.Puts.{same_cell}
use Rattle.pdb_cells.specs.Sizes.{size_of}
use Rattle.pdb_cells.specs.inner.Stored.{AreSized}
use Rattle.pdb_cells.specs.declared.cell_name.CellName.{CellName}
use Rattle.pdb_cells.proofs.Laying.{chosen}
use Rattle.pdb_cells.proofs.Names.{found_after, same_cell-true}

cell_set : (a b : BTreeMap CellName (List ℕ)) (name : CellName) (bytes : List ℕ) → Updates name_cmp a b name (Some bytes)
    → (q : CellName) → cells_in b q.file q.index ≡ put_cell name.file name.index bytes (cells_in a) q.file q.index
cell_set a b name bytes after q =
    ap (λ o. unwrap_or o (zeros_of q.file)) (found_after a b name (Some bytes) after q)
    ∙ chosen (same_cell name q) bytes (get name_cmp a q) (zeros_of q.file)

-- the cell that is set has its bytes, and no other changes
pub cells_set : (a b : BTreeMap CellName (List ℕ)) (name : CellName) (bytes : List ℕ) → Updates name_cmp a b name (Some bytes)
    → cells_in b ≡ put_cell name.file name.index bytes (cells_in a)
cells_set a b name bytes after = fun_ext (λ file. fun_ext (λ index. cell_set a b name bytes after (record { file = file; index = index })))

sized_at : (t : Bool) (name q : CellName) (bytes b : List ℕ) (o : Option (List ℕ)) → (t ≡ true → name ≡ q)
    → size_of name.file ≡ Some (length bytes) → (o ≡ Some b → size_of q.file ≡ Some (length b))
    → cond t (Some bytes) o ≡ Some b → size_of q.file ≡ Some (length b)
sized_at true name q bytes b o same sized before e =
    let here : bytes ≡ b = cc in
    ap (λ (n : CellName). size_of n.file) (sym (same refl)) ∙ sized ∙ ap (λ (b : List ℕ). Some (length b)) here
sized_at false name q bytes b o same sized before e = before e

-- each cell still has its size
pub sized_set : (a b : BTreeMap CellName (List ℕ)) (name : CellName) (bytes : List ℕ) → Updates name_cmp a b name (Some bytes)
    → size_of name.file ≡ Some (length bytes) → AreSized a → AreSized b
sized_set a b name bytes after sized before q c e =
    sized_at (same_cell name q) name q bytes c (get name_cmp a q) (same_cell-true name q) sized (before q c)
    (sym (found_after a b name (Some bytes) after q) ∙ e)

size_kept : {A E : Type 0} (r : Result A E) (a b : BTreeMap CellName (List ℕ)) (name q : CellName) (bytes c : List ℕ)
    → OnOk r (Updates name_cmp a b name (Some bytes)) → OnErr r (IsUnchanged a b) → size_of name.file ≡ Some (length bytes) → AreSized a
    → get name_cmp b q ≡ Some c → size_of q.file ≡ Some (length c)
size_kept (Ok x) a b name q bytes c after same sized before e = sized_set a b name bytes after sized before q c e
size_kept (Err x) a b name q bytes c after same sized before e = before q c (ap (lookup (is_at (name_cmp q))) (sym same) ∙ e)

-- also where there was no room for it
pub sized_insert : {A E : Type 0} (r : Result A E) (a b : BTreeMap CellName (List ℕ)) (name : CellName) (bytes : List ℕ)
    → OnOk r (Updates name_cmp a b name (Some bytes)) → OnErr r (IsUnchanged a b)
    → size_of name.file ≡ Some (length bytes) → AreSized a → AreSized b
sized_insert r a b name bytes after same sized before q c e = size_kept r a b name q bytes c after same sized before e

-- A cell that was found has the length that is asked for.
pub found_length : (cells : BTreeMap CellName (List ℕ)) (name : CellName) (bytes : List ℕ) (n : ℕ) → AreSized cells
    → Some bytes ≡ get name_cmp cells name → size_of name.file ≡ Some n → n ≡ length bytes
found_length cells name bytes n sized e size = same_Some n (length bytes) (sym size ∙ sized name bytes (sym e))

-- what is not there reads as zeros
pub absent_zeros : (cells : BTreeMap CellName (List ℕ)) (name : CellName) (n : ℕ) → None ≡ get name_cmp cells name → size_of name.file ≡ Some n
    → replicate n 0 ≡ cells_in cells name.file name.index
absent_zeros cells name n e size =
    ap (λ o. replicate (unwrap_or o 0) 0) (sym size) ∙ ap (λ o. unwrap_or o (zeros_of name.file)) e
