-- What puts make of a content, cell by cell.
use Rattle.std.proofs.Common.{◌≡◌, ℕ, Bool, true, false, cond, List, [], ◌∷◌, ◌++◌, Option, Some, None, refl, sym, ap, ◌∙◌}
use mathlib.Core.Path.{fun_ext}
use Rattle.std.specs.Option.{option_or, unwrap_or}
use Rattle.std.proofs.lemmas.Option.{same_Some}
use Rattle.pdb_cells.specs.Content.{Content, put_cell}
use Rattle.pdb_cells.specs.Puts.{NoCellTwice, drafted, laid, last_put, puts_after, same_cell}
use Rattle.pdb_cells.specs.declared.cell_name.CellName.{CellName}
use Rattle.pdb_cells.specs.declared.puts.Put.{Put}
use Rattle.pdb_cells.proofs.Placing.{last_after}

last_or : (o : Option (List ℕ)) (t : Bool) (b own : List ℕ) → unwrap_or o (cond t b own) ≡ unwrap_or (option_or o (cond t (Some b) None)) own
last_or None true b own = refl
last_or None false b own = refl
last_or (Some x) t b own = refl

-- a cell has the bytes of its last put, or its own
pub laid-last : (puts : List Put) (cells : Content) (name : CellName)
    → laid puts cells name.file name.index ≡ unwrap_or (last_put puts name) (cells name.file name.index)
laid-last [] cells name = refl
laid-last (p ∷ ps) cells name =
    laid-last ps (put_cell p.name.file p.name.index p.bytes cells) name
    ∙ last_or (last_put ps name) (same_cell p.name name) p.bytes (cells name.file name.index)

pub laid-append : (ps qs : List Put) (cells : Content) → laid (ps ++ qs) cells ≡ laid qs (laid ps cells)
laid-append [] qs cells = refl
laid-append (p ∷ ps) qs cells = laid-append ps qs (put_cell p.name.file p.name.index p.bytes cells)

pub chosen : (t : Bool) (b : List ℕ) (o : Option (List ℕ)) (own : List ℕ) → unwrap_or (cond t (Some b) o) own ≡ cond t b (unwrap_or o own)
chosen true b o own = refl
chosen false b o own = refl

cell_after : (puts : List Put) (p : Put) (cells : Content) → NoCellTwice puts → (name : CellName)
    → laid (puts_after puts p) cells name.file name.index ≡ put_cell p.name.file p.name.index p.bytes (laid puts cells) name.file name.index
cell_after puts p cells once name =
    laid-last (puts_after puts p) cells name
    ∙ ap (λ o. unwrap_or o (cells name.file name.index)) (last_after puts p name once)
    ∙ chosen (same_cell p.name name) p.bytes (last_put puts name) (cells name.file name.index)
    ∙ ap (cond (same_cell p.name name) p.bytes) (sym (laid-last puts cells name))

-- one more put changes its cell
pub laid-after : (puts : List Put) (p : Put) (cells : Content) → NoCellTwice puts
    → laid (puts_after puts p) cells ≡ put_cell p.name.file p.name.index p.bytes (laid puts cells)
laid-after puts p cells once = fun_ext (λ file. fun_ext (λ index. cell_after puts p cells once (record { file = file; index = index })))

pub drafted-after : (puts : List Put) (p : Put) (below : Option Content) (cells : Content) → NoCellTwice puts → drafted puts below ≡ Some cells
    → drafted (puts_after puts p) below ≡ Some (put_cell p.name.file p.name.index p.bytes cells)
drafted-after puts p None cells once seen = cc
drafted-after puts p (Some below) cells once seen =
    let e : laid puts below ≡ cells = cc in
    ap Some (laid-after puts p below once ∙ ap (put_cell p.name.file p.name.index p.bytes) e)

-- what a draft reads of a cell that was put
pub read_put : (puts : List Put) (name : CellName) (bytes : List ℕ) (below : Option Content) (cells : Content) → Some bytes ≡ last_put puts name
    → drafted puts below ≡ Some cells → bytes ≡ cells name.file name.index
read_put puts name bytes None cells e seen = cc
read_put puts name bytes (Some below) cells e seen =
    ap (λ o. unwrap_or o (below name.file name.index)) e ∙ sym (laid-last puts below name)
    ∙ ap (λ (c : Content). c name.file name.index) (same_Some (laid puts below) cells seen)

-- and of one that wasn't
pub read_below : (puts : List Put) (name : CellName) (below : Option Content) (cells : Content) → None ≡ last_put puts name
    → drafted puts below ≡ Some cells → (c : Content) × (below ≡ Some c) × (c name.file name.index ≡ cells name.file name.index)
read_below puts name None cells e seen = cc
read_below puts name (Some below) cells e seen = (
  below,
  refl,
  ap (λ o. unwrap_or o (below name.file name.index)) e ∙ sym (laid-last puts below name)
      ∙ ap (λ (c : Content). c name.file name.index) (same_Some (laid puts below) cells seen),
)
