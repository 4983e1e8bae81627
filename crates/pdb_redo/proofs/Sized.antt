-- The bytes of a cell among records that wait have its size.
use Rattle.std.proofs.Common.{◌≡◌, ℕ, suc, ◌==◌, ◌&&◌, Bool, true, false, List, [], ◌∷◌, length, Option, None, Some, if◌then◌else◌, refl, sym, ◌∙◌, ap, arith}
use Rattle.std.specs.Prelude.{slice_get}
use Rattle.std.specs.Option.{option_or}
use Rattle.std.proofs.lemmas.Bool.Decides.{nat_tests}
use Rattle.std.proofs.lemmas.Option.{same_Some}
use Rattle.pdb_cells.specs.Puts.{IsWholeCell, last_put}
use Rattle.pdb_cells.specs.Sizes.{size_of}
use Rattle.pdb_cells.specs.declared.CellName.{CellName}
use Rattle.pdb_cells.specs.declared.Put.{Put}
use Rattle.pdb_model.specs.Records.{Record}
use Rattle.pdb_redo.specs.Places.{newest}
use Rattle.pdb_redo.specs.inner.Carrying.{HaveWholeCells}

is_eq : (a b : ℕ) → (a == b) ≡ true → a ≡ b
is_eq a b e = grind (arith, nat_tests, e)

left_true : (a b : Bool) → (a && b) ≡ true → a ≡ true
left_true true b e = refl
left_true false b e = e

-- one of two that is there
from_or : {P : Type 0} (a b : Option (List ℕ)) (x : List ℕ) → option_or a b ≡ Some x → (a ≡ Some x → P) → (b ≡ Some x → P) → P
from_or None b x e left right = right e
from_or (Some y) b x e left right = left e

from_test : {P : Type 0} (t : Bool) (b x : List ℕ) → (if t then Some b else None) ≡ Some x → (t ≡ true → b ≡ x → P) → P
from_test true b x e go = go refl (same_Some b x e)
from_test false b x e go = cc

last_sized : (ps : List Put) (name : CellName) (bytes : List ℕ) → ((j : ℕ) (p : Put) → slice_get ps j ≡ Some p → IsWholeCell p) → last_put ps name ≡ Some bytes → size_of name.file ≡ Some (length bytes)
last_sized [] name bytes whole e = cc
last_sized (p ∷ ps) name bytes whole e = from_or (last_put ps name) (if (p.name.file == name.file) && (p.name.index == name.index) then Some p.bytes else None) bytes e
    (λ later. last_sized ps name bytes (λ j. whole (suc j)) later)
    (λ here. from_test ((p.name.file == name.file) && (p.name.index == name.index)) p.bytes bytes here
    (λ t same. ap size_of (sym (is_eq p.name.file name.file (left_true (p.name.file == name.file) (p.name.index == name.index) t))) ∙ (whole 0 p refl).0 ∙ ap (λ (b : List ℕ). Some (length b)) same))

pub newest_sized : (rs : List Record) (name : CellName) (bytes : List ℕ) → HaveWholeCells rs → newest rs name ≡ Some bytes → size_of name.file ≡ Some (length bytes)
newest_sized [] name bytes whole e = cc
newest_sized (r ∷ rs) name bytes whole e = from_or (newest rs name) (last_put r.puts name) bytes e
    (λ later. newest_sized rs name bytes (λ k. whole (suc k)) later)
    (λ here. last_sized r.puts name bytes (λ j p there. whole 0 j r p refl there) here)
