-- What a map of cells keeps.
use Rattle.std.specs.Prelude.{◌≡◌, ℕ, List, length, Some}
use Rattle.std.specs.BTreeMap.{BTreeMap, get}
use Rattle.pdb_cells.specs.Names.{name_cmp}
use Rattle.pdb_cells.specs.Sizes.{size_of}
use Rattle.pdb_cells.specs.declared.cell_name.CellName.{CellName}

-- each cell that is kept has its size
abbrev pub AreSized : BTreeMap CellName (List ℕ) → Type 0
AreSized cells = (name : CellName) (bytes : List ℕ) → get name_cmp cells name ≡ Some bytes → size_of name.file ≡ Some (length bytes)
