-- Where the puts of a draft are found.
use Rattle.std.specs.Prelude.{◌≡◌, ℕ, suc, List, [], ◌∷◌, Option, Some, None, if◌then◌else◌, All}
use Rattle.std.specs.Option.{option_map}
use Rattle.std.specs.BTreeMap.{BTreeMap, get}
use Rattle.pdb_cells.specs.Names.{name_cmp}
use Rattle.pdb_cells.specs.Puts.{IsWholeCell, NoCellTwice, same_cell}
use Rattle.pdb_cells.specs.declared.cell_name.CellName.{CellName}
use Rattle.pdb_cells.specs.declared.puts.Put.{Put}

-- the place of the first put of a cell
abbrev pub place_of : List Put → CellName → Option ℕ
place_of [] name = None
place_of (p ∷ ps) name = if same_cell p.name name then Some 0 else option_map suc (place_of ps name)

-- the puts are of whole cells, of each cell one, and a map has their places
pub record ArePlaced (puts : List Put) (places : BTreeMap CellName ℕ) : Type 0 where
  pub once : NoCellTwice puts
  pub whole : All IsWholeCell puts
  pub found : (name : CellName) → get name_cmp places name ≡ place_of puts name
