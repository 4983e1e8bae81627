-- Puts of cells: what they make of a content, and the list of a draft.
use Rattle.std.specs.Prelude.{◌≡◌, ℕ, ◌<◌, ◌^◌, ◌==◌, ◌&&◌, Bool, List, [], ◌∷◌, length, Option, Some, None, if◌then◌else◌}
use Rattle.std.specs.Option.{option_map, option_or}
use Rattle.pdb_cells.specs.Content.{Content, put_cell}
use Rattle.pdb_cells.specs.Sizes.{size_of}
use Rattle.pdb_cells.specs.declared.cell_name.CellName.{CellName}
use Rattle.pdb_cells.specs.declared.puts.Put.{Put}

-- whether two names are of one cell
abbrev pub same_cell : CellName → CellName → Bool
same_cell a b = (a.file == b.file) && (a.index == b.index)

-- the content after these puts, done one after another
abbrev pub laid : List Put → Content → Content
laid [] cells = cells
laid (p ∷ ps) cells = laid ps (put_cell p.name.file p.name.index p.bytes cells)

-- the bytes of the last put of a cell
abbrev pub last_put : List Put → CellName → Option (List ℕ)
last_put [] name = None
last_put (p ∷ ps) name = option_or (last_put ps name) (if same_cell p.name name then Some p.bytes else None)

-- no two of the puts are of one cell
abbrev pub NoCellTwice : List Put → Type 0
NoCellTwice [] = Unit {0}
NoCellTwice (p ∷ ps) = (last_put ps p.name ≡ None) × NoCellTwice ps

-- the bytes have the size of the cell, and its index is in range
abbrev pub IsWholeCell : Put → Type 0
IsWholeCell p = (size_of p.name.file ≡ Some (length p.bytes)) × (p.name.index < 2 ^ 32)

-- The puts after one more. It takes the place of an earlier put of its cell, and comes last where there is none.
abbrev pub puts_after : List Put → Put → List Put
puts_after [] p = p ∷ []
puts_after (q ∷ qs) p = if same_cell q.name p.name then p ∷ qs else q ∷ puts_after qs p

-- the content of a draft over cells, where theirs is observable
abbrev pub drafted : List Put → Option Content → Option Content
drafted puts below = option_map (laid puts) below
