-- What a contract sees of cells in memory.
use Rattle.std.specs.Prelude.{ℕ, List, replicate}
use Rattle.std.specs.Option.{unwrap_or}
use Rattle.std.specs.BTreeMap.{BTreeMap, get}
use Rattle.pdb_cells.specs.Content.{Content}
use Rattle.pdb_cells.specs.Names.{name_cmp}
use Rattle.pdb_cells.specs.Sizes.{size_of}
use Rattle.pdb_cells.specs.declared.cell_name.CellName.{CellName}
use Rattle.pdb_cells.specs.declared.memory.MapCells.{MapCells}

-- the zeros of a cell that was never set
abbrev pub zeros_of : ℕ → List ℕ
zeros_of file = replicate (unwrap_or (size_of file) 0) 0

-- the bytes of each cell of a map, zeros where it has none
abbrev pub cells_in : BTreeMap CellName (List ℕ) → Content
cells_in cells file index = unwrap_or (get name_cmp cells (record { file = file; index = index })) (zeros_of file)

-- the bytes of each cell
abbrev pub cells_of : MapCells → Content
cells_of m = cells_in m.cells

-- the calls of `cell` that are to fail, counted from 0
abbrev pub calls_to_fail : MapCells → List ℕ
calls_to_fail m = m.failing.items

-- how many calls of `cell` there were
abbrev pub cell_calls : MapCells → ℕ
cell_calls m = m.calls

-- how many calls of `cell` failed
abbrev pub failed_cells : MapCells → ℕ
failed_cells m = m.faults

-- how many calls of `cell` there were but for those for head cells
abbrev pub cell_reads : MapCells → ℕ
cell_reads m = m.reads
