-- The order of cells, by file and then by index.
use Rattle.std.specs.Ordering.{nat_cmp, ordering_then}
use Rattle.std.specs.declared.cmp.Ordering.{Ordering}
use Rattle.pdb_cells.specs.declared.cell_name.CellName.{CellName}

-- by file, and in one file by index
abbrev pub name_cmp : CellName → CellName → Ordering
name_cmp a b = ordering_then (nat_cmp a.file b.file) (nat_cmp a.index b.index)
