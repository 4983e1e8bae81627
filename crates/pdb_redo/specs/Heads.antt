-- The head cells of both columns.
use Rattle.std.specs.Prelude.{ℕ, ◌==◌, List, Option, Some, None, if◌then◌else◌}
use Rattle.pdb_cells.specs.Sizes.{head_file}
use Rattle.pdb_cells.specs.declared.CellName.{CellName}
use Rattle.pdb_redo.specs.declared.heads.Heads.{Heads}

-- the head cell of a name, if it is one
abbrev pub head_in : Heads → CellName → Option (List ℕ)
head_in h name =
    if name.file == head_file
    then (if name.index == 0 then Some h.first else (if name.index == 1 then Some h.second else None))
    else None

-- the head cells after a put
abbrev pub heads_after : Heads → CellName → List ℕ → Heads
heads_after h name bytes =
    if name.file == head_file
    then (if name.index == 0 then record h { first = bytes } else (if name.index == 1 then record h { second = bytes } else h))
    else h
