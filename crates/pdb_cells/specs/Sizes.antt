-- Which files have cells, and how long each cell is.
use Rattle.std.specs.Prelude.{ℕ, ◌-◌, nat_lt, ◌==◌, List, [], ◌∷◌, Option, Some, None, slice_get, if◌then◌else◌}

-- the file of the head cells, one for each column
abbrev pub head_file : ℕ
head_file = 9

-- the sizes of the slots of tiers 0 to 15
abbrev pub slot_sizes : List ℕ
slot_sizes = 64 ∷ 96 ∷ 128 ∷ 160 ∷ 192 ∷ 256 ∷ 320 ∷ 512 ∷ 768 ∷ 1024 ∷ 2048 ∷ 4096 ∷ 8192 ∷ 16384 ∷ 32768 ∷ 4096 ∷ []

-- A column's files, counted from its first: two of index chunks, then one for each tier.
abbrev pub column_size_of : ℕ → Option ℕ
column_size_of file = if nat_lt file 2 then Some 512 else slice_get slot_sizes (file - 2)

-- The size of a file's cells. The files of column 0 begin at 16 and those of column 1 at 48; other files but that
-- of the head cells have none.
abbrev pub size_of : ℕ → Option ℕ
size_of file =
    if file == head_file then Some 256
    else (if nat_lt file 16 then None
    else (if nat_lt file 48 then column_size_of (file - 16)
    else column_size_of (file - 48)))
