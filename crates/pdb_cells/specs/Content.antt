-- What cells hold.
use Rattle.std.specs.Prelude.{ℕ, List, ◌==◌, ◌&&◌, if◌then◌else◌}

-- the bytes of each cell, by its file and its index
abbrev pub Content : Type 0
Content = ℕ → ℕ → List ℕ

-- the content with these bytes in one cell
abbrev pub put_cell : ℕ → ℕ → List ℕ → Content → Content
put_cell file index bytes cells f i = if (file == f) && (index == i) then bytes else cells f i
