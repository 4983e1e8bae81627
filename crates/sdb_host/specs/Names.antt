-- How the files of a disk are named.
use Rattle.std.specs.Prelude.{ℕ, List, ◌++◌, codes}
use Rattle.std.specs.Fmt.{decimal}

-- the name of a file in its folder: its number in decimal, after `sdb-`
abbrev pub file_name : ℕ → List ℕ
file_name n = codes "sdb-" ++ decimal n
