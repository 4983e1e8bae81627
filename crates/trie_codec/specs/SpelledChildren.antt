-- The children of a node, read off their bitmap and their spelling.
use Rattle.std.specs.Prelude.{ℕ, zero, suc, ◌/◌, ◌%◌, ◌==◌, List, [], ◌∷◌, Option, Some, None, if◌then◌else◌, take, drop, slice_index_or}

-- how many bytes a Merkle value of at most 32 has, by the byte before it
abbrev pub value_len : List ℕ → ℕ
value_len bytes = slice_index_or bytes 0 0 / 4

-- so many children by the bits of their map, and by the spelling of those that are there
abbrev pub children_in : ℕ → ℕ → List ℕ → List (Option (List ℕ))
children_in zero map bytes = []
children_in (suc count) map bytes = if map % 2 == 1
    then Some (take (value_len bytes) (drop 1 bytes)) ∷ children_in count (map / 2) (drop (suc (value_len bytes)) bytes)
    else None ∷ children_in count (map / 2) bytes
