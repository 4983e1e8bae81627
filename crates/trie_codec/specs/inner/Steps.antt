-- A step of reading a branch, which the definition of a node takes with others.
use Rattle.std.specs.Prelude.{ℕ, ◌%◌, ◌==◌, Bool, List, Option, Some, None, if◌then◌else◌, Result, Ok}
use Rattle.trie_codec.specs.declared.fault.CodecFault.{CodecFault}
use Rattle.trie_codec.specs.Reading.{◌>>=◌, first_child}

-- the child of a bitmap's lowest bit, if that is set
abbrev pub first_lowest_child : (List ℕ → Bool) → ℕ → List ℕ → Result (Option (List ℕ) × List ℕ) CodecFault
first_lowest_child reads map bytes =
    if map % 2 == 1 then (first_child reads bytes >>= λ c. Ok (Some c.0, c.1))
    else Ok (None, bytes)
