-- Bytes that no trie within the limits has as a node.
use Rattle.std.specs.Prelude.{ℕ, zero, suc, ◌+◌, ◌&&◌, ◌||◌, nat_lt, Bool, true, false, List, length, Option, Some, None, if◌then◌else◌, Result, Ok, Err}
use Rattle.std.specs.List.{list_any}
use Rattle.trie_model.specs.Limits.{most_in_value}
use Rattle.trie_model.specs.Node.{Node}
use Rattle.trie_codec.specs.Reading.{is_nothing, most_nibbles, node_of_bytes}
use Rattle.trie_codec.specs.declared.fault.CodecFault.{CodecFault}

abbrev pub is_long_value : Option (List ℕ) → Bool
is_long_value None = false
is_long_value (Some value) = nat_lt most_in_value (length value)

abbrev pub read_too_deep : (Node → Bool) → Result Node CodecFault → Bool
read_too_deep deep (Ok n) = deep n
read_too_deep deep (Err f) = false

abbrev pub child_too_deep : (Node → Bool) → Option (List ℕ) → Bool
child_too_deep deep None = false
child_too_deep deep (Some c) = if nat_lt (length c) 32 then read_too_deep deep (node_of_bytes c) else false

-- whether a node that hangs after so many nibbles, or an inline one in it, has its partial key go on past the longest key, or
-- too long a value; with at most so many inline nodes one below the other
unfoldable pub too_deep : ℕ → ℕ → Node → Bool
too_deep zero at n = false
too_deep (suc levels) at n =
    (nat_lt most_nibbles (at + length n.partial) || is_long_value n.value)
    || list_any (child_too_deep (too_deep levels (at + length n.partial + 1))) n.children

abbrev pub deep_or_empty : ℕ → List ℕ → Result Node CodecFault → Bool
deep_or_empty at bytes (Ok n) = too_deep 33 at n || (nat_lt 0 at && is_nothing bytes)
deep_or_empty at bytes (Err f) = true

-- whether bytes are no node that hangs after so many nibbles: they don't read as one, it hangs too deep, or it is the node of
-- the empty trie below a root
abbrev pub is_bad_node : ℕ → List ℕ → Bool
is_bad_node at bytes = deep_or_empty at bytes (node_of_bytes bytes)
