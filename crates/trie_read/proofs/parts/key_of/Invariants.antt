use Rattle.std.proofs.Common.{◌≡◌, ◌*◌, ◌++◌, drop}
use Rattle.trie_read.specs.inner.Parts.{key_of_nibbles}
use Rattle.trie_read.proofs.parts.key_of.Given as goal

-- the bytes so far, and those of the nibbles that are left
abbrev pub invariant-loop-i : goal.invariant-loop-i
invariant-loop-i l = l.bytes.items ++ key_of_nibbles (drop (2 * l.i) l.nibbles) ≡ key_of_nibbles l.nibbles
