use Rattle.std.proofs.Common.{All, take}
use Rattle.trie_root.specs.inner.Groups.{HasNext}
use Rattle.trie_root.proofs.root.group_len.Given as goal

-- all pairs so far go on with the nibble
abbrev pub invariant-loop-i : goal.invariant-loop-i
invariant-loop-i l = All (HasNext l.at l.nibble) (take l.i l.pairs)
