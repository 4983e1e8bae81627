use Rattle.std.proofs.Common.{◌≡◌, ◌+◌, drop, length}
use Rattle.sdb_base.specs.Nibbles.{nibbles_of}
use Rattle.trie_model.specs.Trie.{common}
use Rattle.trie_root.proofs.root.shared_len.Given as goal

-- all nibbles so far are shared
abbrev pub invariant-loop-i : goal.invariant-loop-i
invariant-loop-i l =
    l.i + length (common (drop l.i (nibbles_of l.a)) (drop l.i (nibbles_of l.b)))
    ≡ l.at + length (common (drop l.at (nibbles_of l.a)) (drop l.at (nibbles_of l.b)))
