use Rattle.std.proofs.Common.{◌≡◌, ◌+◌, drop, length}
use Rattle.trie_model.specs.Trie.{common}
use Rattle.trie_change.proofs.build.shared_len.Given as goal

-- all nibbles so far are shared
abbrev pub invariant-loop-i : goal.invariant-loop-i
invariant-loop-i l = l.i + length (common (drop l.i l.a) (drop l.i l.b)) ≡ l.at + length (common (drop l.at l.a) (drop l.at l.b))
