use Rattle.std.proofs.Common.{◌≡◌, ◌≤◌, take}
use Rattle.trie_change.proofs.expand.path_from.Given as goal

-- the nibbles so far, which lie in place
abbrev pub invariant-loop-nibble : goal.invariant-loop-nibble
invariant-loop-nibble l = record {
  items : l.path.items ≡ take l.nibble-index l.nibbles;
  room : 64 ≤ l.path.capacity;
}
