use Rattle.std.proofs.Common.{◌≡◌, ◌++◌, ◌+◌, ◌-◌, ◌*◌, ◌≤◌, length, take}
use Rattle.sdb_base.specs.Nibbles.{nibbles_of}
use Rattle.trie_change.proofs.nibbles.push_nibbles.Given as goal

-- the nibbles so far, and room for the others
abbrev pub invariant-loop-byte : goal.invariant-loop-byte
invariant-loop-byte l = record {
  items : l.path.items ≡ l.initial.path.items ++ nibbles_of (take l.byte-index l.bytes);
  room : length l.path.items + 2 * (length l.bytes - l.byte-index) ≤ l.path.capacity;
}
