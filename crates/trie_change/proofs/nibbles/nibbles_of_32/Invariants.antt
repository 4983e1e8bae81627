use Rattle.std.proofs.Common.{◌≡◌, ◌*◌, length, take}
use Rattle.sdb_base.specs.Nibbles.{nibbles_of}
use Rattle.trie_change.proofs.nibbles.nibbles_of_32.Given as goal

-- the nibbles so far
abbrev pub invariant-loop-i : goal.invariant-loop-i
invariant-loop-i l = record {
  places : length l.nibbles ≡ 64;
  items : take (2 * l.i) l.nibbles ≡ nibbles_of (take l.i l.key);
}
