use Rattle.std.proofs.Common.{◌≡◌, ◌-◌, ◌<◌, All, drop, take}
use Rattle.sdb_base.specs.Nibbles.{nibbles_of}
use Rattle.trie_root.proofs.root.nibbles_between.Given as goal

-- the nibbles so far
abbrev pub invariant-loop-i : goal.invariant-loop-i
invariant-loop-i l = record {
  value : l.nibbles.items ≡ take (l.i - l.from) (drop l.from (nibbles_of l.key));
  below : All (λ n. n < 16) l.nibbles.items;
}
