use Rattle.std.proofs.Common.{◌-◌, drop}
use Rattle.trie_root.specs.Pairs.{KeysRise}
use Rattle.trie_tests.proofs.roots.rises.Given as goal

-- the keys from here on rise
abbrev pub invariant-loop-i : goal.invariant-loop-i
invariant-loop-i l = KeysRise (drop (l.i - 1) l.pairs)
