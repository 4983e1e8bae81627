use Rattle.std.proofs.Common.{take}
use Rattle.trie_root.specs.Pairs.{AllWithin}
use Rattle.trie_tests.proofs.roots.fits.Given as goal

-- the pairs so far are short
abbrev pub invariant-loop-pair : goal.invariant-loop-pair
invariant-loop-pair l = AllWithin (take l.pair-index l.pairs)
