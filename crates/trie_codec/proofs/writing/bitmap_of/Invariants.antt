use Rattle.std.proofs.Common.{◌≡◌, drop}
use Rattle.trie_model.specs.Node.{bitmap}
use Rattle.trie_codec.proofs.writing.bitmap_of.Given as goal

-- the bits of the children from here on
abbrev pub invariant-loop-i : goal.invariant-loop-i
invariant-loop-i l = l.map ≡ bitmap (drop l.i l.children)
