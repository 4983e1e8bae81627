use Rattle.std.proofs.Common.{◌≡◌, All, length}
use Rattle.std.specs.Prelude.{IfSome}
use Rattle.trie_model.specs.Node.{HasCompactLength}
use Rattle.trie_tests.proofs.codec.child_list.Given as goal

-- the children so far are short
abbrev pub invariant-loop-nibble : goal.invariant-loop-nibble
invariant-loop-nibble l = record {
  sixteen : length l.found ≡ 16;
  short : All (λ child. IfSome child HasCompactLength) l.found;
}
