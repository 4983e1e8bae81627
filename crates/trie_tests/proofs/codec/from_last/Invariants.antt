use Rattle.std.proofs.Common.{◌≡◌, All, length}
use Rattle.std.specs.Prelude.{IfSome}
use Rattle.trie_model.specs.Node.{HasCompactLength}
use Rattle.trie_tests.proofs.codec.from_last.Given as goal

-- the children so far are short
abbrev pub invariant-loop-count : goal.invariant-loop-count
invariant-loop-count l = record {
  so_many : length l.found ≡ l.count-counter;
  short : All (λ child. IfSome child HasCompactLength) l.found;
}
