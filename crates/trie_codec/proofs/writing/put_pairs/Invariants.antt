use Rattle.std.proofs.Common.{◌≡◌, ◌<◌, ◌%◌, ◌++◌, All, length}
use Rattle.trie_model.specs.Nibbles.{paired}
use Rattle.trie_codec.proofs.writing.put_pairs.Given as goal

-- what is written and what is left make the whole
abbrev pub invariant-loop-rest : goal.invariant-loop-rest
invariant-loop-rest l = record {
  whole : l.out.items ++ paired l.rest ≡ l.initial.out.items ++ paired l.nibbles;
  below : All (λ n. n < 16) l.rest;
  even : length l.rest % 2 ≡ 0;
}

abbrev pub decreases-loop-rest : goal.decreases-loop-rest
decreases-loop-rest l = length l.rest
