use Rattle.std.proofs.Common.{◌≡◌, ◌++◌}
use Rattle.std.specs.Prelude.{replicate}
use Rattle.trie_codec.proofs.writing.put_header.Given as goal

-- so many full bytes so far
abbrev pub invariant-loop-full : goal.invariant-loop-full
invariant-loop-full l = l.out.items ≡ l.initial.out.items ++ replicate l._full 255
