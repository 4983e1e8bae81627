use Rattle.std.proofs.Common.{◌≡◌, ◌≤◌, drop}
use Rattle.trie_codec.specs.Reading.{first_count}
use Rattle.trie_codec.proofs.reading.read_count.Given as goal

abbrev pub invariant-loop-i : goal.invariant-loop-i
invariant-loop-i l = (l.count ≤ 2048) × (first_count l.count (drop l.i l.bytes) ≡ first_count 63 l.bytes)
