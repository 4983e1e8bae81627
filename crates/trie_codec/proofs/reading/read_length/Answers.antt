use Rattle.std.proofs.Common.{rules, ap, ◌∙◌}
use Rattle.trie_codec.specs.Reading.{first_length}
use Rattle.trie_codec.proofs.Lengths.{length_read}
use Rattle.trie_codec.proofs.Refusals.{large_length, long_length, short_length}
use Rattle.trie_codec.proofs.reading.read_length.Goals as goal

pub returns-in-Ok-clause-gives : goal.returns-in-Ok-clause-gives
returns-in-Ok-clause-gives c = ap first_length c.in-Ok.ensures.found.1 ∙ length_read c.in-Ok.len c.in-Ok.rest.now c.in-Ok.ensures.found.0

pub returns-in-Err-Short-clause-gives : goal.returns-in-Err-Short-clause-gives
returns-in-Err-Short-clause-gives c = short_length c.args.bytes.now (c.in-Err-Short.ensures.short.0 (search rules))

pub returns-in-Err-NotShortest-clause-gives : goal.returns-in-Err-NotShortest-clause-gives
returns-in-Err-NotShortest-clause-gives c = long_length c.args.bytes.now (c.in-Err-NotShortest.ensures.not_shortest.0 (search rules))

pub returns-in-Err-TooLarge-clause-gives : goal.returns-in-Err-TooLarge-clause-gives
returns-in-Err-TooLarge-clause-gives c = large_length c.args.bytes.now (c.in-Err-TooLarge.ensures.too_large.0 (search rules))
