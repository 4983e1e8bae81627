use Rattle.std.proofs.Common.{length}
use Rattle.std.proofs.lemmas.Result.{IfOk-weaker}
use Rattle.trie_codec.proofs.Places.{part_within}
use Rattle.trie_codec.proofs.reading.read_string.Goals as goal

pub returns-clause-string : goal.returns-clause-string
returns-clause-string c =
    IfOk-weaker c.take_bytes.result _ _ (λ x part. part_within c.args.bytes c.in_ok-len.rest x.0 (length x.1.now) c.in_ok-len.ensures.rest part) c.take_bytes.ensures.front

pub returns-clause-rest : goal.returns-clause-rest
returns-clause-rest c = IfOk-weaker c.take_bytes.result _ _ (λ x part. part_within c.args.bytes c.in_ok-len.rest x.1 0 c.in_ok-len.ensures.rest part) c.take_bytes.ensures.rest
