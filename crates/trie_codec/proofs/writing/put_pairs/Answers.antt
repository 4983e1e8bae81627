use Rattle.std.proofs.Common.{◌<◌, arith, append_assoc, length-drop}
use Rattle.std.proofs.lemmas.List.Elements.{All-drop}
use Rattle.trie_codec.proofs.Layouts.{after_two, paired_step}
use Rattle.trie_codec.proofs.writing.put_pairs.Goals as goal

pub loop-rest-preserved : goal.loop-rest-preserved
loop-rest-preserved c =
    let s = c.loop-rest.rest.now in
    let pair = paired_step s 0 0 c.in-len2-up.len_at_least in
    record {
      whole = rw (after_two s, c.in_ok-push.ensures.items, append_assoc) (rw pair c.loop-rest.invariant.whole);
      below = rw (after_two s) (All-drop (λ n. n < 16) 2 s c.loop-rest.invariant.below);
      even = rw (after_two s) (omega (arith, length-drop 2 s, c.in-len2-up.len_at_least));
    }
