use Rattle.std.proofs.Common.{◌++◌, ◌∷◌, [], get_or, ap, sym, ◌∙◌, arith}
use Rattle.std.proofs.lemmas.List.{take_more}
use Rattle.trie_change.proofs.expand.path_from.Goals as goal

pub loop-nibble-preserved : goal.loop-nibble-preserved
loop-nibble-preserved c =
    let nibbles = c.args.nibbles.now in
    let i = c.loop-nibble.nibble-index in
    record {
      items = c.push_reserved.ensures.items ∙ ap (λ xs. xs ++ get_or nibbles i 0 ∷ []) c.loop-nibble.invariant.items ∙ sym (take_more nibbles i 0 c.loop-nibble-test.true);
      room = omega (arith, c.loop-nibble.invariant.room, c.push_reserved.ensures.capacity);
    }
