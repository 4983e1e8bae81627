use Rattle.std.proofs.Common.{◌/◌, ◌%◌, ◌∷◌, [], ◌++◌, length, get_or, take, ap, sym, ◌∙◌, append_assoc, length-append, arith}
use Rattle.std.proofs.lemmas.List.{take_more}
use Rattle.sdb_base.specs.Nibbles.{nibbles_of}
use Rattle.sdb_base.proofs.Halves.{nibbles_of-push}
use Rattle.trie_change.proofs.nibbles.push_nibbles.Goals as goal

pub loop-byte-preserved : goal.loop-byte-preserved
loop-byte-preserved c =
    let i = c.loop-byte.byte-index in
    let bytes = c.args.bytes.now in
    let old = c.reserve.new.self.items in
    let b = get_or bytes i 0 in
    let high = c.push_reserved.ensures.items in
    let low = c.push_reserved-in-loop-byte.ensures.items in
    record {
      items =
          low ∙ ap (λ xs. xs ++ (b % 16) ∷ []) (high ∙ ap (λ xs. xs ++ (b / 16) ∷ []) c.loop-byte.invariant.items)
          ∙ ap (λ xs. xs ++ (b % 16) ∷ []) (append_assoc old (nibbles_of (take i bytes)) ((b / 16) ∷ []))
          ∙ append_assoc old (nibbles_of (take i bytes) ++ (b / 16) ∷ []) ((b % 16) ∷ [])
          ∙ ap (λ xs. old ++ xs) (sym (nibbles_of-push (take i bytes) b))
          ∙ ap (λ xs. old ++ nibbles_of xs) (sym (take_more bytes i 0 c.loop-byte-test.true));
      room = omega (
        arith,
        c.loop-byte.invariant.room,
        c.loop-byte-test.true,
        c.push_reserved.ensures.capacity,
        c.push_reserved-in-loop-byte.ensures.capacity,
        ap length high ∙ length-append c.loop-byte.path.items ((b / 16) ∷ []),
        ap length low ∙ length-append c.push_reserved.new.self.items ((b % 16) ∷ []),
      );
    }
