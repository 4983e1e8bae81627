use Rattle.std.proofs.Common.{drop, arith, length-drop}
use Rattle.trie_codec.proofs.Layouts.{bit_fits, bitmap_fits}
use Rattle.trie_codec.proofs.writing.bitmap_of.Goals as goal

pub overflow_mul-map : goal.overflow_mul-map
overflow_mul-map c =
    let f = bitmap_fits (drop c.loop-i.i c.args.children.now) 15 (omega (arith, length-drop c.loop-i.i c.args.children.now)) in
    omega (arith, f, c.loop-i.invariant)

pub overflow_add-map : goal.overflow_add-map
overflow_add-map c =
    let f = bitmap_fits (drop c.loop-i.i c.args.children.now) 15 (omega (arith, length-drop c.loop-i.i c.args.children.now)) in
    omega (arith, f, c.loop-i.invariant, bit_fits c.is_some.result)
