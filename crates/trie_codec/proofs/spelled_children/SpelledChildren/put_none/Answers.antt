use Rattle.std.proofs.Common.{◌≡◌, ◌≤◌, drop, length, ap, sym, ◌∙◌, arith}
use Rattle.trie_codec.specs.SpelledChildren.{children_in}
use Rattle.trie_codec.proofs.FromLast.{length-children_in, none_mapped, none_spelled}
use Rattle.trie_codec.proofs.Layouts.{bitmap_fits}
use Rattle.trie_codec.proofs.spelled_children.SpelledChildren.put_none.Goals as goal

pub overflow_mul-self : goal.overflow_mul-self
overflow_mul-self c =
    let i = c.self.inside in
    let few : length (children_in i.count i.map (drop i.start i.bytes.items)) ≤ 15 = omega (arith, ap length c.self.view_is, c.requires) in
    omega (arith, bitmap_fits (children_in i.count i.map (drop i.start i.bytes.items)) 15 few, i.mapped)

pub invariant_of-self-inside : goal.invariant_of-self-inside
invariant_of-self-inside c =
    let i = c.self.inside in
    let old = drop i.start i.bytes.items in
    let count : i.count ≡ length c.args.self.now = sym (length-children_in i.count i.map old) ∙ ap length c.self.view_is in (
      omega (arith, count, c.requires),
      (
        i.inside,
        (
          omega (arith, i.room),
          (
            none_mapped i.count i.map old i.mapped,
            (none_spelled i.count i.map old i.spelled, tt),
          ),
        ),
      ),
    )
