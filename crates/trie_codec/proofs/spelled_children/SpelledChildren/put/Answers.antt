use Rattle.std.proofs.Common.{◌≡◌, ◌≤◌, ◌∷◌, Some, drop, length, ap, sym, ◌∙◌, arith}
use Rattle.trie_codec.specs.SpelledChildren.{children_in}
use Rattle.trie_codec.proofs.FromLast.{child_mapped, child_put, child_spelled, length-children_in}
use Rattle.trie_codec.proofs.Layouts.{bitmap_fits}
use Rattle.trie_codec.proofs.spelled_children.SpelledChildren.put.Goals as goal

pub put_before-self-inside-requires-clause-room : goal.put_before-self-inside-requires-clause-room
put_before-self-inside-requires-clause-room c =
    let i = c.self.inside in
    let count : i.count ≡ length c.args.self.now = sym (length-children_in i.count i.map (drop i.start i.bytes.items)) ∙ ap length c.self.view_is in
    omega (arith, count, c.requires.few, c.requires.short, i.room)

pub overflow_mul-self : goal.overflow_mul-self
overflow_mul-self c =
    let i = c.self.inside in
    let few : length (children_in i.count i.map (drop i.start i.bytes.items)) ≤ 15 = omega (arith, ap length c.self.view_is, c.requires.few) in
    omega (arith, bitmap_fits (children_in i.count i.map (drop i.start i.bytes.items)) 15 few, i.mapped)

pub overflow_add-self-2 : goal.overflow_add-self-2
overflow_add-self-2 c =
    let i = c.self.inside in
    let few : length (children_in i.count i.map (drop i.start i.bytes.items)) ≤ 15 = omega (arith, ap length c.self.view_is, c.requires.few) in
    omega (arith, bitmap_fits (children_in i.count i.map (drop i.start i.bytes.items)) 15 few, i.mapped)

pub invariant_of-self-inside : goal.invariant_of-self-inside
invariant_of-self-inside c =
    let i = c.self.inside in
    let old = drop i.start i.bytes.items in
    let put = c.put_before-self-inside in
    let count : i.count ≡ length c.args.self.now = sym (length-children_in i.count i.map old) ∙ ap length c.self.view_is in (
      omega (arith, count, c.requires.few),
      (
        omega (arith, put.ensures.start, put.ensures.len, i.inside),
        (
          omega (arith, put.ensures.start, count, c.requires.few, c.requires.short, i.room),
          (
            child_mapped i.count i.map c.args.value.now old _ put.ensures.spelled i.mapped,
            (child_spelled i.count i.map c.args.value.now old _ c.requires.short put.ensures.spelled i.spelled, tt),
          ),
        ),
      ),
    )

pub returns : goal.returns
returns c =
    let i = c.self.inside in
    child_put i.count i.map c.args.value.now (drop i.start i.bytes.items) _ c.put_before-self-inside.ensures.spelled
    ∙ ap (λ cs. Some c.args.value.now ∷ cs) c.self.view_is
