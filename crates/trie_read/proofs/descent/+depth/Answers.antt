use Rattle.std.proofs.Common.{ℕ, ◌+◌, ◌-◌, ◌<◌, Bool, length, arith, ap, subst, sym, ◌∙◌}
use Rattle.trie_codec.specs.NodeParts.{child_bytes, node_of_ref}
use Rattle.trie_model.specs.Node.{Node, has_child}
use Rattle.trie_codec.specs.declared.node_ref.ChildRef.{ChildRef}
use Rattle.trie_read.specs.inner.Descent.{IsSized}
use Rattle.trie_read.specs.Depth.{child_too_deep, is_long_value, too_deep}
use Rattle.trie_read.proofs.Childless.{no_branch, none_deep}
use Rattle.trie_read.proofs.Descents.{any_end, any_here, deep_below, deep_here, deep_none, has_sixteen, inline_deep, not_inline, not_past, past, past_value}
use Rattle.trie_read.proofs.descent.+depth.Goals as goal
use Rattle.trie_read.proofs.descent.+depth.Goals.{hangs_too_deep-then-at-gt-MOST_NIBBLES-via-then-at-gt-MOST_NIBBLES, hangs_too_deep-then-at-gt-MOST_NIBBLES-via-else-at-gt-MOST_NIBBLES+then-len-at, hangs_too_deep-then-at-gt-MOST_NIBBLES-via-else-at-gt-MOST_NIBBLES+else-len-at+then-is_long}

pub hangs_too_deep-returns-then-levels-eq0 : goal.hangs_too_deep-returns-then-levels-eq0
hangs_too_deep-returns-then-levels-eq0 t c =
    deep_none c.args.at (node_of_ref c.args.node.now) ∙ ap (λ (k : ℕ). too_deep k c.args.at (node_of_ref c.args.node.now)) (sym c.if-levels-eq0.true)

pub hangs_too_deep-returns-then-at-gt-MOST_NIBBLES : goal.hangs_too_deep-returns-then-at-gt-MOST_NIBBLES
hangs_too_deep-returns-then-at-gt-MOST_NIBBLES t c =
    let n = node_of_ref c.args.node.now in
    deep_here c.args.levels c.args.at n (omega arith) (elim c.then-at-gt-MOST_NIBBLES.branch [
      | hangs_too_deep-then-at-gt-MOST_NIBBLES-via-then-at-gt-MOST_NIBBLES w ↦ past c.args.at (length n.partial) (is_long_value n.value) (omega arith)
      | hangs_too_deep-then-at-gt-MOST_NIBBLES-via-else-at-gt-MOST_NIBBLES+then-len-at w ↦
          past c.args.at (length n.partial) (is_long_value n.value) (omega (arith, c.partial_len-len.ensures))
      | hangs_too_deep-then-at-gt-MOST_NIBBLES-via-else-at-gt-MOST_NIBBLES+else-len-at+then-is_long w ↦
          past_value _ n.value (ap is_long_value (sym w.value.ensures.bytes) ∙ sym w.is_long.ensures ∙ w.if-is_long.true)
    ])

pub hangs_too_deep-returns-then-is_child_too_deep : goal.hangs_too_deep-returns-then-is_child_too_deep
hangs_too_deep-returns-then-is_child_too_deep t c =
    let n = node_of_ref c.args.node.now in
    let test = child_too_deep (too_deep (c.args.levels - 1) (c.args.at + c.partial_len-len.result + 1)) in
    let here = any_here test n.children c.loop-i.i (child_bytes c.child.result) (omega (arith, has_sixteen n c.requires.node)) c.child.ensures.bytes (sym c.is_child_too_deep.ensures ∙ c.if-is_child_too_deep.true) in
    sym here ∙ c.loop-i.invariant
    ∙ deep_below c.args.levels c.args.at c.partial_len-len.result n (omega arith) c.partial_len-len.ensures
    (not_past c.args.at (length n.partial) (is_long_value n.value) (omega (arith, c.partial_len-len.ensures)) (ap is_long_value (sym c.value.ensures.bytes) ∙ sym c.is_long.ensures ∙ c.if-is_long.false))

pub hangs_too_deep-returns-in_default : goal.hangs_too_deep-returns-in_default
hangs_too_deep-returns-in_default t c =
    let n = node_of_ref c.args.node.now in
    none_deep (too_deep (c.args.levels - 1) (c.args.at + c.partial_len-len.result + 1)) n.children
    (no_branch (has_child n.children) n.value (λ e. c.in_default.not-Branch (c.kind.ensures ∙ e)))
    ∙ deep_below c.args.levels c.args.at c.partial_len-len.result n (omega arith) c.partial_len-len.ensures
    (not_past c.args.at (length n.partial) (is_long_value n.value) (omega (arith, c.partial_len-len.ensures)) (ap is_long_value (sym c.value.ensures.bytes) ∙ sym c.is_long.ensures ∙ c.if-is_long.false))

pub hangs_too_deep-returns : goal.hangs_too_deep-returns
hangs_too_deep-returns t c =
    let n = node_of_ref c.args.node.now in
    let test = child_too_deep (too_deep (c.args.levels - 1) (c.args.at + c.partial_len-len.result + 1)) in
    sym (any_end test n.children c.loop-i.i (omega (arith, has_sixteen n c.requires.node))) ∙ c.loop-i.invariant
    ∙ deep_below c.args.levels c.args.at c.partial_len-len.result n (omega arith) c.partial_len-len.ensures
    (not_past c.args.at (length n.partial) (is_long_value n.value) (omega (arith, c.partial_len-len.ensures)) (ap is_long_value (sym c.value.ensures.bytes) ∙ sym c.is_long.ensures ∙ c.if-is_long.false))

pub is_child_too_deep-returns-in_default : goal.is_child_too_deep-returns-in_default
is_child_too_deep-returns-in_default t c =
    not_inline (too_deep c.args.levels c.args.at) c.args.child c.requires.child (λ b e. c.in_default.not-Inline b e)

pub is_child_too_deep-returns-in-Ok : goal.is_child_too_deep-returns-in-Ok
is_child_too_deep-returns-in-Ok t c =
    let deep : Node → Bool = too_deep c.args.levels c.args.at in
    let short : length c.in-Inline.bytes.now < 32 = subst IsSized c.in-Inline.is c.requires.child in
    c.hangs_too_deep.ensures ∙ inline_deep deep c.in-Inline.bytes.now (node_of_ref c.in-Ok.node) short c.in-Ok.ensures.found
    ∙ ap (λ (k : ChildRef). child_too_deep deep (child_bytes k)) (sym c.in-Inline.is)
