use Rattle.std.proofs.Common.{◌≡◌, [], true, false, ap, sym, ◌∙◌, arith}
use Rattle.std.specs.Ordering.{ordering_then}
use Rattle.trie_change.proofs.ChildOrder.{child_off_way, child_on_way, decided, ends_there, goes_further, key_after, longer_same, of_longer}
use Rattle.trie_change.proofs.Orders.{key_cmp}
use Rattle.trie_change.proofs.settings.child_order.Goals as goal
use Rattle.trie_change.proofs.settings.child_order.Goals.{else-key-end-via-then-key-end+else-starts_with, else-key-end-via-else-key-end}

pub returns-then-key-end-2 : goal.returns-then-key-end-2
returns-then-key-end-2 c =
    let after = key_after c.args.end.now c.args.key.now c.if-key-end.true (sym c.starts_with.ensures.value ∙ c.if-starts_with.true) in
    sym (child_on_way c.args.end.now c.args.key.now c.args.nibble after.0 after.1
    ∙ ap (λ o. ordering_then o (key_cmp [] after.0)) (sym c.cmp.ensures ∙ c.in-Equal.is)
    ∙ ends_there c.args.end.now c.args.key.now after.0 _ after.1 c.if-key-end-2.true)

pub returns-else-key-end-2 : goal.returns-else-key-end-2
returns-else-key-end-2 c =
    let after = key_after c.args.end.now c.args.key.now c.if-key-end.true (sym c.starts_with.ensures.value ∙ c.if-starts_with.true) in
    sym (child_on_way c.args.end.now c.args.key.now c.args.nibble after.0 after.1
    ∙ ap (λ o. ordering_then o (key_cmp [] after.0)) (sym c.cmp.ensures ∙ c.in-Equal.is)
    ∙ goes_further c.args.end.now c.args.key.now after.0 _ after.1 c.if-key-end-2.false)

pub returns-in_default : goal.returns-in_default
returns-in_default c =
    let after = key_after c.args.end.now c.args.key.now c.if-key-end.true (sym c.starts_with.ensures.value ∙ c.if-starts_with.true) in
    sym (child_on_way c.args.end.now c.args.key.now c.args.nibble after.0 after.1
    ∙ ap (λ o. ordering_then o (key_cmp [] after.0)) (sym c.cmp.ensures) ∙ decided c.cmp.result (key_cmp [] after.0) c.in_default.not-Equal)

pub returns-in-Equal-cmp : goal.returns-in-Equal-cmp
returns-in-Equal-cmp c =
    sym (child_off_way c.args.end.now c.args.key.now c.args.nibble
    (λ few h. elim c.else-key-end.branch [
      | else-key-end-via-then-key-end+else-starts_with w ↦ let no : true ≡ false = sym h ∙ sym w.starts_with.ensures.value ∙ w.if-starts_with.false in cc
      | else-key-end-via-else-key-end w ↦ omega (arith, few, w.if-key-end.false)
    ])
    ∙ ap of_longer (sym c.cmp-else-key-end.ensures ∙ c.in-Equal-cmp.is))

pub returns-in_default-cmp : goal.returns-in_default-cmp
returns-in_default-cmp c =
    sym (child_off_way c.args.end.now c.args.key.now c.args.nibble
    (λ few h. elim c.else-key-end.branch [
      | else-key-end-via-then-key-end+else-starts_with w ↦ let no : true ≡ false = sym h ∙ sym w.starts_with.ensures.value ∙ w.if-starts_with.false in cc
      | else-key-end-via-else-key-end w ↦ omega (arith, few, w.if-key-end.false)
    ])
    ∙ ap of_longer (sym c.cmp-else-key-end.ensures) ∙ longer_same c.cmp-else-key-end.result c.in_default-cmp.not-Equal)
